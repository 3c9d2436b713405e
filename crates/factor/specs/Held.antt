-- 01, 'Lent room': the two held calls of `CholeskyFactor`, for a held zero solve (R itself) and a held damped one (L).
use Rattle.std.specs.Prelude.{List, [], ◌∷◌, ◌++◌, map, length, take, get_or, Float}
use Rattle.std.specs.Float.{nan, binary64}
use Rattle.std.specs.Float.Ieee.{add, sub, mul, div, neg}
use Rattle.leaves.specs.Vector.{dot_of, axpy_all}
use Rattle.factor.specs.Room.{Room}
use Rattle.leaves.specs.Square.{zeros}
use Rattle.factor.specs.declared.state.Held.{Held}
use Rattle.factor.specs.declared.state.Held.TheVariants as held

-- forward with R's columns: what is done, then the rest
unfoldable pub forward_upper : List Float → List (List Float) → List Float → List Float
forward_upper xs [] bs = xs
forward_upper xs (c ∷ cs) [] = xs
forward_upper xs (c ∷ cs) (b ∷ bs) =
    let x = div binary64 (sub binary64 b (dot_of xs (take (length xs) c))) (get_or c (length xs) nan) in
    forward_upper (xs ++ (x ∷ [])) cs bs

-- forward with L: a place is divided by L's diagonal, then the negated result times the column under it is added below
unfoldable pub forward_lower : List Float → List (List Float) → List Float → List Float
forward_lower [] ls bs = []
forward_lower (d ∷ ds) [] bs = []
forward_lower (d ∷ ds) (l ∷ ls) [] = []
forward_lower (d ∷ ds) (l ∷ ls) (b ∷ bs) = let x = div binary64 b d in x ∷ forward_lower ds ls (axpy_all (neg x) l bs)

-- with the right side's entries in pivot order
unfoldable pub held_solved : Held → List Float → Room → List Float
held_solved held.Empty bs r = []
held_solved held.Nothing bs r = []
held_solved held.Zero bs r = forward_upper [] r.upper bs
held_solved held.Damped bs r = forward_lower r.ldiag r.below bs

-- L·qt_b with R's columns as the rows of L
unfoldable pub mul_upper : List Float → List (List Float) → List Float
mul_upper q cs = map (λ c. dot_of (take (length c) q) c) cs

-- and with L by columns: qt_b's entry times the column is added below, then times L's diagonal at its own place
unfoldable pub mul_lower : List Float → List Float → List (List Float) → List Float → List Float
mul_lower [] ds ls os = os
mul_lower (q ∷ qs) [] ls os = os
mul_lower (q ∷ qs) (d ∷ ds) [] os = os
mul_lower (q ∷ qs) (d ∷ ds) (l ∷ ls) [] = []
mul_lower (q ∷ qs) (d ∷ ds) (l ∷ ls) (o ∷ os) = add binary64 o (mul binary64 q d) ∷ mul_lower qs ds ls (axpy_all q l os)

unfoldable pub held_product_of : Held → Room → List Float
held_product_of held.Empty r = []
held_product_of held.Nothing r = []
held_product_of held.Zero r = mul_upper r.qtb r.upper
held_product_of held.Damped r = mul_lower r.qtb r.ldiag r.below (zeros (length r.qtb))
