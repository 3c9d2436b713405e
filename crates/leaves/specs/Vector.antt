-- 01, 'Leaf rules', dot, axpy and imax; and copies.
use Rattle.std.specs.Prelude.{ℕ, suc, cond, List, [], ◌∷◌, eqb, length, Float}
use Rattle.std.specs.Float.{binary64}
use Rattle.std.specs.Float.Ieee.{add, mul, lt}
use Rattle.leaves.specs.Reply.{Reply, answered, refused}
use Rattle.leaves.specs.Number.{plus_zero}

-- A leaf that takes two slices refuses 3 where they differ in length.
abbrev pub alike : {A : Type 0} → List Float → List Float → A → A → A
alike xs ys same differ = cond (eqb (length xs) (length ys)) same differ

-- `dot`: +0, then products added by rising index.
unfoldable pub dot_from : Float → List Float → List Float → Float
dot_from s [] ys = s
dot_from s (x ∷ xs) [] = s
dot_from s (x ∷ xs) (y ∷ ys) = dot_from (add binary64 s (mul binary64 x y)) xs ys

abbrev pub dot_of : List Float → List Float → Float
dot_of xs ys = dot_from plus_zero xs ys

unfoldable pub dot : List Float → List Float → Reply Float
dot xs ys = alike xs ys (answered (dot_of xs ys)) (refused 3)

-- `axpy(a,x,1)`: a·x + y, place by place.
unfoldable pub axpy_all : Float → List Float → List Float → List Float
axpy_all a [] ys = ys
axpy_all a (x ∷ xs) [] = []
axpy_all a (x ∷ xs) (y ∷ ys) = add binary64 (mul binary64 a x) y ∷ axpy_all a xs ys

unfoldable pub axpy : Float → List Float → List Float → Reply (Unit {0}) × List Float
axpy a xs ys = alike xs ys (answered tt, axpy_all a xs ys) (refused 3, ys)

-- `axpy` with last factor 0: a·x.
unfoldable pub scale_all : Float → List Float → List Float
scale_all a [] = []
scale_all a (x ∷ xs) = mul binary64 a x ∷ scale_all a xs

unfoldable pub axpy_zero : Float → List Float → List Float → Reply (Unit {0}) × List Float
axpy_zero a xs ys = alike xs ys (answered tt, scale_all a xs) (refused 3, ys)

-- `imax`: it starts at place 0 and moves only to a later entry that compares greater than the one where it stands.
unfoldable pub imax_from : ℕ → Float → ℕ → List Float → ℕ
imax_from b v i [] = b
imax_from b v i (x ∷ xs) = imax_from (cond (lt v x) i b) (cond (lt v x) x v) (suc i) xs

abbrev pub imax_of : List Float → ℕ
imax_of [] = 0
imax_of (x ∷ xs) = imax_from 0 x 1 xs

unfoldable pub imax : List Float → Reply ℕ
imax [] = refused 3
imax (x ∷ xs) = answered (imax_of (x ∷ xs))

unfoldable pub copy : List Float → List Float → Reply (Unit {0}) × List Float
copy xs ys = alike xs ys (answered tt, xs) (refused 3, ys)
