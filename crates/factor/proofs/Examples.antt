-- Document 01's commissioning examples E, H and L, each computed by the definitions that the contracts cite; and what H's numbers are
-- in pivot order, where the order is (1, 0) and Rᵀ·qt_b is Jᵀ·r. Assumes nothing.
use Prim.Native.Nat.{ℕ}
use mathlib.Core.Path.{◌≡◌, refl}
use mathlib.Core.Bool.{false}
use mathlib.Core.List.{List, [], ◌∷◌}
use lib.ListN.{replicate}
use lib.Ieee.{Float, nan, binary64, round}
use Rattle.leaves.specs.Reply.{answered, refused}
use Rattle.factor.specs.Factoring.{Factored, factor_call}
use Rattle.factor.specs.Solves.{zero_call}
use Rattle.factor.specs.HeldCalls.{solve_call}
use Rattle.factor.specs.Outcome.{Ended}
use Rattle.factor.specs.PivotOrder.{zero_in, damped_in, product_in, full_rank, empty_in}
use Rattle.factor.specs.inner.Opened.{opened}

-- whole numbers
abbrev w : ℕ → Float
w n = round binary64 false n 1

-- rooms full of junk
abbrev junk : ℕ → List Float
junk k = replicate k nan

-- E: J = (3 3), one row; H: J = (3 4), r = (8)
abbrev E : Factored
E = factor_call 1 2 (w 3 ∷ w 3 ∷ []) (w 8 ∷ []) (junk 12) (7 ∷ 7 ∷ []) (junk 3)

abbrev H : Factored
H = factor_call 1 2 (w 3 ∷ w 4 ∷ []) (w 8 ∷ []) (junk 12) (7 ∷ 7 ∷ []) (junk 3)

abbrev h_zero : Ended (Unit {0})
h_zero = zero_call H.state H.order H.store (junk 2)

pub examples :
    (E.order ≡ 0 ∷ 1 ∷ [])
    × (H.order ≡ 1 ∷ 0 ∷ [])
    × (h_zero.out ≡ w 0 ∷ w 2 ∷ [])
    × ((solve_call H.state H.order (junk 2) H.store (junk 2)).reply ≡ refused 5)
unfolding opened
examples = (refl, refl, refl, refl)

pub in_pivot-order :
    ((zero_in 1 2 H.store (junk 2)).out ≡ w 2 ∷ w 0 ∷ [])
    × ((damped_in 2 (w 0 ∷ w 0 ∷ []) H.store (junk 2)).out ≡ w 2 ∷ w 0 ∷ [])
    × ((product_in 2 H.store (junk 2)).out ≡ w 32 ∷ w 24 ∷ [])
    × (full_rank 1 2 H.store ≡ answered false)
    × ((empty_in 2 H.store).out ≡ H.store)
    × ((zero_in 1 2 H.store (junk 1)).reply ≡ refused 3)
    × ((zero_in 0 2 H.store (junk 2)).reply ≡ refused 2)
unfolding opened
in_pivot-order = (refl, refl, refl, refl, refl, refl, refl)
