-- 02, #108, on document 01's case H, J = (3 4), one row, with one column frozen, each computed by the definitions that the contracts cite. The
-- oracle answers each of them the same. Assumes nothing.
use Prim.Native.Nat.{ℕ}
use mathlib.Core.Path.{◌≡◌, refl}
use mathlib.Core.Bool.{false}
use mathlib.Core.List.{List, [], ◌∷◌}
use lib.ListN.{replicate}
use lib.Ieee.{Float, nan, binary64, round}
use Rattle.leaves.specs.Number.{plus_zero}
use Rattle.leaves.specs.Reply.{answered, refused}
use Rattle.measures.specs.declared.scaling.Mode.TheVariants as mode
use Rattle.calls.specs.declared.state.State.{State}
use Rattle.calls.specs.State.{no_problem}
use Rattle.calls.specs.Factoring.{MarkedFactored, marked_factored, marked_factoring}
use Rattle.calls.specs.Solves.{marked_zero}
use Rattle.calls.specs.HeldCalls.{marked_mul}
use Rattle.calls.specs.Measures.{marked_determined}
use Rattle.calls.specs.Rescale.{marked_scaling}
use Rattle.calls.specs.Search.{marked_search}
use Rattle.calls.specs.Outcome.{MarkedEnded}
use Rattle.calls.specs.inner.Opened.{opened}

-- whole numbers, and rooms full of junk
abbrev w : ℕ → Float
w n = round binary64 false n 1

abbrev junk : ℕ → List Float
junk k = replicate k nan

-- the first column is the most significant of sixteen bits
abbrev H : ℕ → MarkedFactored
H marks = marked_factoring 1 2 marks (w 3 ∷ w 4 ∷ []) (w 8 ∷ []) (junk 12) (7 ∷ 7 ∷ []) (junk 3)

abbrev first_frozen : MarkedFactored
first_frozen = H 32768

abbrev zero : MarkedFactored → MarkedEnded (Unit {0})
zero f = marked_zero f.state f.order f.store (junk 2)

-- with no mark the step is (0, 2), as document 01 has it; with column 0 frozen column 1 alone is worked on: 8/4
pub steps :
    ((zero (H 0)).out ≡ plus_zero ∷ w 2 ∷ [])
    × ((zero first_frozen).out ≡ plus_zero ∷ w 2 ∷ [])
    × ((zero first_frozen).state ≡ record { m = 1; n = 2; held = (zero (H 0)).state.held; marks = 32768 })
    × ((marked_mul (zero first_frozen).state (zero first_frozen).store (junk 2)).out ≡ w 32 ∷ plus_zero ∷ [])
    × ((marked_scaling first_frozen.state mode.FirstScaled (junk 2) (w 1 ∷ w 1 ∷ []) (w 1) first_frozen.store).out ≡ w 1 ∷ w 4 ∷ [])
    × ((marked_scaling first_frozen.state mode.LaterScaled (w 9 ∷ w 2 ∷ []) [] (w 1) first_frozen.store).out ≡ w 9 ∷ w 4 ∷ [])
    × ((marked_determined first_frozen.state first_frozen.store).reply ≡ answered 1)
unfolding opened
steps = (refl, refl, refl, refl, refl, refl, refl)

-- the list counts among the free columns and goes on: (0, 1) is one, (1, 0) is none
pub lists :
    (first_frozen.order ≡ 0 ∷ 1 ∷ [])
    × ((marked_zero first_frozen.state (1 ∷ 0 ∷ []) first_frozen.store (junk 2)).reply ≡ refused 4)
unfolding opened
lists = (refl, refl)

abbrev none_free : State
none_free = record { m = 1; n = 2; held = first_frozen.state.held; marks = 49152 }

-- a mark past n is 2; no column free is 9, after a radius of zero, and nothing is changed
pub refusals :
    (H 8192 ≡ marked_factored (refused 2) no_problem (junk 12) (7 ∷ 7 ∷ []) (junk 3))
    × (H 49152 ≡ marked_factored (refused 9) no_problem (junk 12) (7 ∷ 7 ∷ []) (junk 3))
    × (((marked_search none_free (0 ∷ 1 ∷ []) (w 1 ∷ w 1 ∷ []) plus_zero plus_zero (junk 12) (junk 2)).reply ≡ refused 7)
    × ((marked_search none_free (0 ∷ 1 ∷ []) (w 1 ∷ w 1 ∷ []) (w 1) plus_zero (junk 12) (junk 2)).reply ≡ refused 9))
unfolding opened
refusals = (refl, refl, (refl, refl))
