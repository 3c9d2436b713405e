-- Calls with marks, computed by the definitions that the contracts cite: one row of two columns of which the first is frozen, both frozen, a mark past n;
-- and the question of 02, #105, with one column frozen of two. Assumes nothing.
use Prim.Native.Nat.{ℕ}
use mathlib.Core.Path.{◌≡◌, refl}
use mathlib.Core.Bool.{true, false}
use mathlib.Core.List.{List, [], ◌∷◌}
use lib.ListN.{replicate}
use lib.Ieee.{Float, nan, binary64, round}
use Rattle.leaves.specs.Norm.{neither}
use Rattle.leaves.specs.Number.{plus_zero}
use Rattle.leaves.specs.Reply.{answered, refused}
use Rattle.factor.specs.declared.state.Held.TheVariants as held
use Rattle.calls.specs.declared.state.State.{State}
use Rattle.calls.specs.State.{no_problem}
use Rattle.calls.specs.Factoring.{MarkedFactored, marked_factoring}
use Rattle.demands.specs.Calls.{zero_solve, damped_solve, held_product, above, done, truth}
use Rattle.demands.specs.History.{Call, base, search, of_base}
use Rattle.demands.specs.Marked.{MarkedOutcome, perform_marked}
use Rattle.demands.specs.inner.Opened.{opened_marked}

abbrev w : ℕ → Float
w n = round binary64 false n 1

abbrev junk : ℕ → List Float
junk k = replicate k nan

-- J = (5 3), r = (6), with marks
abbrev row : ℕ → MarkedFactored
row marks = marked_factoring 1 2 marks (w 5 ∷ w 3 ∷ []) (w 6 ∷ []) (junk 12) (7 ∷ 7 ∷ []) (junk 3)

-- column 0 frozen: the order list counts the free column, and goes on
pub one_frozen : ((row 32768).reply ≡ answered neither) × ((row 32768).state ≡ record { m = 1; n = 2; held = held.Nothing; marks = 32768 }) × ((row 32768).order ≡ 0 ∷ 1 ∷ [])
unfolding opened_marked
one_frozen = (refl, refl, refl)

abbrev does : Call → MarkedOutcome
does c = perform_marked c (row 32768).state (row 32768).order (row 32768).store

-- a step: +0 at the frozen column, what the row (3) alone gives at the free one; the surplus of the output stays
pub one_step : ((does (base (zero_solve (junk 3)))).answer ≡ of_base (done (answered tt))) × ((does (base (zero_solve (junk 3)))).out ≡ plus_zero ∷ w 2 ∷ nan ∷ [])
unfolding opened_marked
one_step = (refl, refl)

pub one_search : (does (search (w 9 ∷ w 1 ∷ []) (w 2) plus_zero (junk 2))).out ≡ plus_zero ∷ w 2 ∷ []
unfolding opened_marked
one_search = refl

-- both frozen: 9; a mark past n: 2
pub none_free : ((row 49152).reply ≡ refused 9) × ((row 49152).state ≡ no_problem) × ((row 8192).reply ≡ refused 2)
unfolding opened_marked
none_free = (refl, refl, refl)

abbrev frozen_all : State
frozen_all = record { m = 1; n = 2; held = held.Nothing; marks = 49152 }

pub refused_nine : perform_marked (base (zero_solve (junk 2))) frozen_all (0 ∷ 1 ∷ []) (row 32768).store ≡ record { answer = of_base (done (refused 9)); state = frozen_all; store = (row 32768).store; out = junk 2 }
unfolding opened_marked
refused_nine = refl

-- a damped solve holds L, and the held product after it has a number for the free column, then +0
abbrev damped : MarkedOutcome
damped = does (base (damped_solve (plus_zero ∷ w 4 ∷ []) (junk 2)))

abbrev product : MarkedOutcome
product = perform_marked (base (held_product (junk 2))) damped.state (row 32768).order damped.store

pub one_held : (damped.state ≡ record { m = 1; n = 2; held = held.Damped; marks = 32768 }) × (product.answer ≡ of_base (done (answered tt))) × (product.out ≡ round binary64 true 30 1 ∷ plus_zero ∷ [])
unfolding opened_marked
one_held = (refl, refl, refl)

-- J = 1, r = (3, 4), residual norm 5: the columns measure 0.6 and 0.8, so that under the limit 0.75 the question is answered by the second, where it is free
abbrev square : ℕ → MarkedFactored
square marks = marked_factoring 2 2 marks (w 1 ∷ plus_zero ∷ plus_zero ∷ w 1 ∷ []) (w 3 ∷ w 4 ∷ []) (junk 12) (7 ∷ 7 ∷ []) (junk 6)

abbrev asks : ℕ → MarkedOutcome
asks marks = perform_marked (base (above (w 5) (round binary64 false 3 4))) (square marks).state (square marks).order (square marks).store

pub one_asked :
    ((asks 32768).answer ≡ of_base (truth (answered true)))
    × ((asks 16384).answer ≡ of_base (truth (answered false)))
    × ((asks 0).answer ≡ of_base (truth (answered true)))
unfolding opened_marked
one_asked = (refl, refl, refl)

-- both frozen: 7 for a limit below zero, then 9
abbrev asks_below : Float → MarkedOutcome
asks_below limit = perform_marked (base (above (w 5) limit)) frozen_all (0 ∷ 1 ∷ []) (row 32768).store

pub asked_nine : ((asks_below (round binary64 true 1 1)).answer ≡ of_base (truth (refused 7))) × ((asks_below plus_zero).answer ≡ of_base (truth (refused 9)))
unfolding opened_marked
asked_nine = (refl, refl)
