-- Document 01's case H as a history: factored, solved with a diagonal, packed, and brought back over junk; and one row of two columns of which the first is
-- frozen. Computed by the definitions that the contracts cite. Assumes nothing.
use Prim.Native.Nat.{ℕ}
use mathlib.Core.Path.{◌≡◌, refl}
use mathlib.Core.Bool.{false}
use mathlib.Core.List.{List, [], ◌∷◌}
use lib.ListN.{replicate}
use lib.Ieee.{Float, nan, binary64, round}
use Rattle.leaves.specs.Number.{plus_zero}
use Rattle.leaves.specs.Reply.{answered, refused}
use Rattle.factor.specs.State.{state_of}
use Rattle.factor.specs.declared.state.Held.TheVariants as held
use Rattle.factor.specs.declared.state.State.{State as Plain}
use Rattle.calls.specs.State.{marked, whole}
use Rattle.calls.specs.Factoring.{MarkedFactored, marked_factoring}
use Rattle.packing.specs.Packing.{PutAway, pack_call, unpack_call}
use Rattle.packing.specs.inner.Opened.{opened as packing}
use Rattle.demands.specs.Calls.{zero_solve, damped_solve, held_solve, held_product, done, run}
use Rattle.demands.specs.History.{Call, base, Outcome, of_base}
use Rattle.demands.specs.Marked.{perform_under}
use Rattle.demands.specs.Putting.{Step, call, pack, packed, perform_step, calls_of}
use Rattle.demands.specs.inner.Opened.{opened_marked}

abbrev w : ℕ → Float
w n = round binary64 false n 1

abbrev junk : ℕ → List Float
junk k = replicate k nan

-- one row of two columns and one residual, with marks; a damped solve; packed; unpacked over junk, the state that the solve left lent again
module _ (a b r marks : ℕ) where
  abbrev factored : MarkedFactored
  factored = marked_factoring 1 2 marks (w a ∷ w b ∷ []) (w r ∷ []) (junk 12) (7 ∷ 7 ∷ []) (junk 3)

  abbrev steps : List Step
  steps = call (base (damped_solve (w 1 ∷ w 1 ∷ []) (junk 2))) ∷ pack (junk 8) (7 ∷ 7 ∷ []) ∷ []

  abbrev solved : Plain × List Float
  solved = run (perform_step marks) factored.order steps (whole factored.state) factored.store

  abbrev away : PutAway
  away = pack_call (marked marks solved.0) solved.1 factored.order (junk 8) (7 ∷ 7 ∷ [])

  abbrev back : PutAway
  back = unpack_call (marked marks solved.0) away.numbers away.places (junk 13) (9 ∷ 9 ∷ 9 ∷ [])

  abbrev asked : Call → Outcome
  asked c = perform_under marks c (whole back.state) back.places back.numbers

-- a damped solve is held when it is packed, its packing changes nothing, and its answer holds what was packed
pub h_packed :
    ((solved 3 4 8 0).0 ≡ state_of 1 2 held.Damped)
    × (run (perform_under 0) (factored 3 4 8 0).order (calls_of (steps 3 4 8 0)) (whole (factored 3 4 8 0).state) (factored 3 4 8 0).store ≡ solved 3 4 8 0)
    × ((perform_step 0 (pack (junk 8) (7 ∷ 7 ∷ [])) (solved 3 4 8 0).0 (factored 3 4 8 0).order (solved 3 4 8 0).1).answer ≡ packed (answered tt) (away 3 4 8 0).numbers (1 ∷ 0 ∷ []))
unfolding opened_marked packing perform_step calls_of
h_packed = (refl, refl, refl)

-- a zero solve of the unpacked problem gives (0, 2); a held call straight after unpacking is refused 5
pub h_back :
    ((back 3 4 8 0).reply ≡ answered tt)
    × ((asked 3 4 8 0 (base (zero_solve (junk 2)))).out ≡ w 0 ∷ w 2 ∷ [])
    × ((asked 3 4 8 0 (base (held_product (junk 2)))).answer ≡ of_base (done (refused 5)))
    × ((asked 3 4 8 0 (base (held_solve (w 1 ∷ w 1 ∷ []) (junk 2)))).answer ≡ of_base (done (refused 5)))
unfolding opened_marked packing perform_step
h_back = (refl, refl, refl, refl)

-- column 0 frozen: the step of the row (3) alone, +0 at the frozen column; nothing held
pub frozen_back :
    ((back 5 3 6 32768).reply ≡ answered tt)
    × ((asked 5 3 6 32768 (base (zero_solve (junk 2)))).out ≡ plus_zero ∷ w 2 ∷ [])
    × ((asked 5 3 6 32768 (base (held_product (junk 2)))).answer ≡ of_base (done (refused 5)))
unfolding opened_marked packing perform_step
frozen_back = (refl, refl, refl)
