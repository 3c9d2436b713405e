-- 02, #108: what a call leaves, as its callers see it, and how the reduced problem's call is read as one of the lent problem.
use Rattle.std.specs.Prelude.{ℕ, zero, suc, List, [], ◌∷◌, Float}
use Rattle.leaves.specs.Reply.{Reply, answered, refused}
use Rattle.leaves.specs.Square.{zeros}
use Rattle.frozen.specs.Frozen.{merged}
use Rattle.frozen.specs.Narrowed.{narrowed}
use Rattle.factor.specs.Room.{load, lay, leaving, rested, emptied}
use Rattle.factor.specs.Solve.{padded}
use Rattle.factor.specs.Outcome.{written}
use Rattle.factor.specs.Outcome as plain
use Rattle.calls.specs.declared.state.State.{State}
use Rattle.calls.specs.State.{marked_held, marked, marks_in, cols}

-- a call's answer and state, and the store after it
pub record MarkedTold (A : Type 0) : Type 0 where
  pub reply : Reply A
  pub state : State
  pub store : List Float

-- and with a lent output or a lent scaling
pub record MarkedEnded (A : Type 0) : Type 0 where
  pub reply : Reply A
  pub state : State
  pub store : List Float
  pub out : List Float

abbrev pub marked_told : {A : Type 0} → Reply A → State → List Float → MarkedTold A
marked_told a st s = record { reply = a; state = st; store = s }

abbrev pub marked_ended : {A : Type 0} → Reply A → State → List Float → List Float → MarkedEnded A
marked_ended a st s o = record { reply = a; state = st; store = s; out = o }

-- ---- with no mark: what the call without marks leaves, the marks beside it
abbrev pub told_as : {A : Type 0} → State → plain.Told A → MarkedTold A
told_as st t = marked_told t.reply (marked st.marks t.state) t.store

abbrev pub ended_as : {A : Type 0} → State → plain.Ended A → MarkedEnded A
ended_as st e = marked_ended e.reply (marked st.marks e.state) e.store e.out

-- ---- with marks: what goes in, and what comes back

-- the lent store without the frozen columns, as a store of its own
abbrev pub narrowed_in : State → List Float → List Float
narrowed_in st store = narrowed st.n (cols st) store

-- A call that is no solve: work +0.
abbrev pub rested_store : State → List Float → List Float
rested_store st store = lay (rested (load st.n store))

-- A zero solve or a search: lower part, l_diag and work +0.
abbrev pub emptied_store : State → List Float → List Float
emptied_store st store = lay (emptied (load st.n store))

-- what stands below R's diagonal of n columns: the reduced problem's, then +0
unfoldable pub widened : ℕ → List (List Float) → List (List Float)
widened zero ls = []
widened (suc k) [] = zeros k ∷ widened k []
widened (suc k) (l ∷ ls) = padded k l ∷ widened k ls

-- A damped solve: lower part and l_diag those of the reduced problem, then +0.
abbrev pub widened_store : State → List Float → List Float → List Float
widened_store st small store =
    let r = load (cols st) small in
    lay (leaving (widened st.n r.below) (padded st.n r.ldiag) (load st.n store))

-- A step: the free columns' entries at their columns, +0 at the frozen ones. A refusal writes nothing.
abbrev pub step_out : {A : Type 0} → State → Reply A → List Float → List Float → List Float
step_out st (answered a) x out = written (merged (marks_in st) (zeros st.n) x) out
step_out st (refused k) x out = out

-- A held call: +0 in the places past the free count.
abbrev pub held_out : {A : Type 0} → State → Reply A → List Float → List Float → List Float
held_out st (answered a) x out = written (padded st.n x) out
held_out st (refused k) x out = out

-- the reduced problem's call read as one of the lent problem
abbrev pub rested_by : {A : Type 0} → State → List Float → plain.Told A → MarkedTold A
rested_by st store t = marked_told t.reply st (rested_store st store)

abbrev pub held_by : {A : Type 0} → State → List Float → List Float → plain.Ended A → MarkedEnded A
held_by st store out e = marked_ended e.reply st (rested_store st store) (held_out st e.reply e.out out)

abbrev pub emptied_by : {A : Type 0} → State → List Float → List Float → plain.Ended A → MarkedEnded A
emptied_by st store out e = marked_ended e.reply (marked_held st e.state.held) (emptied_store st store) (step_out st e.reply e.out out)

abbrev pub widened_by : {A : Type 0} → State → List Float → List Float → plain.Ended A → MarkedEnded A
widened_by st store out e = marked_ended e.reply (marked_held st e.state.held) (widened_store st e.store store) (step_out st e.reply e.out out)
