-- The three demands for the calls with marks (02, #108), as theorems. Read from top to bottom; each theorem is proved in the file that it cites.
--
-- They are over the definitions that the contracts of `calls` cite: `perform_marked c st order store` is what call c leaves by its own definition, and
-- `tests_marked` are its tests. `without_frozen st` is the problem without the frozen columns, `reduced_call st c` the call without marks on it: its slices without the
-- frozen columns; `narrowed_in st store` the lent store without them; `read_back` how its outcome is read as one of the lent problem (`specs/Marked.antt`).
-- `perform_under marks c` is the call by a number of marks on states that know none: the state that it returns has the same marks (`demand_3_frozen_kept`).
--
-- Assumes nothing.
use Prim.Native.Nat.{ℕ, ◌<◌, ◌≤◌}
use mathlib.Core.Path.{◌≡◌}
use mathlib.Core.Bool.{true, false}
use mathlib.Core.List.{List, [], ◌++◌}
use mathlib.Core.Logic.{◌↔◌, ◌⊎◌, inl}
use lib.ListN.{length, take, drop, get_or}
use lib.Ieee.{Float, nan, binary64, sub, lt, le}
use Rattle.leaves.specs.Loop.{count_from}
use Rattle.leaves.specs.Number.{plus_zero, dwarf}
use Rattle.leaves.specs.Refusing.{NoneHold, RefusedBy}
use Rattle.leaves.specs.Reply.{answered, refused}
use Rattle.leaves.specs.Square.{zeros}
use Rattle.leaves.specs.declared.norm.Ranges.{Ranges}
use Rattle.frozen.specs.Frozen.{marks_of, free_count, free_of, free_columns}
use Rattle.factor.specs.Factoring as plain
use Rattle.factor.specs.Factoring.{finite_room}
use Rattle.factor.specs.Outcome.{written}
use Rattle.factor.specs.Room.{load}
use Rattle.factor.specs.State.{is_empty, store_need, bench_need}
use Rattle.factor.specs.declared.state.State.{State as Plain}
use Rattle.search.specs.Against.{lent_of}
use Rattle.search.specs.Bounds.{band}
use Rattle.search.specs.Ending.{ending}
use Rattle.search.specs.Enorm.{minpack_enorm}
use Rattle.search.specs.Lmpar.{lmpar}
use Rattle.search.specs.Problem.{Problem, undamped_step, scaled_norm}
use Rattle.search.specs.Run.{within, falling, run_of}
use Rattle.search.specs.Search.{Flagged, problem_of}
use Rattle.calls.specs.declared.state.State.{State}
use Rattle.calls.specs.State.{no_problem, marked_held, marked, marks_in, cols, whole, without_frozen}
use Rattle.calls.specs.Factoring.{marked_factored, marked_factor_tests, factored_as, marked_factoring}
use Rattle.calls.specs.Outcome.{narrowed_in}
use Rattle.calls.specs.Search.{marked_search}
use Rattle.demands.specs.Alike.{Kept, ToldAlike, SameContents}
use Rattle.demands.specs.Calls.{run, latest, reply_number}
use Rattle.demands.specs.Eight.{Breaks, Stands}
use Rattle.demands.specs.Factorings.{room_made}
use Rattle.demands.specs.History.{Call, number_of, perform, is_solve}
use Rattle.demands.specs.Refusals.{tests_of}
use Rattle.demands.specs.Marked.{perform_marked, tests_marked, with_marks, refusal_marked, reduced_call, reduced_outcome, answers, read_back, ReadAs, perform_under, settling_under, reduced_run}
use Rattle.demands.proofs.MarkedForms.{no_marks, factoring_no_marks}
use Rattle.demands.proofs.ReducedTests.{reduced-passes}
use Rattle.demands.proofs.FrozenTable.{frozen_refused, frozen_unchanged, frozen_eight, frozen_answered, frozen_is_reduced, frozen_any_slices, marks-kept}
use Rattle.demands.proofs.FrozenSteps.{frozen_step_zero, frozen_search-lmpar, frozen_lambda, frozen_trials}
use Rattle.demands.proofs.FrozenHistories.{marks_return, frozen_never_changed, frozen_any_history}
use Rattle.demands.proofs.FrozenAsFresh.{frozen_as_fresh}
use Rattle.demands.proofs.FrozenFresh.{frozen_flags, frozen_as_reduced}
use Rattle.demands.proofs.FrozenFactoring.{factoring-refused, factoring_unchanged, factoring_eight, factoring_eight_left, factoring-answered, frozen_after_refused}

-- ==== With no mark every call is the call without marks, of which `proofs/Demands.antt` speaks, the marks beside its state; and so is factoring.

pub frozen_none : (st : State) (order : List ℕ) (store : List Float) (c : Call) → st.marks ≡ 0 → perform_marked c st order store ≡ with_marks st.marks (perform c (whole st) order store)
frozen_none = no_marks

pub frozen_none_factoring : (m n : ℕ) (jacobian residuals store : List Float) (order : List ℕ) (bench : List Float)
    → marked_factoring m n 0 jacobian residuals store order bench ≡ factored_as (plain.factor_call m n jacobian residuals store order bench)
frozen_none_factoring = factoring_no_marks

-- ==== Demand 1. The refusal numbers, with 9, no column free, after 7 and before 8, 2 also for a mark past n and 4 also for an order list not of its form.

-- A call with marks is refused k, from 2 to 9 but 8, exactly when k's condition is the first that holds ..
pub demand_1_frozen_refused : (c : Call) (st : State) (order : List ℕ) (store : List Float) → (st.marks ≡ 0 → ⊥) → (k : ℕ) → 0 < k → (k ≡ 8 → ⊥)
    → (number_of (perform_marked c st order store).answer ≡ k) ↔ RefusedBy (tests_marked c st order store) k
demand_1_frozen_refused = frozen_refused

-- .. and then state, store and output are as they came.
pub demand_1_frozen_unchanged : (c : Call) (st : State) (order : List ℕ) (store : List Float) → (st.marks ≡ 0 → ⊥) → (k : ℕ) → 0 < k → RefusedBy (tests_marked c st order store) k
    → perform_marked c st order store ≡ refusal_marked c k st store
demand_1_frozen_unchanged = frozen_unchanged

-- It is refused 8 exactly when no condition holds and the call on the problem without the frozen columns breaks ..
pub demand_1_frozen_eight : (c : Call) (st : State) (order : List ℕ) (store : List Float) → (st.marks ≡ 0 → ⊥)
    → (number_of (perform_marked c st order store).answer ≡ 8) ↔ (NoneHold (tests_marked c st order store) × Breaks (reduced_call st c) (without_frozen st) (take (cols st) order) (narrowed_in st store))
demand_1_frozen_eight = frozen_eight

-- .. and otherwise it is answered.
pub demand_1_frozen_answered : (c : Call) (st : State) (order : List ℕ) (store : List Float) → (st.marks ≡ 0 → ⊥)
    → (number_of (perform_marked c st order store).answer ≡ 0) ↔ (NoneHold (tests_marked c st order store) × Stands (reduced_call st c) (without_frozen st) (take (cols st) order) (narrowed_in st store))
demand_1_frozen_answered = frozen_answered

-- Where no condition holds, none of that call's holds.
pub demand_1_frozen_passes : (st : State) (order : List ℕ) (store : List Float) (c : Call) → NoneHold (tests_marked c st order store)
    → NoneHold (tests_of (reduced_call st c) (without_frozen st) (take (cols st) order) (narrowed_in st store))
demand_1_frozen_passes = reduced-passes

-- Factoring: `free` columns of n are free. Refused by a test, the lent slices as they came and the state empty; refused 8 exactly when the factoring of the
-- Jacobian without the frozen columns is, all as after a factoring without marks that is refused 8; or answered. After a refused factoring every call answers 5.
module _ (m n marks : ℕ) (jacobian residuals store : List Float) (order : List ℕ) (bench : List Float) where
  abbrev free : ℕ
  free = free_count (marks_of n marks)

  pub demand_1_frozen_factoring_refused : (marks ≡ 0 → ⊥) → (k : ℕ) → 0 < k → (k ≡ 8 → ⊥)
      → (reply_number (marked_factoring m n marks jacobian residuals store order bench).reply ≡ k) ↔ RefusedBy (marked_factor_tests m n marks jacobian residuals (length store) (length order) (length bench)) k
  demand_1_frozen_factoring_refused = factoring-refused m n marks jacobian residuals store order bench

  pub demand_1_frozen_factoring_unchanged : (marks ≡ 0 → ⊥) → (k : ℕ) → 0 < k → RefusedBy (marked_factor_tests m n marks jacobian residuals (length store) (length order) (length bench)) k
      → marked_factoring m n marks jacobian residuals store order bench ≡ marked_factored (refused k) no_problem store order bench
  demand_1_frozen_factoring_unchanged = factoring_unchanged m n marks jacobian residuals store order bench

  pub demand_1_frozen_factoring_eight : (marks ≡ 0 → ⊥) → (reply_number (marked_factoring m n marks jacobian residuals store order bench).reply ≡ 8)
      ↔ (NoneHold (marked_factor_tests m n marks jacobian residuals (length store) (length order) (length bench))
      × (finite_room (room_made m free (free_columns m (marks_of n marks) jacobian) residuals (zeros (store_need free))) ≡ false))
  demand_1_frozen_factoring_eight = factoring_eight m n marks jacobian residuals store order bench

  pub demand_1_frozen_factoring_eight_left : (marks ≡ 0 → ⊥) → reply_number (marked_factoring m n marks jacobian residuals store order bench).reply ≡ 8
      → marked_factoring m n marks jacobian residuals store order bench ≡ marked_factored (refused 8) no_problem (written (zeros (store_need n)) store) (count_from n 0 ++ drop n order) (written (zeros (bench_need m n)) bench)
  demand_1_frozen_factoring_eight_left = factoring_eight_left m n marks jacobian residuals store order bench

  pub demand_1_frozen_factoring_answered : (marks ≡ 0 → ⊥) → (reply_number (marked_factoring m n marks jacobian residuals store order bench).reply ≡ 0)
      ↔ (NoneHold (marked_factor_tests m n marks jacobian residuals (length store) (length order) (length bench))
      × (finite_room (room_made m free (free_columns m (marks_of n marks) jacobian) residuals (zeros (store_need free))) ≡ true))
  demand_1_frozen_factoring_answered = factoring-answered m n marks jacobian residuals store order bench

  pub demand_1_frozen_after_refused : (k : ℕ) → (marked_factoring m n marks jacobian residuals store order bench).reply ≡ refused k → (c : Call) (o : List ℕ) (t : List Float)
      → perform_marked c (marked_factoring m n marks jacobian residuals store order bench).state o t ≡ refusal_marked c 5 no_problem t
  demand_1_frozen_after_refused = frozen_after_refused m n marks jacobian residuals store order bench

-- ==== Demand 2. "Every call answers as on the problem without the frozen columns."

-- A call that passes its tests leaves what the call without marks leaves on that problem, read back: its answer, flags and refusal 8 too, what it holds, ..
pub demand_2_frozen_reduced : (c : Call) (st : State) (order : List ℕ) (store : List Float) → (st.marks ≡ 0 → ⊥) → NoneHold (tests_marked c st order store)
    → perform_marked c st order store ≡ read_back c st store (reduced_outcome c st order store)
demand_2_frozen_reduced = frozen_is_reduced

-- .. and so it does by that call's outcome in any other slices that hold the same problem.
pub demand_2_frozen_slices : (c : Call) (st : State) (order : List ℕ) (store : List Float) → (st.marks ≡ 0 → ⊥) → NoneHold (tests_marked c st order store) → cols st ≤ length order
    → (o : List ℕ) (t : List Float) → cols st ≤ length o → take (cols st) o ≡ take (cols st) order → SameContents (without_frozen st) (narrowed_in st store) t
    → ReadAs c st (perform (reduced_call st c) (without_frozen st) o t) (perform_marked c st order store)
demand_2_frozen_slices = frozen_any_slices

-- A step, of a zero solve, a damped solve or a search, is +0 at every frozen column.
pub demand_2_frozen_step : (c : Call) (st : State) (order : List ℕ) (store : List Float) → is_solve c ≡ true → answers (perform_marked c st order store).answer ≡ true
    → (k : ℕ) → get_or (marks_in st) k false ≡ true → get_or (perform_marked c st order store).out k nan ≡ plus_zero
demand_2_frozen_step = frozen_step_zero

-- An answered search with marks.
module _ (st : State) (order : List ℕ) (diag : List Float) (radius lambda : Float) (store out : List Float) (a : Flagged) (some : st.marks ≡ 0 → ⊥)
    (h : (marked_search st order diag radius lambda store out).reply ≡ answered a) where
  abbrev asked : Problem
  asked = problem_of (without_frozen st) (take (cols st) order) (free_of (marks_in st) diag) radius (load (cols st) (narrowed_in st store))

  abbrev overshoot : Float
  overshoot = sub binary64 (scaled_norm asked (undamped_step asked)) radius

  -- Where m is not below the free count, its entries at the free columns are LMPAR's x, with LMPAR's par and its calls of QRSOLV.
  pub demand_2_frozen_search : (unset : Float) → cols st ≤ st.m
      → lmpar (minpack_enorm unset) dwarf (lent_of (without_frozen st) (take (cols st) order) (free_of (marks_in st) diag) radius (narrowed_in st store)) lambda
      ≡ record { x = free_of (marks_in st) (take st.n (marked_search st order diag radius lambda store out).out); par = a.0.lambda; qrsolvs = a.0.trials }
  demand_2_frozen_search = frozen_search-lmpar st order diag radius lambda store out a some h

  -- The rules on lambda and on trials, by the undamped step without the frozen columns.
  pub demand_3_frozen_lambda : (a.0.lambda ≡ plus_zero) ↔ (le overshoot (band radius) ≡ true)
  demand_3_frozen_lambda = frozen_lambda st order diag radius lambda store out a some h

  pub demand_3_frozen_trials : le overshoot (band radius) ≡ false
      → (lt plus_zero a.0.lambda ≡ true)
      × ((1 ≤ a.0.trials) × ((a.0.trials ≤ 10) × (a.0.trials < 10 → (ending (run_of asked lambda) ≡ inl within) ⊎ (ending (run_of asked lambda) ≡ inl falling))))
  demand_3_frozen_trials = frozen_trials st order diag radius lambda store out a some h

-- After a factoring with marks and any run of calls, a call that passes its tests tells what the call without marks tells after a factoring of the Jacobian without the
-- frozen columns, in any slices, and the run of those calls that passed; and the two factorings answer the same flags.
module _ (m n marks : ℕ) (jacobian residuals store : List Float) (order : List ℕ) (bench : List Float) (t : List Float) (p : List ℕ) (d : List Float) (some : marks ≡ 0 → ⊥) where
  pub demand_2_frozen_factored : {f g : Ranges}
      → (let one = marked_factoring m n marks jacobian residuals store order bench in
      let other = plain.factor_call m (free_count (marks_of n marks)) (free_columns m (marks_of n marks) jacobian) residuals t p d in
      one.reply ≡ answered f → other.reply ≡ answered g → (cs : List Call) (c : Call)
      → (let x = run (perform_under marks) one.order cs (whole one.state) one.store in
      let y = run perform other.order (reduced_run marks one.order cs (whole one.state) one.store) other.state other.store in
      NoneHold (tests_marked c (marked marks x.0) one.order x.1)
      → ReadAs c (marked marks x.0) (perform (reduced_call (marked marks x.0) c) y.0 other.order y.1) (perform_marked c (marked marks x.0) one.order x.1)))
  demand_2_frozen_factored = frozen_as_reduced m n marks jacobian residuals store order bench t p d some

  pub demand_2_frozen_flags : {f g : Ranges} → (marked_factoring m n marks jacobian residuals store order bench).reply ≡ answered f
      → (plain.factor_call m (free_count (marks_of n marks)) (free_columns m (marks_of n marks) jacobian) residuals t p d).reply ≡ answered g → f ≡ g
  demand_2_frozen_flags = frozen_flags m n marks jacobian residuals store order bench t p d some

-- ==== Demand 3, for any number of marks, 0 too.

-- Sizes and marks stay, whatever a call answers: passing the returned state on is passing on what it holds.
pub demand_3_frozen_kept : (c : Call) (st : State) (order : List ℕ) (store : List Float) → (perform_marked c st order store).state ≡ marked_held st (perform_marked c st order store).state.held
demand_3_frozen_kept = marks-kept

pub demand_3_frozen_return : (marks : ℕ) (c : Call) (st : Plain) (order : List ℕ) (store : List Float) → marked marks (perform_under marks c st order store).state ≡ (perform_marked c (marked marks st) order store).state
demand_3_frozen_return = marks_return

-- Two factorings of the same Jacobian and residuals with the same marks, each in its own lent slices; a run of calls after the one, and after the other the
-- latest of them that settled: then any call tells the same, answer, state and output.
pub demand_3_frozen_as_fresh : (m n marks : ℕ) (jacobian residuals store store' : List Float) (order order' : List ℕ) (bench bench' : List Float) {f g : Ranges}
    → (let one = marked_factoring m n marks jacobian residuals store order bench in
    let other = marked_factoring m n marks jacobian residuals store' order' bench' in
    one.reply ≡ answered f → other.reply ≡ answered g → (cs : List Call) (c : Call)
    → (let x = run (perform_under marks) one.order cs (whole one.state) one.store in
    let y = run (perform_under marks) other.order (latest (perform_under marks) one.order (settling_under marks) [] cs (whole one.state) one.store) (whole other.state) other.store in
    ToldAlike (perform_under marks c x.0 one.order x.1) (perform_under marks c y.0 other.order y.1)))
demand_3_frozen_as_fresh = frozen_as_fresh

-- The same in any two stores that hold the same R, qt_b, norms, lower part and l_diag, whatever is in work and surplus.
pub demand_3_frozen_any_store : (marks : ℕ) (order : List ℕ) (st : Plain) (store store' : List Float) → is_empty st.held ≡ false → SameContents st store store' → (cs : List Call) (c : Call)
    → (let x = run (perform_under marks) order cs st store in
    let y = run (perform_under marks) order (latest (perform_under marks) order (settling_under marks) [] cs st store) st store' in
    ToldAlike (perform_under marks c x.0 order x.1) (perform_under marks c y.0 order y.1))
demand_3_frozen_any_store = frozen_any_history

-- R and its diagonal never change a bit, nor do qt_b, the column norms and the surplus.
pub demand_3_frozen_never_changed : (marks : ℕ) (order : List ℕ) (cs : List Call) (st : Plain) (store : List Float) → Kept (load st.n store) (load st.n (run (perform_under marks) order cs st store).1)
demand_3_frozen_never_changed = frozen_never_changed
