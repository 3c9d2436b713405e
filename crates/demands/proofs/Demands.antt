-- The three demands, as theorems. Read from top to bottom; each theorem is proved in the file that it cites.
-- They are over the definitions that the contracts of the public functions cite: each contract is one equation with its definition. `proofs/Ties.antt`
-- says for each function that takes a state without marks, for factoring and for a sheet, that whatever its contract lets it leave (answer, state and every lent
-- slice) is what `perform c st order store` gives, `factor_call` or `sheet_call`. Beside each contract stands a theorem that no second outcome fits it
-- (`NAME-one_outcome`). The words that the statements use stand in `specs/` of the crates that they speak of (`tools/believed` lists them). Assumes nothing.
use Prim.Native.Nat.{ℕ, ◌<◌, ◌≤◌}
use mathlib.Core.Path.{◌≡◌, sym, ◌∙◌}
use mathlib.Core.Bool.{true, false}
use mathlib.Core.List.{List, []}
use mathlib.Core.Logic.{◌↔◌, ◌⊎◌, inl}
use contract.Lifetimes.{Lfts}
use denote.Triple.Clauses.{AtExit}
use borrow.Fn.World.{ArgsD}
use borrow.Fn.Kinds.{ended_of}
use lib.Dec.{T}
use lib.ListN.{length, take}
use lib.Ieee.{Float, binary64, fits, sub, lt, le}
use Rattle.leaves.specs.declared.reply.Told.{Told}
use Rattle.search.specs.declared.LMParameter.{LMParameter}
use Rattle.leaves.specs.Reply.{answered, refused}
use Rattle.leaves.specs.Number.{plus_zero, dwarf}
use Rattle.leaves.specs.Root.{root_s}
use Rattle.leaves.specs.Norm.{norm}
use Rattle.leaves.specs.declared.norm.Ranges.{Ranges}
use Rattle.leaves.proofs.root.Meets.{sqrt_meets, sqrt_unique}
use Rattle.factor.specs.State.{is_empty, empty}
use Rattle.factor.specs.Room.{load}
use Rattle.leaves.specs.Square.{zeros}
use Rattle.factor.specs.Factoring.{factored, factor_tests, finite_room, factor_call}
use Rattle.demands.specs.Calls.{run, latest, reply_number}
use Rattle.factor.specs.declared.state.State.{State}
use Rattle.search.specs.Problem.{Problem, undamped_step, scaled_norm}
use Rattle.search.specs.Bounds.{band}
use Rattle.search.specs.Run.{within, falling, run_of}
use Rattle.search.specs.Ending.{ending, RuledFrom}
use Rattle.search.specs.Enorm.{minpack_enorm}
use Rattle.search.specs.Search.{Flagged, problem_of, search_call}
use Rattle.demands.specs.History.{Call, search, found, number_of, perform, is_solve, settling, left_as}
use Rattle.search.specs.contracts.trust_region.determine_lambda_and_parameter_update.{signature}
use Rattle.search.proofs.trust_region.determine_lambda_and_parameter_update.Reads as code
use Rattle.search.proofs.trust_region.determine_lambda_and_parameter_update.Kinds as kinds
use Rattle.demands.proofs.Ties.{determine_lambda_and_parameter_update_is}
use Rattle.search.specs.Lmpar.{lmpar}
use Rattle.search.proofs.AgainstLmpar.{search-answers_as_lmpar}
use Rattle.demands.proofs.LmparHistories.{factored-answers_as_lmpar}
use Rattle.demands.proofs.LeafTable as leaf
use Rattle.demands.proofs.WorkingTable as working
use Rattle.demands.proofs.FactoringTable as factoring
use Rattle.demands.proofs.Tables as table
use Rattle.sheet.specs.Tests.{sheet_tests}
use Rattle.sheet.specs.Fit.{finished as unwritten, sheet_call}
use Rattle.demands.proofs.SheetTable as sheets
use Rattle.search.proofs.AgainstEnorm.{norm_is_enorm}
use Rattle.demands.proofs.AsFresh.{as_fresh, any_history, never_changed, after_refused}
use Rattle.search.proofs.Rules.{rules_hold}
use Rattle.demands.proofs.SearchAnswers as told
use Rattle.leaves.specs.Reply.{reply_of}
use Rattle.leaves.specs.Refusing.{NoneHold, RefusedBy}
use Rattle.leaves.specs.IsRoot.{IsRoot}
use Rattle.search.specs.Against.{lent_of, NoNan}
use Rattle.demands.specs.Refusals.{tests_of, refusal}
use Rattle.demands.specs.Eight.{Breaks, Stands, left_by_eight, sheet_working}
use Rattle.demands.specs.Alike.{Kept, ToldAlike, SameContents}
use Rattle.demands.specs.Factorings.{room_made, factoring_stands, factoring_breaks}
use Rattle.demands.specs.Workings.{Leaves, Workings, Parts, SharedTests, SheetLines}
use Rattle.factor.specs.AsFactored.{AsFactored}
use Rattle.factor.proofs.Answered.{answered_as_factored, factoring-flags}
use Rattle.demands.proofs.LinesTable.{sheet_lines}

-- ==== Demand 1. "Every call ends on every input. Bad input gets the refusal that document 01 numbers, outputs stay unwritten, and the lent store
-- and bench are left as its table says."
--
-- What the checker gives by itself, for every function of every crate: it ends, it reads and writes no slice out of its bounds, no sum wraps and no
-- cast loses bits, on every input that its `requires` admits; a public function has no `requires`. What is left is which refusal, and what is left
-- in the lent slices. `RefusedBy tests k` is: k's condition holds and none that is tested before it; `NoneHold tests`: no condition holds.

-- A call that takes a state is refused k, from 2 to 7, exactly when k's condition is the first that holds ..
pub demand_1_refused : (c : Call) (st : State) (order : List ℕ) (store : List Float) (k : ℕ) → 0 < k → k < 8
    → (number_of (perform c st order store).answer ≡ k) ↔ RefusedBy (tests_of c st order store) k
demand_1_refused = table.refused_early

-- .. and then state, store and output are as they came.
pub demand_1_unchanged : (c : Call) (st : State) (order : List ℕ) (store : List Float) (k : ℕ) → 0 < k → RefusedBy (tests_of c st order store) k
    → perform c st order store ≡ refusal c k st store
demand_1_unchanged = table.refused_whole

-- It is refused 8 exactly when no condition holds and what document 01 lists for it is not finite: of a call of `factor` or `measures` an answer number
-- (for the gradient also where the Rust gives None, for the question beside it, of 02, #105, a measure before its first yes, for a scaling also a radius
-- rounded to zero), of the search a number at one of its run's six places ..
pub demand_1_eight : (c : Call) (st : State) (order : List ℕ) (store : List Float)
    → (number_of (perform c st order store).answer ≡ 8) ↔ (NoneHold (tests_of c st order store) × Breaks c st order store)
demand_1_eight = table.refused_eight

-- .. and then the output is as it came; after a solve or a search lower part, l_diag and work are +0 and nothing is held, after another call work is +0.
pub demand_1_eight_left : (c : Call) (st : State) (order : List ℕ) (store : List Float) → number_of (perform c st order store).answer ≡ 8
    → perform c st order store ≡ left_by_eight c st store
demand_1_eight_left = table.eight_whole

-- Otherwise it is answered.
pub demand_1_answered : (c : Call) (st : State) (order : List ℕ) (store : List Float)
    → (number_of (perform c st order store).answer ≡ 0) ↔ (NoneHold (tests_of c st order store) × Stands c st order store)
demand_1_answered = table.answered_otherwise

-- Work is +0 after every call that passes all checks before 8. (Packing, which only reads the store, leaves it: `proofs/PackingDemands.antt`.)
pub demand_1_work : (c : Call) (st : State) (order : List ℕ) (store : List Float) → NoneHold (tests_of c st order store) → (load st.n (perform c st order store).store).work ≡ zeros st.n
demand_1_work = table.work_rests

-- The held calls on a store that is only read answer and write as the same call does on a store that is lent to be written (`proofs/Ties.antt`); so do
-- those through a reader, which take a state with marks (`proofs/FrozenTies.antt`). `new`, which makes a reader, is never refused.

-- Factoring: refused 2 to 7, the lent slices as they came and the state empty; refused 8 where R, a column norm or qt_b would hold a number that is
-- not finite, the needed store and bench +0, the order 0 to n−1, the state empty; or answered, and the bench +0.
module _ (m n : ℕ) (jacobian residuals store : List Float) (order : List ℕ) (bench : List Float) where
  pub demand_1_factoring_refused : (k : ℕ) → 0 < k → k < 8
      → (reply_number (factor_call m n jacobian residuals store order bench).reply ≡ k) ↔ RefusedBy (factor_tests m n jacobian residuals (length store) (length order) (length bench)) k
  demand_1_factoring_refused = factoring.refused_early m n jacobian residuals store order bench

  pub demand_1_factoring_unchanged : (k : ℕ) → 0 < k → RefusedBy (factor_tests m n jacobian residuals (length store) (length order) (length bench)) k
      → factor_call m n jacobian residuals store order bench ≡ factored (refused k) empty store order bench
  demand_1_factoring_unchanged = factoring.refused_whole m n jacobian residuals store order bench

  pub demand_1_factoring_eight : (reply_number (factor_call m n jacobian residuals store order bench).reply ≡ 8)
      ↔ (NoneHold (factor_tests m n jacobian residuals (length store) (length order) (length bench)) × (finite_room (room_made m n jacobian residuals store) ≡ false))
  demand_1_factoring_eight = factoring.refused_eight m n jacobian residuals store order bench

  pub demand_1_factoring_eight_left : reply_number (factor_call m n jacobian residuals store order bench).reply ≡ 8
      → factor_call m n jacobian residuals store order bench ≡ factoring_breaks m n store order bench
  demand_1_factoring_eight_left = factoring.eight_whole m n jacobian residuals store order bench

  pub demand_1_factoring_answered : (reply_number (factor_call m n jacobian residuals store order bench).reply ≡ 0)
      ↔ (NoneHold (factor_tests m n jacobian residuals (length store) (length order) (length bench)) × (finite_room (room_made m n jacobian residuals store) ≡ true))
  demand_1_factoring_answered = factoring.answered_otherwise m n jacobian residuals store order bench

  pub demand_1_factoring_answered_left : reply_number (factor_call m n jacobian residuals store order bench).reply ≡ 0
      → factor_call m n jacobian residuals store order bench ≡ factoring_stands m n jacobian residuals store order bench
  demand_1_factoring_answered_left = factoring.answered_whole m n jacobian residuals store order bench

  -- "After factoring": what the table of the lent room says of the store, +0 below R, in l_diag and in work, and every number of it finite.
  pub demand_1_factoring_room : {f : Ranges} → (factor_call m n jacobian residuals store order bench).reply ≡ answered f → AsFactored n (load n (factor_call m n jacobian residuals store order bench).store)
  demand_1_factoring_room = answered_as_factored m n jacobian residuals store order bench

-- The leaves, a row for each that can be refused: 2 for over 128 numbers to a norm, 3 for slices whose lengths do not fit, each exactly then, the
-- output as it came; answered otherwise. `copy_long` has `copy`'s definition. The others are never refused, their contracts are equations with a number, a
-- truth, flags or what is filled: those of `number`, the root, `neither`, `either`, `fill`, `clear_long`, `count`, `all_finite`, `none_zero`, `outside`, `least`, `room16`.
pub demand_1_leaves : Leaves
demand_1_leaves = leaf.leaves

-- The workings without a state, a search's seven with `reduce_filled`, `factor_filled` and `eliminate_diag`, and the parts of a store, a row
-- for each: 2 for its sizes, 3 for a slice that does not fit, each exactly when it is the first that holds, and then every lent slice is as it came;
-- answered otherwise, but `factor_filled` refused 8 exactly where the room that it would leave is not finite, with what is then in the lent slices.
pub demand_1_workings : Workings
demand_1_workings = working.workings

pub demand_1_parts : Parts
demand_1_parts = working.parts

-- The tests that calls share (`permutation`, `room`, `ordered`) are never refused: their answer is the number of the first that holds, 0 for none.
pub demand_1_tests : SharedTests
demand_1_tests = working.shared_tests

-- A sheet, as `fit` answers it (`fit_is`): refused k, from 1 to 7, exactly when k's condition is the first that holds of all its fields.
pub demand_1_sheet_refused : (sheet : List ℕ) (step : List Float) (k : ℕ) → 0 < k → k < 8 → (reply_number (sheet_call sheet step).reply ≡ k) ↔ RefusedBy (sheet_tests sheet (length step)) k
demand_1_sheet_refused = sheets.refused_early

-- Whatever number it is refused by, 8 too, the lent step is as it came.
pub demand_1_sheet_unchanged : (sheet : List ℕ) (step : List Float) (k : ℕ) → 0 < k → reply_number (sheet_call sheet step).reply ≡ k → sheet_call sheet step ≡ unwritten (refused k) step
demand_1_sheet_unchanged = sheets.refused_unwritten

-- It is refused 8 exactly when no condition holds and its working is (its factoring, in call 2 its first scaling, or its search); answered otherwise.
pub demand_1_sheet_eight : (sheet : List ℕ) (step : List Float) → (reply_number (sheet_call sheet step).reply ≡ 8) ↔ (NoneHold (sheet_tests sheet (length step)) × (reply_number (sheet_working sheet step).reply ≡ 8))
demand_1_sheet_eight = sheets.refused_eight

pub demand_1_sheet_answered : (sheet : List ℕ) (step : List Float) → (reply_number (sheet_call sheet step).reply ≡ 0) ↔ (NoneHold (sheet_tests sheet (length step)) × (reply_number (sheet_working sheet step).reply ≡ 0))
demand_1_sheet_answered = sheets.answered_otherwise

-- There is no other number, so that no sheet is refused 4 or 5.
pub demand_1_sheet_never : (sheet : List ℕ) (step : List Float) → (let k = reply_number (sheet_call sheet step).reply in (k ≤ 3) ⊎ ((6 ≤ k) × (k ≤ 8)))
demand_1_sheet_never = sheets.numbers_named

-- The lines into a lent buffer (`write_lines`, `fit_lines`): refused 2 or 3, the buffer as it came, or answered.
pub demand_1_sheet_lines : SheetLines
demand_1_sheet_lines = sheet_lines

-- ==== Demand 2. "For finite input not refused there, every answer has the bits of that Rust over the leaf rules in document 01, shown by runs
-- against it. The square root is proved against IEEE 754, norm and search against MINPACK-1. Where the published crate or LMPAR differs from that, it
-- goes into docs/DIFFERENCES.md and the bits of that Rust stand; the list excuses nothing of ours."
--
-- The definitions evaluate; the runs against that Rust are those of `oracle/`. The code gives what they give: of the search, whatever meets its
-- contract; for the other calls and for factoring see `proofs/Ties.antt`. No theorem below is excused by the list: each says itself for which inputs it is.
-- Beside the gradient stands the question of 02, #105: `proofs/AboveDemands.antt`.
pub demand_2_contract : (κs : Lfts 4) (a : ArgsD signature κs) (r : Told (LMParameter × Ranges) State) (s : AtExit (ended_of 4 kinds.ps kinds.r) κs) → code.Post κs a r s
    → left_as (found (reply_of r.answer)) r.state s.1.0.now s.1.1.1.1.1.1.0.now
    ≡ perform (search a.1.1.1.0.now a.1.1.1.1.0 a.1.1.1.1.1.0 a.1.1.1.1.1.1.0.now) a.0 a.1.1.0.now a.1.0.now
demand_2_contract = determine_lambda_and_parameter_update_is

-- The root is the one that document 01's sentence asks for, and no other number is.
pub demand_2_root : (x : Float) → T (fits binary64 x) → IsRoot x (root_s x)
demand_2_root = sqrt_meets

pub demand_2_root_alone : (x r t : Float) → IsRoot x r → IsRoot x t → r ≡ t
demand_2_root_alone = sqrt_unique

-- The norm is MINPACK-1's ENORM, bit for bit, whatever stood in its result before; of any numbers among which is no NaN, and so of finite ones.
pub demand_2_norm : (unset : Float) (xs : List Float) → NoNan xs → norm xs ≡ minpack_enorm unset xs
demand_2_norm = norm_is_enorm

-- The search is MINPACK-1's LMPAR, with that ENORM and document 01's dwarf: where m ≥ n, a search that answers has LMPAR's x and par, and as many trials
-- as LMPAR has calls of QRSOLV.
pub demand_2_search : (unset : Float) (st : State) (order : List ℕ) (diag : List Float) (radius lambda : Float) (store out : List Float) (a : Flagged)
    → (search_call st order diag radius lambda store out).reply ≡ answered a → st.n ≤ st.m
    → lmpar (minpack_enorm unset) dwarf (lent_of st order diag radius store) lambda
    ≡ record { x = take st.n (search_call st order diag radius lambda store out).out; par = a.0.lambda; qrsolvs = a.0.trials }
demand_2_search = search-answers_as_lmpar

-- After a factoring it is so for m < n too, straight after it or after any calls since.
pub demand_2_search_factored : (m n : ℕ) (jacobian residuals store : List Float) (order : List ℕ) (bench : List Float) {seen : Ranges}
    → (let f = factor_call m n jacobian residuals store order bench in f.reply ≡ answered seen → (cs : List Call)
    → (let x = run perform f.order cs f.state f.store in
    (unset : Float) (diag : List Float) (radius lambda : Float) (out : List Float) (a : Flagged)
    → (search_call x.0 f.order diag radius lambda x.1 out).reply ≡ answered a
    → lmpar (minpack_enorm unset) dwarf (lent_of x.0 f.order diag radius x.1) lambda
    ≡ record { x = take x.0.n (search_call x.0 f.order diag radius lambda x.1 out).out; par = a.0.lambda; qrsolvs = a.0.trials }))
demand_2_search_factored = factored-answers_as_lmpar

-- ==== Demand 3. "Factor once, lend the same store and order list each time, pass each returned state on, and let nobody else write those two."

-- "Until the next factoring every call, refused calls between them or not, gives the same bits or refusal as a fresh working from that Jacobian and
-- those residuals, with at most the latest solve or search before it that got past the input checks."

-- A call settles exactly when it is a solve or a search that got past the checks.
pub demand_3_settling : (c : Call) (st : State) (order : List ℕ) (store : List Float) → (settling c st order store ≡ true) ↔ ((is_solve c ≡ true) × NoneHold (tests_of c st order store))
demand_3_settling = table.settles_when

-- Two factorings of the same Jacobian and residuals, each in its own lent slices; a run of calls after the one, and after the other the latest of
-- them that settled (none, if none did): then any call tells the same, answer, state and output.
pub demand_3_as_fresh : (m n : ℕ) (jacobian residuals store store' : List Float) (order order' : List ℕ) (bench bench' : List Float) {f g : Ranges}
    → (let one = factor_call m n jacobian residuals store order bench in
    let other = factor_call m n jacobian residuals store' order' bench' in
    one.reply ≡ answered f → other.reply ≡ answered g → (cs : List Call) (c : Call)
    → (let x = run perform one.order cs one.state one.store in
    let y = run perform other.order (latest perform one.order settling [] cs one.state one.store) other.state other.store in
    ToldAlike (perform c x.0 one.order x.1) (perform c y.0 other.order y.1)))
demand_3_as_fresh = as_fresh

-- The flags of 02, #106, belong to the answer, so that the theorem above is of them too; and the two factorings answer the same ones.
pub demand_3_flags : (m n : ℕ) (jacobian residuals store store' : List Float) (order order' : List ℕ) (bench bench' : List Float) {f g : Ranges}
    → (factor_call m n jacobian residuals store order bench).reply ≡ answered f → (factor_call m n jacobian residuals store' order' bench').reply ≡ answered g → f ≡ g
demand_3_flags m n jacobian residuals store store' order order' bench bench' h k =
    factoring-flags m n jacobian residuals store order bench h ∙ sym (factoring-flags m n jacobian residuals store' order' bench' k)

-- The same in any two stores that hold the same R, qt_b, norms, lower part and l_diag, whatever is in work and surplus: those of two factorings do.
pub demand_3_any_store : (order : List ℕ) (st : State) (store store' : List Float) → is_empty st.held ≡ false → SameContents st store store' → (cs : List Call) (c : Call)
    → (let x = run perform order cs st store in
    let y = run perform order (latest perform order settling [] cs st store) st store' in
    ToldAlike (perform c x.0 order x.1) (perform c y.0 order y.1))
demand_3_any_store = any_history

-- After a refused factoring the state is empty: every call answers 5 and changes nothing.
pub demand_3_after_refused : (m n : ℕ) (jacobian residuals store : List Float) (order : List ℕ) (bench : List Float) (k : ℕ)
    → (let tried = factor_call m n jacobian residuals store order bench in
    tried.reply ≡ refused k → (cs : List Call) (c : Call)
    → (let x = run perform tried.order cs tried.state tried.store in
    (x ≡ (empty, tried.store)) × (perform c x.0 tried.order x.1 ≡ refusal c 5 empty tried.store)))
demand_3_after_refused = after_refused

-- "Until then R and its diagonal never change a bit." For any store, whatever is in it; nor do qt_b, the column norms and the surplus.
pub demand_3_never_changed : (order : List ℕ) (cs : List Call) (st : State) (store : List Float) → Kept (load st.n store) (load st.n (run perform order cs st store).1)
demand_3_never_changed = never_changed

-- An answered search, in any state, with any store and order list.
module _ (st : State) (order : List ℕ) (diag : List Float) (radius lambda : Float) (store out : List Float) (a : Flagged) (h : (search_call st order diag radius lambda store out).reply ≡ answered a) where
  abbrev asked : Problem
  asked = problem_of st order diag radius (load st.n store)

  -- the computed undamped scaled norm less the radius
  abbrev overshoot : Float
  overshoot = sub binary64 (scaled_norm asked (undamped_step asked)) radius

  -- "An answered search gives lambda zero exactly when the computed undamped scaled norm less the radius is at most the computed tenth of the radius."
  pub demand_3_lambda : (a.0.lambda ≡ plus_zero) ↔ (le overshoot (band radius) ≡ true)
  demand_3_lambda = told.lambda_rule st order diag radius lambda store out a h

  -- "Otherwise lambda is above zero after one to ten trials, and fewer than ten only for a stop rule in document 01." `within` is |fp| ≤ delta·0.1,
  -- `falling` is lower bound zero, fp ≤ previous fp, previous fp negative.
  pub demand_3_trials : le overshoot (band radius) ≡ false
      → (lt plus_zero a.0.lambda ≡ true)
      × ((1 ≤ a.0.trials) × ((a.0.trials ≤ 10) × (a.0.trials < 10 → (ending (run_of asked lambda) ≡ inl within) ⊎ (ending (run_of asked lambda) ≡ inl falling))))
  demand_3_trials = told.trial_rule st order diag radius lambda store out a h

  -- "The last cannot apply at t = 1": `falling` takes two trials at least.
  pub demand_3_falling : ending (run_of asked lambda) ≡ inl falling → 2 ≤ a.0.trials
  demand_3_falling = told.falling_later st order diag radius lambda store out a h

  -- A run that began its trials stops by one of these rules only where it holds, of the numbers of its trials.
  pub demand_3_stop_rules : le overshoot (band radius) ≡ false → RuledFrom asked overshoot (run_of asked lambda)
  demand_3_stop_rules = rules_hold asked lambda

-- What a technician wants to hear of an answered search: `proofs/AnsweredSearch.antt`.
-- Closed witnesses, computed: `crates/search/proofs/Witnesses.antt` (document 01's F, G and K, each stop rule, each place of refusal 8) and
-- `proofs/CallWitnesses.antt` (each refusal number of the search; 0, 1 and 10 trials; a zero solve, a damped solve refused 8, a held call answered 5).
