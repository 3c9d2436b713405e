-- 02, #108: the calls with marks as one type, by the very definitions that their contracts cite; their tests; and the call without marks on the problem
-- without the frozen columns, with how its outcome is read as one of the lent problem.
use Rattle.std.specs.Prelude.{ℕ, min, ◌≡◌, Bool, true, false, ◌&&◌, ◌||◌, List, [], ◌∷◌, ◌++◌, eqb, length, take, Float}
use Rattle.leaves.specs.Reply.{Reply, answered, refused}
use Rattle.leaves.specs.Square.{zeros}
use Rattle.leaves.specs.Tests.{Test, first_of}
use Rattle.frozen.specs.Frozen.{free_of, merged}
use Rattle.factor.specs.Outcome.{written}
use Rattle.factor.specs.Solve.{padded}
use Rattle.factor.specs.Tests.{held_test, finite_test, finite_number, not_above}
use Rattle.factor.specs.declared.state.State.{State as Plain}
use Rattle.calls.specs.declared.state.State.{State}
use Rattle.calls.specs.State.{marked_held, marked, marks_in, cols, whole, without_frozen}
use Rattle.calls.specs.Tests.{marked_room_tests, form_test, marked_solve_tests, free_test}
use Rattle.calls.specs.Outcome.{MarkedTold, MarkedEnded, narrowed_in, rested_store, emptied_store, widened_store}
use Rattle.calls.specs.Solves.{marked_zero, marked_damped}
use Rattle.calls.specs.HeldCalls.{marked_solve, marked_mul}
use Rattle.calls.specs.Measures.{marked_gradient, marked_above_tests, marked_above, marked_jx, marked_determined, marked_non_singular}
use Rattle.calls.specs.Rescale.{marked_scaling_tests, frozen_entries, marked_scaling}
use Rattle.calls.specs.Search.{marked_search_tests, marked_search}
use Rattle.demands.specs.Calls.{StoreAnswer, done, number, ranged, count, truth, scaled, zero_solve, damped_solve, held_solve, held_product, gradient, above, jx_norm, scaling, determined, non_singular}
use Rattle.demands.specs.History.{Call, base, search, AnyAnswer, of_base, found, number_of, Outcome, perform, is_solve, left_as}
use Rattle.demands.specs.Refusals.{refusal, lent_out}

-- what a call leaves: answer, state with its marks, store, and the lent output or lent scaling ([] where none is lent)
pub record MarkedOutcome : Type 0 where
  pub answer : AnyAnswer
  pub state : State
  pub store : List Float
  pub out : List Float

abbrev pub outcome_of : AnyAnswer → State → List Float → List Float → MarkedOutcome
outcome_of a st s o = record { answer = a; state = st; store = s; out = o }

abbrev pub of_marked_ended : {A : Type 0} → (Reply A → AnyAnswer) → MarkedEnded A → MarkedOutcome
of_marked_ended f e = outcome_of (f e.reply) e.state e.store e.out

abbrev pub of_marked_told : {A : Type 0} → (Reply A → AnyAnswer) → MarkedTold A → MarkedOutcome
of_marked_told f t = outcome_of (f t.reply) t.state t.store []

-- with a state, an order list and a store
unfoldable pub perform_marked : Call → State → List ℕ → List Float → MarkedOutcome
perform_marked (base (zero_solve out)) st order s = of_marked_ended (λ r. of_base (done r)) (marked_zero st order s out)
perform_marked (base (damped_solve diag out)) st order s = of_marked_ended (λ r. of_base (done r)) (marked_damped st diag order s out)
perform_marked (base (held_solve rhs out)) st order s = of_marked_ended (λ r. of_base (done r)) (marked_solve st order rhs s out)
perform_marked (base (held_product out)) st order s = of_marked_ended (λ r. of_base (done r)) (marked_mul st s out)
perform_marked (base (gradient bnorm)) st order s = of_marked_told (λ r. of_base (number r)) (marked_gradient st order bnorm s)
perform_marked (base (above bnorm limit)) st order s = of_marked_told (λ r. of_base (truth r)) (marked_above st order bnorm limit s)
perform_marked (base (jx_norm x)) st order s = of_marked_told (λ r. of_base (ranged r)) (marked_jx st order x s)
perform_marked (base (scaling md diag x bound)) st order s = of_marked_ended (λ r. of_base (scaled r)) (marked_scaling st md diag x bound s)
perform_marked (base determined) st order s = of_marked_told (λ r. of_base (count r)) (marked_determined st s)
perform_marked (base non_singular) st order s = of_marked_told (λ r. of_base (truth r)) (marked_non_singular st s)
perform_marked (search diag radius lambda out) st order s = of_marked_ended (λ r. found r) (marked_search st order diag radius lambda s out)

-- a call's tests, in their order: 9, no column free, after 7
unfoldable pub tests_marked : Call → State → List ℕ → List Float → List Test
tests_marked (base (zero_solve out)) st order s = marked_solve_tests st (length s) order (length out) ++ (free_test st ∷ [])
tests_marked (base (damped_solve diag out)) st order s = marked_solve_tests st (length s) order (min (length diag) (length out)) ++ (finite_test (whole st) diag ∷ free_test st ∷ [])
tests_marked (base (held_solve rhs out)) st order s = marked_solve_tests st (length s) order (min (length rhs) (length out)) ++ (held_test (whole st) ∷ finite_test (whole st) rhs ∷ free_test st ∷ [])
tests_marked (base (held_product out)) st order s = marked_room_tests st (length s) (length out) ++ (held_test (whole st) ∷ free_test st ∷ [])
tests_marked (base (gradient bnorm)) st order s = marked_room_tests st (length s) (length order) ++ (form_test st order ∷ finite_number bnorm ∷ (not_above bnorm, 7) ∷ free_test st ∷ [])
tests_marked (base (above bnorm limit)) st order s = marked_above_tests st (length s) order bnorm limit
tests_marked (base (jx_norm x)) st order s = marked_solve_tests st (length s) order (length x) ++ (finite_test (whole st) x ∷ free_test st ∷ [])
tests_marked (base (scaling md diag x bound)) st order s = marked_scaling_tests st md (length s) diag x bound
tests_marked (base determined) st order s = marked_room_tests st (length s) st.n ++ (free_test st ∷ [])
tests_marked (base non_singular) st order s = marked_room_tests st (length s) st.n ++ (free_test st ∷ [])
tests_marked (search diag radius lambda out) st order s = marked_search_tests st (length s) order diag radius lambda (length out)

-- ---- with no mark

-- what a call without marks leaves, with marks beside its state
abbrev pub with_marks : ℕ → Outcome → MarkedOutcome
with_marks marks o = outcome_of o.answer (marked marks o.state) o.store o.out

-- a refusal: state, store and output as they came
abbrev pub refusal_marked : Call → ℕ → State → List Float → MarkedOutcome
refusal_marked c k st s = with_marks st.marks (refusal c k (whole st) s)

-- ---- with marks

-- the call on the problem without the frozen columns: its slices without them, its own output; a lent scaling is read and written
unfoldable pub reduced_call : State → Call → Call
reduced_call st (base (zero_solve out)) = base (zero_solve (zeros (cols st)))
reduced_call st (base (damped_solve diag out)) = base (damped_solve (free_of (marks_in st) diag) (zeros (cols st)))
reduced_call st (base (held_solve rhs out)) = base (held_solve (free_of (marks_in st) rhs) (zeros (cols st)))
reduced_call st (base (held_product out)) = base (held_product (zeros (cols st)))
reduced_call st (base (gradient bnorm)) = base (gradient bnorm)
reduced_call st (base (above bnorm limit)) = base (above bnorm limit)
reduced_call st (base (jx_norm x)) = base (jx_norm (free_of (marks_in st) x))
reduced_call st (base (scaling md diag x bound)) = base (scaling md (free_of (marks_in st) diag) (free_of (marks_in st) x) bound)
reduced_call st (base determined) = base determined
reduced_call st (base non_singular) = base non_singular
reduced_call st (search diag radius lambda out) = search (free_of (marks_in st) diag) radius lambda (zeros (cols st))

-- what it leaves, in the lent store without the frozen columns
abbrev pub reduced_outcome : Call → State → List ℕ → List Float → Outcome
reduced_outcome c st order s = perform (reduced_call st c) (without_frozen st) (take (cols st) order) (narrowed_in st s)

-- an answer, and no refusal
abbrev pub is_answer : {A : Type 0} → Reply A → Bool
is_answer (answered a) = true
is_answer (refused k) = false

abbrev pub is_store_answer : StoreAnswer → Bool
is_store_answer (done r) = is_answer r
is_store_answer (number r) = is_answer r
is_store_answer (ranged r) = is_answer r
is_store_answer (count r) = is_answer r
is_store_answer (truth r) = is_answer r
is_store_answer (scaled r) = is_answer r

abbrev pub answers : AnyAnswer → Bool
answers (of_base a) = is_store_answer a
answers (found r) = is_answer r

-- the lent output after an answer: of a step the free columns' entries at their columns, +0 at the frozen ones; of a held call +0 past the free count;
-- of a scaling the free columns' entries at their columns, a frozen one as `frozen_entries` says
unfoldable pub answered_out : Call → State → List Float → List Float
answered_out (base (zero_solve out)) st x = written (merged (marks_in st) (zeros st.n) x) out
answered_out (base (damped_solve diag out)) st x = written (merged (marks_in st) (zeros st.n) x) out
answered_out (base (held_solve rhs out)) st x = written (padded st.n x) out
answered_out (base (held_product out)) st x = written (padded st.n x) out
answered_out (base (gradient bnorm)) st x = []
answered_out (base (above bnorm limit)) st x = []
answered_out (base (jx_norm y)) st x = []
answered_out (base (scaling md diag y bound)) st x = merged (marks_in st) (frozen_entries md st.n diag) x
answered_out (base determined) st x = []
answered_out (base non_singular) st x = []
answered_out (search diag radius lambda out) st x = written (merged (marks_in st) (zeros st.n) x) out

-- after a refusal it is as it was lent
abbrev pub lent_by : Call → List Float
lent_by (base c) = lent_out c
lent_by (search diag radius lambda out) = out

abbrev pub out_back : Call → State → AnyAnswer → List Float → List Float
out_back c st a x = elim (answers a) [ true ↦ answered_out c st x | false ↦ lent_by c ]

-- the lent store: work +0; after a zero solve or a search lower part and l_diag +0 too, after a damped solve those of the reduced problem
unfoldable pub store_back : Call → State → List Float → List Float → List Float
store_back (base (zero_solve out)) st small s = emptied_store st s
store_back (base (damped_solve diag out)) st small s = widened_store st small s
store_back (base (held_solve rhs out)) st small s = rested_store st s
store_back (base (held_product out)) st small s = rested_store st s
store_back (base (gradient bnorm)) st small s = rested_store st s
store_back (base (above bnorm limit)) st small s = rested_store st s
store_back (base (jx_norm x)) st small s = rested_store st s
store_back (base (scaling md diag x bound)) st small s = rested_store st s
store_back (base determined) st small s = rested_store st s
store_back (base non_singular) st small s = rested_store st s
store_back (search diag radius lambda out) st small s = emptied_store st s

-- its answer, flags and refusal 8 too; what it holds, with the marks kept; its output and its lower part read back
abbrev pub read_back : Call → State → List Float → Outcome → MarkedOutcome
read_back c st s e = outcome_of e.answer (marked_held st e.state.held) (store_back c st e.store s) (out_back c st e.answer e.out)

-- what a caller is told, by an outcome on the problem without the frozen columns
pub record ReadAs (c : Call) (st : State) (e : Outcome) (o : MarkedOutcome) : Type 0 where
  pub answer : o.answer ≡ e.answer
  pub state : o.state ≡ marked_held st e.state.held
  pub out : o.out ≡ out_back c st e.answer e.out

-- ---- the call by a fixed number of marks, as one on states that know none: runs of calls are as before

abbrev pub marks_forgotten : MarkedOutcome → Outcome
marks_forgotten o = left_as o.answer (whole o.state) o.store o.out

unfoldable pub perform_under : ℕ → Call → Plain → List ℕ → List Float → Outcome
perform_under marks c st order s = marks_forgotten (perform_marked c (marked marks st) order s)

-- a solve or a search that got past the input checks: answered, or refused 8
abbrev pub settling_under : ℕ → Call → Plain → List ℕ → List Float → Bool
settling_under marks c st order s = let k = number_of (perform_under marks c st order s).answer in is_solve c && (eqb k 0 || eqb k 8)

-- the calls of a run that pass their tests, each as the call on the problem without the frozen columns; one that does not changes nothing
module _ (marks : ℕ) (order : List ℕ) where
  unfoldable pub reduced_run : List Call → Plain → List Float → List Call
  reduced_run [] st s = []
  reduced_run (c ∷ cs) st s =
      let o = perform_under marks c st order s in
      let ds = reduced_run cs o.state o.store in
      elim (eqb (first_of (tests_marked c (marked marks st) order s)) 0) [ true ↦ reduced_call (marked marks st) c ∷ ds | false ↦ ds ]
