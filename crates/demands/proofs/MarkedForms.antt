-- 02, #108, every call with marks read alike: with no mark it is the call without marks; else it is refused by its tests, or it is the call on the
-- problem without the frozen columns, read back. Assumes nothing.
use mathlib.Core.Path.{◌≡◌, refl, sym, ap, ◌∙◌, subst}
use mathlib.Core.Bool.{Bool, true, false}
use mathlib.Core.List.{List, []}
use Prim.Native.Nat.{ℕ}
use lib.Dec.{eqb}
use lib.ListN.{take}
use lib.Ieee.{Float}
use borrow.Author.Tests.{eqb-true, eqb-false}
use Rattle.leaves.specs.Reply.{Reply, answered, refused}
use Rattle.leaves.specs.Square.{zeros}
use Rattle.leaves.specs.Tests.{Test, first_of}
use Rattle.frozen.specs.Frozen.{free_of}
use Rattle.factor.specs.Outcome.{written}
use Rattle.factor.specs.Solve.{padded}
use Rattle.factor.specs.Factoring as plain
use Rattle.factor.specs.Solves as solves
use Rattle.factor.specs.HeldCalls as helds
use Rattle.measures.specs.Measures as measure
use Rattle.measures.specs.Rescale as rescale
use Rattle.search.specs.Search as seek
use Rattle.factor.specs.declared.state.State.{State as Plain}
use Rattle.leaves.specs.declared.norm.Ranges.{Ranges}
use Rattle.measures.specs.Rescale.{Scaled}
use Rattle.search.specs.Search.{Flagged}
use Rattle.calls.specs.declared.state.State.{State}
use Rattle.calls.specs.State.{marked_held, marks_in, cols, whole, without_frozen}
use Rattle.calls.specs.Tests.{call_by}
use Rattle.calls.specs.Outcome.{narrowed_in, step_out, held_out, marked_ended, marked_told, ended_as, told_as, emptied_by, widened_by, held_by, rested_by}
use Rattle.calls.specs.Factoring.{marked_factoring, factored_as}
use Rattle.calls.specs.Solves.{marked_zero, marked_damped}
use Rattle.calls.specs.HeldCalls.{marked_solve, marked_mul}
use Rattle.calls.specs.Measures.{marked_gradient, marked_above, marked_jx, marked_determined, marked_non_singular}
use Rattle.calls.specs.Rescale.{scaling_out, scaled_by, marked_scaling}
use Rattle.calls.specs.Search.{marked_search}
use Rattle.calls.proofs.Passed.{by_no_mark, by_refusal, by_working}
use Rattle.demands.specs.Calls.{perform_store, zero_solve, damped_solve, held_solve, held_product, gradient, above, jx_norm, scaling, determined, non_singular, done, number, ranged, count, truth, scaled}
use Rattle.demands.specs.History.{Call, base, search, of_base, found, Outcome, perform, settling}
use Rattle.demands.specs.Marked.{MarkedOutcome, outcome_of, of_marked_ended, of_marked_told, perform_marked, tests_marked, with_marks, refusal_marked, reduced_call, reduced_outcome, is_answer, answered_out, out_back, store_back, read_back}
use Rattle.demands.proofs.Laws.{laws}

-- ---- one call under two readings
by_marks : {A : Type 0} (f : A → MarkedOutcome) (marks : ℕ) (tests : List Test) (u w : A) (r : ℕ → A) (u' w' : MarkedOutcome) (r' : ℕ → MarkedOutcome)
    → f u ≡ u' → f w ≡ w' → ((k : ℕ) → f (r k) ≡ r' k) → f (call_by marks tests u w r) ≡ call_by marks tests u' w' r'
by_marks f marks tests u w r u' w' r' p q h = by (eqb marks 0) (eqb (first_of tests) 0)
  where
    by : (b d : Bool) → f (elim b [ true ↦ u | false ↦ elim d [ true ↦ w | false ↦ r (first_of tests) ] ]) ≡ elim b [ true ↦ u' | false ↦ elim d [ true ↦ w' | false ↦ r' (first_of tests) ] ]
    by true d = p
    by false true = q
    by false false = h (first_of tests)

-- ---- the output that is read back, by answers and refusals
by_reply : {A : Type 0} (g : Reply A → List Float) (r : Reply A) {x y : List Float} → ((a : A) → g (answered a) ≡ x) → ((k : ℕ) → g (refused k) ≡ y)
    → g r ≡ elim (is_answer r) [ true ↦ x | false ↦ y ]
by_reply g (answered a) p q = p a
by_reply g (refused k) p q = q k

module _ (st : State) (order : List ℕ) (s : List Float) where
  abbrev left : Call → Outcome
  left c = reduced_outcome c st order s

  -- a call that is no solve leaves what is held
  pub holds_on : (c : Call) → settling (reduced_call st c) (without_frozen st) (take (cols st) order) (narrowed_in st s) ≡ false → marked_held st (left c).state.held ≡ st
  holds_on c h = ap (λ (x : Plain). marked_held st x.held) ((laws (reduced_call st c)).otherwise (without_frozen st) (take (cols st) order) (narrowed_in st s) h).state

  -- state and output as a call's own definition has them
  as_told : (c : Call) (x : State) (o : List Float) → x ≡ marked_held st (left c).state.held → o ≡ out_back c st (left c).answer (left c).out
      → outcome_of (left c).answer x (store_back c st (left c).store s) o ≡ read_back c st s (left c)
  as_told c x o p q =
      ap (λ (y : State). outcome_of (left c).answer y (store_back c st (left c).store s) o) p
      ∙ ap (λ (y : List Float). outcome_of (left c).answer (marked_held st (left c).state.held) (store_back c st (left c).store s) y) q

  -- LAW
  pub marked_is : (c : Call)
      → perform_marked c st order s ≡ call_by st.marks (tests_marked c st order s) (with_marks st.marks (perform c (whole st) order s)) (read_back c st s (left c)) (λ k. refusal_marked c k st s)
  unfolding perform_marked tests_marked perform perform_store reduced_call store_back answered_out marked_zero marked_damped marked_solve marked_mul marked_gradient marked_above marked_jx marked_determined marked_non_singular marked_scaling marked_search
  marked_is (base (zero_solve out)) =
      let c = base (zero_solve out) in
      let e = solves.zero_call (without_frozen st) (take (cols st) order) (narrowed_in st s) (zeros (cols st)) in
      by_marks (of_marked_ended (λ r. of_base (done r))) st.marks _ (ended_as st (solves.zero_call (whole st) order s out)) (emptied_by st s out e) (λ k. marked_ended (refused k) st s out) _ _ _ refl
      (as_told c _ _ refl (by_reply (λ (r : Reply (Unit {0})). step_out st r (left c).out out) e.reply (λ a. refl) (λ k. refl))) (λ k. refl)
  marked_is (base (damped_solve diag out)) =
      let c = base (damped_solve diag out) in
      let e = solves.damped_call (without_frozen st) (free_of (marks_in st) diag) (take (cols st) order) (narrowed_in st s) (zeros (cols st)) in
      by_marks (of_marked_ended (λ r. of_base (done r))) st.marks _ (ended_as st (solves.damped_call (whole st) diag order s out)) (widened_by st s out e) (λ k. marked_ended (refused k) st s out) _ _ _ refl
      (as_told c _ _ refl (by_reply (λ (r : Reply (Unit {0})). step_out st r (left c).out out) e.reply (λ a. refl) (λ k. refl))) (λ k. refl)
  marked_is (base (held_solve rhs out)) =
      let c = base (held_solve rhs out) in
      let e = helds.solve_call (without_frozen st) (take (cols st) order) (free_of (marks_in st) rhs) (narrowed_in st s) (zeros (cols st)) in
      by_marks (of_marked_ended (λ r. of_base (done r))) st.marks _ (ended_as st (helds.solve_call (whole st) order rhs s out)) (held_by st s out e) (λ k. marked_ended (refused k) st s out) _ _ _ refl
      (as_told c _ _ (sym (holds_on c refl)) (by_reply (λ (r : Reply (Unit {0})). held_out st r (left c).out out) e.reply {x = written (padded st.n (left c).out) out} (λ a. refl) (λ k. refl))) (λ k. refl)
  marked_is (base (held_product out)) =
      let c = base (held_product out) in
      let e = helds.mul_call (without_frozen st) (narrowed_in st s) (zeros (cols st)) in
      by_marks (of_marked_ended (λ r. of_base (done r))) st.marks _ (ended_as st (helds.mul_call (whole st) s out)) (held_by st s out e) (λ k. marked_ended (refused k) st s out) _ _ _ refl
      (as_told c _ _ (sym (holds_on c refl)) (by_reply (λ (r : Reply (Unit {0})). held_out st r (left c).out out) e.reply {x = written (padded st.n (left c).out) out} (λ a. refl) (λ k. refl))) (λ k. refl)
  marked_is (base (gradient bnorm)) =
      let c = base (gradient bnorm) in
      let e = measure.gradient_call (without_frozen st) (take (cols st) order) bnorm (narrowed_in st s) in
      by_marks (of_marked_told (λ r. of_base (number r))) st.marks _ (told_as st (measure.gradient_call (whole st) order bnorm s)) (rested_by st s e) (λ k. marked_told (refused k) st s) _ _ _ refl
      (as_told c _ _ (sym (holds_on c refl)) (by_reply (λ (r : Reply Float). []) e.reply (λ a. refl) (λ k. refl))) (λ k. refl)
  marked_is (base (above bnorm limit)) =
      let c = base (above bnorm limit) in
      let e = measure.above_call (without_frozen st) (take (cols st) order) bnorm limit (narrowed_in st s) in
      by_marks (of_marked_told (λ r. of_base (truth r))) st.marks _ (told_as st (measure.above_call (whole st) order bnorm limit s)) (rested_by st s e) (λ k. marked_told (refused k) st s) _ _ _ refl
      (as_told c _ _ (sym (holds_on c refl)) (by_reply (λ (r : Reply Bool). []) e.reply (λ a. refl) (λ k. refl))) (λ k. refl)
  marked_is (base (jx_norm x)) =
      let c = base (jx_norm x) in
      let e = measure.jx_call (without_frozen st) (take (cols st) order) (free_of (marks_in st) x) (narrowed_in st s) in
      by_marks (of_marked_told (λ r. of_base (ranged r))) st.marks _ (told_as st (measure.jx_call (whole st) order x s)) (rested_by st s e) (λ k. marked_told (refused k) st s) _ _ _ refl
      (as_told c _ _ (sym (holds_on c refl)) (by_reply (λ (r : Reply (Float × Ranges)). []) e.reply (λ a. refl) (λ k. refl))) (λ k. refl)
  marked_is (base (scaling md diag x bound)) =
      let c = base (scaling md diag x bound) in
      let e = rescale.scaling_call (without_frozen st) md (free_of (marks_in st) diag) (free_of (marks_in st) x) bound (narrowed_in st s) in
      by_marks (of_marked_ended (λ r. of_base (scaled r))) st.marks _ (ended_as st (rescale.scaling_call (whole st) md diag x bound s)) (scaled_by st md diag s e) (λ k. marked_ended (refused k) st s diag) _ _ _ refl
      (as_told c _ _ (sym (holds_on c refl)) (by_reply (λ (r : Reply Scaled). scaling_out st md r (left c).out diag) e.reply (λ a. refl) (λ k. refl))) (λ k. refl)
  marked_is (base determined) =
      let c = base determined in
      let e = measure.determined_call (without_frozen st) (narrowed_in st s) in
      by_marks (of_marked_told (λ r. of_base (count r))) st.marks _ (told_as st (measure.determined_call (whole st) s)) (rested_by st s e) (λ k. marked_told (refused k) st s) _ _ _ refl
      (as_told c _ _ (sym (holds_on c refl)) (by_reply (λ (r : Reply ℕ). []) e.reply (λ a. refl) (λ k. refl))) (λ k. refl)
  marked_is (base non_singular) =
      let c = base non_singular in
      let e = measure.non_singular_call (without_frozen st) (narrowed_in st s) in
      by_marks (of_marked_told (λ r. of_base (truth r))) st.marks _ (told_as st (measure.non_singular_call (whole st) s)) (rested_by st s e) (λ k. marked_told (refused k) st s) _ _ _ refl
      (as_told c _ _ (sym (holds_on c refl)) (by_reply (λ (r : Reply Bool). []) e.reply (λ a. refl) (λ k. refl))) (λ k. refl)
  marked_is (search diag radius lambda out) =
      let c = search diag radius lambda out in
      let e = seek.search_call (without_frozen st) (take (cols st) order) (free_of (marks_in st) diag) radius lambda (narrowed_in st s) (zeros (cols st)) in
      by_marks (of_marked_ended (λ r. found r)) st.marks _ (ended_as st (seek.search_call (whole st) order diag radius lambda s out)) (emptied_by st s out e) (λ k. marked_ended (refused k) st s out) _ _ _ refl
      (as_told c _ _ refl (by_reply (λ (r : Reply Flagged). step_out st r (left c).out out) e.reply (λ a. refl) (λ k. refl))) (λ k. refl)

  module _ (c : Call) where
    abbrev tested : ℕ
    tested = first_of (tests_marked c st order s)

    -- LAW: with no mark
    pub no_marks : st.marks ≡ 0 → perform_marked c st order s ≡ with_marks st.marks (perform c (whole st) order s)
    no_marks e = marked_is c ∙ sym (by_no_mark st.marks (tests_marked c st order s) (with_marks st.marks (perform c (whole st) order s)) (read_back c st s (left c)) (λ k. refusal_marked c k st s) e)

    -- LAW: with marks, refused by its tests or worked out on the free columns
    pub marked_refused : (st.marks ≡ 0 → ⊥) → (tested ≡ 0 → ⊥) → perform_marked c st order s ≡ refusal_marked c tested st s
    marked_refused m h = marked_is c ∙ sym (by_refusal st.marks (tests_marked c st order s) (with_marks st.marks (perform c (whole st) order s)) (read_back c st s (left c)) (λ k. refusal_marked c k st s) m refl h)

    pub marked-worked : (st.marks ≡ 0 → ⊥) → tested ≡ 0 → perform_marked c st order s ≡ read_back c st s (left c)
    marked-worked m e = marked_is c ∙ sym (by_working st.marks (tests_marked c st order s) (with_marks st.marks (perform c (whole st) order s)) (read_back c st s (left c)) (λ k. refusal_marked c k st s) m refl e)

    -- by the two cases
    pub marked_cases : (st.marks ≡ 0 → ⊥) → (P : MarkedOutcome → Type 0) → (tested ≡ 0 → P (read_back c st s (left c))) → ((tested ≡ 0 → ⊥) → P (refusal_marked c tested st s)) → P (perform_marked c st order s)
    marked_cases m P p q = by (eqb tested 0) refl
      where
        by : (b : Bool) → eqb tested 0 ≡ b → P (perform_marked c st order s)
        by true e = let z = eqb-true tested 0 e in subst P (sym (marked-worked m z)) (p z)
        by false e = let z = eqb-false tested 0 e in subst P (sym (marked_refused m z)) (q z)

-- LAW: and so of a factoring
pub factoring_no_marks : (m n : ℕ) (jacobian residuals store : List Float) (order : List ℕ) (bench : List Float)
    → marked_factoring m n 0 jacobian residuals store order bench ≡ factored_as (plain.factor_call m n jacobian residuals store order bench)
unfolding marked_factoring
factoring_no_marks m n jacobian residuals store order bench = refl
