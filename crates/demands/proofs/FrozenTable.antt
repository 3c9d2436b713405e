-- 01, 'Refusal numbers', with what 02, #108, adds, as one table of the calls with marks: each number but 8 exactly when its condition holds and none that
-- is tested before it, everything then as it came; 8 and an answer exactly when none holds and the call on the problem without the frozen columns is
-- refused 8, or answered. And the outcome of a call that passes its tests, by that call's. Assumes nothing.
use mathlib.Core.Path.{◌≡◌, refl, sym, ap, ◌∙◌, subst}
use mathlib.Core.Bool.{Bool, true, false, not}
use mathlib.Core.List.{List, ◌∷◌, [], ◌++◌}
use mathlib.Core.Logic.{◌↔◌, ◌⊎◌, inl, inr}
use Prim.Native.Nat.{ℕ, ◌<◌, ◌≤◌}
use native.Mathlib.Nat.{le_refl}
use native.Mathlib.Omega.{arith}
use lib.Dec.{eqb}
use lib.ListN.{length, take}
use lib.Seq.{length-take-le, take-take}
use lib.Ieee.{Float}
use borrow.Author.Tests.{eqb-true, eqb-false, not-true}
use Rattle.leaves.specs.Refusing.{NoneHold, RefusedBy}
use Rattle.leaves.specs.Tests.{Test, first_of}
use Rattle.leaves.proofs.Refusals.{refused_iff, passed_iff}
use Rattle.factor.specs.Room.{load}
use Rattle.factor.specs.declared.state.State.{State as Plain}
use Rattle.measures.specs.declared.scaling.Mode.TheVariants as mode
use Rattle.search.specs.Ending.{ending}
use Rattle.search.specs.Run.{Stop, Place, run_of}
use Rattle.search.specs.Search.{problem_of}
use Rattle.calls.specs.declared.state.State.{State}
use Rattle.calls.specs.State.{marked_held, marked, cols, whole, without_frozen}
use Rattle.calls.specs.Tests.{free_test}
use Rattle.calls.specs.Outcome.{narrowed_in}
use Rattle.demands.specs.Calls.{zero_solve, damped_solve, held_solve, held_product, gradient, above, jx_norm, scaling, determined, non_singular}
use Rattle.demands.specs.History.{Call, base, search, AnyAnswer, number_of, Outcome, perform}
use Rattle.demands.specs.Refusals.{tests_of, refusal}
use Rattle.demands.specs.Eight.{store_breaks, Breaks, Stands}
use Rattle.demands.specs.Alike.{SameContents}
use Rattle.demands.specs.Marked.{MarkedOutcome, perform_marked, tests_marked, refusal_marked, reduced_call, reduced_outcome, out_back, read_back, ReadAs}
use Rattle.demands.proofs.Tabled.{refused_number}
use Rattle.demands.proofs.Tables as table
use Rattle.demands.proofs.TestNumbers.{every, first_of_lem}
use Rattle.demands.proofs.Laws.{laws}
use Rattle.demands.proofs.MarkedForms.{no_marks, marked_refused, marked-worked, marked_cases}
use Rattle.demands.proofs.ReducedTests.{further_by, tests_split, marked_numbered, reduced-passes}

-- ---- a call without marks that passes its tests is answered or refused 8
pub worked_number : (c : Call) (st : Plain) (order : List ℕ) (s : List Float) → NoneHold (tests_of c st order s)
    → (number_of (perform c st order s).answer ≡ 0) ⊎ (number_of (perform c st order s).answer ≡ 8)
worked_number (base c) st order s h = by (store_breaks c st order (load st.n s)) refl
  where
    by : (b : Bool) → store_breaks c st order (load st.n s) ≡ b → (number_of (perform (base c) st order s).answer ≡ 0) ⊎ (number_of (perform (base c) st order s).answer ≡ 8)
    by true e = inr ((table.refused_eight (base c) st order s).1 (h, e))
    by false e = inl ((table.answered_otherwise (base c) st order s).1 (h, e))
worked_number (search diag radius lambda out) st order s h = by (ending (run_of (problem_of st order diag radius (load st.n s)) lambda)) refl
  where
    c : Call
    c = search diag radius lambda out

    by : (x : Stop ⊎ Place) → ending (run_of (problem_of st order diag radius (load st.n s)) lambda) ≡ x
        → (number_of (perform c st order s).answer ≡ 0) ⊎ (number_of (perform c st order s).answer ≡ 8)
    by (inl x) e = inl ((table.answered_otherwise c st order s).1 (h, (x, e)))
    by (inr p) e = inr ((table.refused_eight c st order s).1 (h, (p, e)))

refusal_number : (c : Call) (k : ℕ) (st : Plain) (s : List Float) → number_of (refusal c k st s).answer ≡ k
refusal_number (base c) k st s = refused_number c k
refusal_number (search diag radius lambda out) k st s = refl

-- ---- the tests' numbers are not 8
abbrev not_eight : ℕ → Bool
not_eight k = not (eqb k 8)

further_other : (c : Call) (st : State) (order : List ℕ) → every not_eight (further_by c st order ++ (free_test st ∷ [])) ≡ true
unfolding further_by
further_other (base (zero_solve out)) st order = refl
further_other (base (damped_solve diag out)) st order = refl
further_other (base (held_solve rhs out)) st order = refl
further_other (base (held_product out)) st order = refl
further_other (base (gradient bnorm)) st order = refl
further_other (base (above bnorm limit)) st order = refl
further_other (base (jx_norm x)) st order = refl
further_other (base (scaling mode.FirstScaled diag x bound)) st order = refl
further_other (base (scaling mode.FirstUnscaled diag x bound)) st order = refl
further_other (base (scaling mode.LaterScaled diag x bound)) st order = refl
further_other (base (scaling mode.LaterUnscaled diag x bound)) st order = refl
further_other (base determined) st order = refl
further_other (base non_singular) st order = refl
further_other (search diag radius lambda out) st order = refl

tested_other : (c : Call) (st : State) (order : List ℕ) (s : List Float) → first_of (tests_marked c st order s) ≡ 8 → ⊥
tested_other c st order s =
    eqb-false (first_of (tests_marked c st order s)) 8
    (not-true (eqb (first_of (tests_marked c st order s)) 8)
    (first_of_lem not_eight refl (tests_marked c st order s) (ap (every not_eight) (tests_split c st order s) ∙ further_other c st order)))

-- ---- with marks
module _ (c : Call) (st : State) (order : List ℕ) (s : List Float) (marked-some : st.marks ≡ 0 → ⊥) where
  abbrev tests : List Test
  tests = tests_marked c st order s

  abbrev given : ℕ
  given = number_of (perform_marked c st order s).answer

  abbrev small : Outcome
  small = reduced_outcome c st order s

  pub met_none : NoneHold tests → first_of tests ≡ 0
  met_none h = (passed_iff tests (marked_numbered c st order s)).1 h

  pub none_met : first_of tests ≡ 0 → NoneHold tests
  none_met e = (passed_iff tests (marked_numbered c st order s)).0 e

  passed_number : first_of tests ≡ 0 → given ≡ number_of small.answer
  passed_number e = ap (λ (o : MarkedOutcome). number_of o.answer) (marked-worked st order s c marked-some e)

  stopped_number : (first_of tests ≡ 0 → ⊥) → given ≡ first_of tests
  stopped_number h = ap (λ (o : MarkedOutcome). number_of o.answer) (marked_refused st order s c marked-some h) ∙ refusal_number c (first_of tests) (whole st) s

  small_number : first_of tests ≡ 0 → (number_of small.answer ≡ 0) ⊎ (number_of small.answer ≡ 8)
  small_number e = worked_number (reduced_call st c) (without_frozen st) (take (cols st) order) (narrowed_in st s) (reduced-passes st order s c (none_met e))

  pub given_number : first_of tests ≡ 0 → (given ≡ 0) ⊎ (given ≡ 8)
  given_number e = subst (λ (k : ℕ). (k ≡ 0) ⊎ (k ≡ 8)) (sym (passed_number e)) (small_number e)

  by_number : (P : ℕ → Type 0) → (first_of tests ≡ 0 → P (number_of small.answer)) → ((first_of tests ≡ 0 → ⊥) → P (first_of tests)) → P given
  by_number P p q = by (eqb (first_of tests) 0) refl
    where
      by : (b : Bool) → eqb (first_of tests) 0 ≡ b → P given
      by true e = let z = eqb-true (first_of tests) 0 e in subst P (sym (passed_number z)) (p z)
      by false e = let z = eqb-false (first_of tests) 0 e in subst P (sym (stopped_number z)) (q z)

  -- LAW: every number but 8, in the order of the tests; 9 where no column is free
  pub frozen_refused : (k : ℕ) → 0 < k → (k ≡ 8 → ⊥) → (given ≡ k) ↔ RefusedBy tests k
  frozen_refused k p q = (
    by_number (λ (g : ℕ). g ≡ k → RefusedBy tests k) (λ z e. absurd (neither (small_number z) e)) (λ h e. (refused_iff tests k p).0 e),
    λ r. let e = (refused_iff tests k p).1 r in stopped_number (λ z. let j = sym e ∙ z in omega arith) ∙ e,
  )
    where
      neither : (number_of small.answer ≡ 0) ⊎ (number_of small.answer ≡ 8) → number_of small.answer ≡ k → ⊥
      neither (inl z) e = let j = sym z ∙ e in omega arith
      neither (inr z) e = q (sym e ∙ z)

  -- LAW: and then everything is as it came
  pub frozen_unchanged : (k : ℕ) → 0 < k → RefusedBy tests k → perform_marked c st order s ≡ refusal_marked c k st s
  frozen_unchanged k p r =
      let e = (refused_iff tests k p).1 r in
      marked_refused st order s c marked-some (λ z. let j = sym e ∙ z in omega arith) ∙ ap (λ (i : ℕ). refusal_marked c i st s) e

  -- LAW: 8, by the reduced problem
  pub frozen_eight : (given ≡ 8) ↔ (NoneHold tests × Breaks (reduced_call st c) (without_frozen st) (take (cols st) order) (narrowed_in st s))
  frozen_eight =
      let t = table.refused_eight (reduced_call st c) (without_frozen st) (take (cols st) order) (narrowed_in st s) in (
        by_number (λ (g : ℕ). g ≡ 8 → NoneHold tests × Breaks (reduced_call st c) (without_frozen st) (take (cols st) order) (narrowed_in st s)) (λ z e. (none_met z, (t.0 e).1))
            (λ h e. absurd (tested_other c st order s e)),
        λ w. passed_number (met_none w.0) ∙ t.1 (reduced-passes st order s c w.0, w.1),
      )

  -- LAW: answered, by the reduced problem
  pub frozen_answered : (given ≡ 0) ↔ (NoneHold tests × Stands (reduced_call st c) (without_frozen st) (take (cols st) order) (narrowed_in st s))
  frozen_answered =
      let t = table.answered_otherwise (reduced_call st c) (without_frozen st) (take (cols st) order) (narrowed_in st s) in (
        by_number (λ (g : ℕ). g ≡ 0 → NoneHold tests × Stands (reduced_call st c) (without_frozen st) (take (cols st) order) (narrowed_in st s)) (λ z e. (none_met z, (t.0 e).1))
            (λ h e. absurd (h e)),
        λ w. passed_number (met_none w.0) ∙ t.1 (reduced-passes st order s c w.0, w.1),
      )

  -- ---- what a call leaves that passes its tests

  -- LAW: the outcome of the call on the problem without the frozen columns, read back
  pub frozen_is_reduced : NoneHold tests → perform_marked c st order s ≡ read_back c st s small
  frozen_is_reduced h = marked-worked st order s c marked-some (met_none h)

  -- LAW: the same by that call's outcome in any other slices that hold the reduced problem
  pub frozen_any_slices : NoneHold tests → cols st ≤ length order → (o : List ℕ) (t : List Float) → cols st ≤ length o → take (cols st) o ≡ take (cols st) order
      → SameContents (without_frozen st) (narrowed_in st s) t → ReadAs c st (perform (reduced_call st c) (without_frozen st) o t) (perform_marked c st order s)
  frozen_any_slices h l o t p e a =
      let d = reduced_call st c in
      let f = take (cols st) order in
      let g = (laws d).reads (without_frozen st) f (narrowed_in st s) t a.long_left a.long_right a.alike (λ x. a.held_alike) in
      let q = length-take-le (cols st) order l in
      let m = (laws d).orders (without_frozen st) f o t (omega arith) p (take-take (cols st) (cols st) order (le_refl (cols st)) ∙ sym e) in
      subst (λ (x : Outcome). ReadAs c st x (perform_marked c st order s)) m
      (rw (frozen_is_reduced h) (record {
        answer = g.answer;
        state = ap (λ (x : Plain). marked_held st x.held) g.state;
        out = ap (λ (y : AnyAnswer). out_back c st y small.out) g.answer ∙ ap (λ (y : List Float). out_back c st (perform d (without_frozen st) f t).answer y) g.out;
      }))

-- LAW: whatever is held after a call, the sizes and the marks stay
pub marks-kept : (c : Call) (st : State) (order : List ℕ) (s : List Float) → (perform_marked c st order s).state ≡ marked_held st (perform_marked c st order s).state.held
marks-kept c st order s = by (eqb st.marks 0) refl
  where
    stays : (d : Call) (k : ℕ) → (refusal_marked d k st s).state ≡ marked_held st (refusal_marked d k st s).state.held
    stays (base d) k = refl
    stays (search diag radius lambda out) k = refl

    by : (b : Bool) → eqb st.marks 0 ≡ b → (perform_marked c st order s).state ≡ marked_held st (perform_marked c st order s).state.held
    by true e =
        subst (λ (o : MarkedOutcome). o.state ≡ marked_held st o.state.held) (sym (no_marks st order s c (eqb-true st.marks 0 e)))
        (ap (λ (x : Plain). marked st.marks x) ((laws c).sizes (whole st) order s))
    by false e = marked_cases st order s c (eqb-false st.marks 0 e) (λ (o : MarkedOutcome). o.state ≡ marked_held st o.state.held) (λ z. refl) (λ z. stays c (first_of (tests_marked c st order s)))
