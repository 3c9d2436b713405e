-- 02, #108: 'every call answers as on the problem without the frozen columns', after any run of calls. Assumes nothing.
use mathlib.Core.Path.{◌≡◌, refl, sym, ap, ◌∙◌, subst}
use mathlib.Core.Bool.{Bool, true, false}
use mathlib.Core.List.{List, [], ◌∷◌}
use Prim.Native.Nat.{ℕ, ◌≤◌}
use native.Mathlib.Nat.{le_refl}
use native.Mathlib.Omega.{arith}
use lib.Dec.{eqb}
use lib.ListN.{length, take}
use lib.Seq.{length-take-le, take-take}
use lib.Ieee.{Float}
use borrow.Author.Tests.{eqb-true, eqb-false}
use Rattle.leaves.specs.Refusing.{NoneHold}
use Rattle.leaves.specs.Tests.{first_of}
use Rattle.frozen.specs.Frozen.{marks_of, free_count}
use Rattle.factor.specs.declared.state.State.{State as Plain}
use Rattle.calls.specs.declared.state.State.{State}
use Rattle.calls.specs.State.{marked, whole, without_frozen}
use Rattle.calls.specs.Outcome.{narrowed_in}
use Rattle.demands.specs.Calls.{run}
use Rattle.demands.specs.History.{Call, Outcome, perform}
use Rattle.demands.specs.Alike.{SameContents}
use Rattle.demands.specs.inner.Helds.{is_held}
use Rattle.demands.specs.Marked.{MarkedOutcome, perform_marked, tests_marked, refusal_marked, reduced_call, reduced_outcome, read_back, ReadAs, perform_under, settling_under, reduced_run}
use Rattle.demands.proofs.Laws.{laws}
use Rattle.demands.proofs.Histories.{run-size}
use Rattle.demands.proofs.MarkedForms.{marked-worked, marked_refused}
use Rattle.demands.proofs.FrozenTable.{frozen_any_slices}
use Rattle.demands.proofs.FrozenLaws.{refusal-state, refusal-store}
use Rattle.demands.proofs.FrozenHistories.{laws_under}
use Rattle.demands.proofs.FrozenRuns.{told_same, plain_follows, same-both, narrow_back}

module _ (marks : ℕ) (some : marks ≡ 0 → ⊥) (order p : List ℕ) where
  abbrev at : Plain → State
  at st = marked marks st

  abbrev free : ℕ → ℕ
  free n = free_count (marks_of n marks)

  -- the order lists of n columns and of the free ones
  record Lists (n : ℕ) : Type 0 where
    order_long : free n ≤ length order
    other_long : free n ≤ length p
    same : take (free n) p ≡ take (free n) order

  -- a problem, and one without the frozen columns beside it
  record Beside (st : Plain) (s : List Float) (y : Plain × List Float) : Type 0 where
    state : y.0 ≡ without_frozen (at st)
    contents : SameContents (without_frozen (at st)) (narrowed_in (at st) s) y.1

  module _ (c : Call) (st : Plain) (s : List Float) (y : Plain × List Float) (b : Beside st s y) (l : Lists st.n) where
    abbrev d : Call
    d = reduced_call (at st) c

    abbrev e : Outcome
    e = reduced_outcome c (at st) order s

    abbrev first : List ℕ
    first = take (free st.n) order

    -- the same call there, by the order list and the state here
    there : perform d y.0 p y.1 ≡ perform d (without_frozen (at st)) first y.1
    there =
        let q = length-take-le (free st.n) order l.order_long in
        ap (λ (x : Plain). perform d x p y.1) b.state
        ∙ (laws d).orders (without_frozen (at st)) p first y.1 l.other_long (omega arith) (l.same ∙ sym (take-take (free st.n) (free st.n) order (le_refl (free st.n))))

    worked_beside : first_of (tests_marked c (at st) order s) ≡ 0
        → Beside (perform_under marks c st order s).state (perform_under marks c st order s).store ((perform d y.0 p y.1).state, (perform d y.0 p y.1).store)
    unfolding perform_under
    worked_beside z =
        let o = perform_marked c (at st) order s in
        let g = perform d (without_frozen (at st)) first y.1 in
        let w : o ≡ read_back c (at st) s e = marked-worked (at st) order s c some z in
        let told = told_same d (without_frozen (at st)) first (narrowed_in (at st) s) y.1 b.contents in
        let both = same-both (narrow_back c (at st) order some s z) (plain_follows d (without_frozen (at st)) first (narrowed_in (at st) s) y.1 b.contents) in
        subst (λ (x : Outcome). Beside (whole o.state) o.store (x.state, x.store)) (sym there)
        (subst (λ (x : MarkedOutcome). Beside (whole x.state) x.store (g.state, g.store)) (sym w) (record {
          state = sym told.state ∙ (laws d).sizes (without_frozen (at st)) first (narrowed_in (at st) s);
          contents = record { long_left = both.long_left; long_right = both.long_right; alike = both.alike; held_alike = both.held_alike };
        }))

    refused_beside : (first_of (tests_marked c (at st) order s) ≡ 0 → ⊥) → Beside (perform_under marks c st order s).state (perform_under marks c st order s).store y
    unfolding perform_under
    refused_beside h =
        let k = first_of (tests_marked c (at st) order s) in
        subst (λ (x : MarkedOutcome). Beside (whole x.state) x.store y) (sym (marked_refused (at st) order s c some h))
        (subst (λ (x : Plain). Beside x (refusal_marked c k (at st) s).store y) (sym (refusal-state c k st s))
        (subst (λ (x : List Float). Beside st x y) (sym (refusal-store c k st s)) b))

    -- one call of a run: the reduced problem's goes beside it where it passes its tests
    one_beside : (x : Plain × List Float) (ds : List Call)
        → ((z : Plain × List Float) → Beside (perform_under marks c st order s).state (perform_under marks c st order s).store z → Beside x.0 x.1 (run perform p ds z.0 z.1))
        → Beside x.0 x.1 (run perform p (elim (eqb (first_of (tests_marked c (at st) order s)) 0) [ true ↦ d ∷ ds | false ↦ ds ]) y.0 y.1)
    unfolding run
    one_beside x ds f = by (eqb (first_of (tests_marked c (at st) order s)) 0) refl
      where
        by : (z : Bool) → eqb (first_of (tests_marked c (at st) order s)) 0 ≡ z → Beside x.0 x.1 (run perform p (elim z [ true ↦ d ∷ ds | false ↦ ds ]) y.0 y.1)
        by true z = f ((perform d y.0 p y.1).state, (perform d y.0 p y.1).store) (worked_beside (eqb-true (first_of (tests_marked c (at st) order s)) 0 z))
        by false z = f y (refused_beside (eqb-false (first_of (tests_marked c (at st) order s)) 0 z))

  beside_run : (cs : List Call) (st : Plain) (s : List Float) (y : Plain × List Float) → Beside st s y → Lists st.n
      → (let x = run (perform_under marks) order cs st s in Beside x.0 x.1 (run perform p (reduced_run marks order cs st s) y.0 y.1))
  unfolding run reduced_run
  beside_run [] st s y b l = b
  beside_run (c ∷ cs) st s y b l =
      let o = perform_under marks c st order s in
      let k = sym (ap (λ (x : Plain). x.n) ((laws_under marks c).sizes st order s)) in
      one_beside c st s y b l (run (perform_under marks) order cs o.state o.store) (reduced_run marks order cs o.state o.store) (λ z h. beside_run cs o.state o.store z h (subst Lists k l))

  -- LAW: after any run of calls, by the run of those that passed, on the problem without the frozen columns
  pub frozen_run_is_reduced : (st : Plain) (s t : List Float) → free st.n ≤ length order → free st.n ≤ length p → take (free st.n) p ≡ take (free st.n) order
      → SameContents (without_frozen (marked marks st)) (narrowed_in (marked marks st) s) t → (cs : List Call) (c : Call)
      → (let x = run (perform_under marks) order cs st s in
      let y = run perform p (reduced_run marks order cs st s) (without_frozen (marked marks st)) t in
      NoneHold (tests_marked c (marked marks x.0) order x.1)
      → ReadAs c (marked marks x.0) (perform (reduced_call (marked marks x.0) c) y.0 p y.1) (perform_marked c (marked marks x.0) order x.1))
  frozen_run_is_reduced st s t l k e a cs c h =
      let x = run (perform_under marks) order cs st s in
      let y = run perform p (reduced_run marks order cs st s) (without_frozen (marked marks st)) t in
      let b = beside_run cs st s (without_frozen (marked marks st), t) (record { state = refl; contents = a }) (record { order_long = l; other_long = k; same = e }) in
      let n = sym (run-size (perform_under marks) is_held (settling_under marks) (laws_under marks) order cs st s) in
      let w : Lists x.0.n = subst Lists n (record { order_long = l; other_long = k; same = e }) in
      subst (λ (z : Plain). ReadAs c (at x.0) (perform (reduced_call (at x.0) c) z p y.1) (perform_marked c (at x.0) order x.1)) (sym b.state)
      (frozen_any_slices c (at x.0) order x.1 some h w.order_long p y.1 w.other_long w.same b.contents)
