-- Demand 3 with marks, over runs of calls: for any number of marks the calls are calls on states that know none, of which the laws of `Keeping` hold; so
-- what is proved there of runs holds of these. Assumes nothing.
use mathlib.Core.Path.{◌≡◌, refl, sym, ap, subst, fun_ext}
use mathlib.Core.Bool.{Bool, true, false, ◌&&◌, ◌||◌}
use mathlib.Core.List.{List, []}
use Prim.Native.Nat.{ℕ, ◌≤◌}
use lib.Dec.{eqb}
use lib.ListN.{length, take}
use lib.Ieee.{Float}
use borrow.Author.Tests.{eqb-true, eqb-false}
use Rattle.factor.specs.Room.{load}
use Rattle.factor.specs.State.{is_empty}
use Rattle.factor.specs.declared.state.State.{State as Plain}
use Rattle.calls.specs.declared.state.State.{State}
use Rattle.calls.specs.State.{marked, whole}
use Rattle.demands.specs.Calls.{run, latest}
use Rattle.demands.specs.History.{Call, number_of, Outcome, perform, is_solve}
use Rattle.demands.specs.Alike.{Kept, ToldAlike, SameContents}
use Rattle.demands.specs.inner.Helds.{is_held}
use Rattle.demands.specs.Marked.{perform_marked, marks_forgotten, perform_under, settling_under}
use Rattle.demands.proofs.Keeping.{LawsOf}
use Rattle.demands.proofs.Laws.{laws}
use Rattle.demands.proofs.Histories.{run-size, run_orders, run_keeps, history}
use Rattle.demands.proofs.MarkedForms.{no_marks}
use Rattle.demands.proofs.FrozenTable.{marks-kept}
use Rattle.demands.proofs.FrozenKeeping.{solve_not_held}
use Rattle.demands.proofs.FrozenLaws.{settled_both, marked_keeps, marked-lasts, marked_otherwise, marked_reads, marked_settles, marked_fresh, marked_orders}

-- LAW: what was forgotten is known: the marks are those that were
pub marks_return : (marks : ℕ) (c : Call) (st : Plain) (order : List ℕ) (s : List Float) → marked marks (perform_under marks c st order s).state ≡ (perform_marked c (marked marks st) order s).state
unfolding perform_under
marks_return marks c st order s =
    let x = (perform_marked c (marked marks st) order s).state in
    ap (λ (k : ℕ). marked k (whole x)) (sym (ap (λ (y : State). y.marks) (marks-kept c (marked marks st) order s)))

-- with marks
some_laws : (marks : ℕ) → (marks ≡ 0 → ⊥) → (c : Call) → LawsOf (perform_under marks c) (is_held c) (settling_under marks c)
unfolding perform_under
some_laws marks m c = record {
  keeps = λ st order s. marked_keeps c (marked marks st) order m s;
  lasts = λ st order s. marked-lasts c (marked marks st) order m s;
  sizes = λ st order s. ap whole (marks-kept c (marked marks st) order s);
  reads = λ st order s t p q a g. marked_reads c (marked marks st) order m s t p q a g;
  settles = λ st order s t p q a h. marked_settles c (marked marks st) order m s t p q a h;
  otherwise = λ st order s h. marked_otherwise c (marked marks st) order m s h;
  apart = λ st order s h. solve_not_held c (settled_both c (marked marks st) order m s h).0;
  fresh = λ st h order s e g. let x = marked_fresh c (marked marks st) h order m s e g in (x.0, ap marks_forgotten x.1);
  orders = λ st o p s a b e. ap marks_forgotten (marked_orders c (marked marks st) o p m s a b e);
}

-- with none
none_is : (marks : ℕ) → marks ≡ 0 → (c : Call) (st : Plain) (order : List ℕ) (s : List Float) → perform c st order s ≡ perform_under marks c st order s
unfolding perform_under
none_is marks e c st order s = sym (ap marks_forgotten (no_marks (marked marks st) order s c e))

none_laws : (marks : ℕ) → marks ≡ 0 → (c : Call) → LawsOf (perform_under marks c) (is_held c) (settling_under marks c)
none_laws marks e c =
    let f : perform c ≡ perform_under marks c = fun_ext (λ st. fun_ext (λ order. fun_ext (λ s. none_is marks e c st order s))) in
    subst (λ (g : Plain → List ℕ → List Float → Outcome). LawsOf g (is_held c) (λ st order s. is_solve c && (eqb (number_of (g st order s).answer) 0 || eqb (number_of (g st order s).answer) 8))) f (laws c)

-- LAW
pub laws_under : (marks : ℕ) (c : Call) → LawsOf (perform_under marks c) (is_held c) (settling_under marks c)
laws_under marks c = by (eqb marks 0) refl
  where
    by : (b : Bool) → eqb marks 0 ≡ b → LawsOf (perform_under marks c) (is_held c) (settling_under marks c)
    by true e = none_laws marks (eqb-true marks 0 e) c
    by false e = some_laws marks (eqb-false marks 0 e) c

module _ (marks : ℕ) where
  -- LAW: whatever the store, after any run R with its diagonal, qt_b, norms and surplus are bit for bit what they were.
  pub frozen_never_changed : (order : List ℕ) (cs : List Call) (st : Plain) (s : List Float) → Kept (load st.n s) (load st.n (run (perform_under marks) order cs st s).1)
  frozen_never_changed order cs st s = run_keeps (perform_under marks) is_held (settling_under marks) (laws_under marks) order cs st s

  -- LAW: two stores with the same in them but work and surplus
  pub frozen_any_history : (order : List ℕ) (st : Plain) (s t : List Float) → is_empty st.held ≡ false → SameContents st s t → (cs : List Call) (c : Call)
      → (let x = run (perform_under marks) order cs st s in
      let y = run (perform_under marks) order (latest (perform_under marks) order (settling_under marks) [] cs st s) st t in
      ToldAlike (perform_under marks c x.0 order x.1) (perform_under marks c y.0 order y.1))
  frozen_any_history order st s t e a cs c = history (perform_under marks) is_held (settling_under marks) (laws_under marks) order st t e a.long_right s a.long_left a.alike a.held_alike cs c

  -- LAW: and two order lists with the same first n
  pub frozen_any-lent : (o p : List ℕ) (st : Plain) (s t : List Float) → is_empty st.held ≡ false → SameContents st s t → st.n ≤ length o → st.n ≤ length p → take st.n o ≡ take st.n p
      → (cs : List Call) (c : Call)
      → (let x = run (perform_under marks) o cs st s in
      let y = run (perform_under marks) p (latest (perform_under marks) o (settling_under marks) [] cs st s) st t in
      ToldAlike (perform_under marks c x.0 o x.1) (perform_under marks c y.0 p y.1))
  frozen_any-lent o p st s t e a lo lp same cs c =
      let f = perform_under marks in
      let last = latest f o (settling_under marks) [] cs st s in
      let x = run f o cs st s in
      let h = frozen_any_history o st s t e a cs c in
      let move = run_orders f is_held (settling_under marks) (laws_under marks) o p last st t lo lp same in
      let y = run f p last st t in
      let j = run-size f is_held (settling_under marks) (laws_under marks) p last st t in
      let next : f c y.0 o y.1 ≡ f c y.0 p y.1 =
      (laws_under marks c).orders y.0 o p y.1 (subst (λ (i : ℕ). i ≤ length o) (sym j) lo) (subst (λ (i : ℕ). i ≤ length p) (sym j) lp) (subst (λ (i : ℕ). take i o ≡ take i p) (sym j) same) in
      let there = subst (λ (z : Plain × List Float). ToldAlike (f c x.0 o x.1) (f c z.0 o z.1)) move h in
      subst (λ (u : Outcome). ToldAlike (f c x.0 o x.1) u) next there
