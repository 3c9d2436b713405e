-- Demand 3 over runs of every call, `factor`'s and the search: after any run of calls the next one tells what it tells in any other lent
-- slices, factored from the same Jacobian and residuals, after the run's latest call that settled; R with its diagonal never changes; and after
-- a refused factoring every call answers 5 and changes nothing. Assumes nothing.
use mathlib.Core.Path.{◌≡◌, refl, sym, ap, ◌∙◌, subst}
use mathlib.Core.Bool.{Bool, true, false}
use mathlib.Core.List.{List, [], ◌∷◌}
use Prim.Native.Nat.{ℕ, ◌≤◌}
use lib.Dec.{eqb}
use lib.ListN.{length, take}
use lib.Ieee.{Float}
use Rattle.leaves.specs.declared.norm.Ranges.{Ranges}
use Rattle.leaves.specs.Reply.{answered, refused}
use Rattle.leaves.proofs.Replies.{answered-refused}
use Rattle.factor.specs.State.{is_empty, empty}
use Rattle.factor.specs.Room.{load}
use Rattle.leaves.specs.Tests.{first_of}
use Rattle.factor.specs.Factoring.{Factored, factor_tests, finite_room, factor_worked, factor_call}
use Rattle.demands.specs.Calls.{run, latest}
use Rattle.factor.specs.declared.state.State.{State}
use Rattle.demands.proofs.Tabled as base-table
use Rattle.demands.proofs.Histories.{run-size, run_orders, run_keeps, history}
use Rattle.demands.proofs.Alikes.{accepted, refactored, reordered}
use Rattle.demands.specs.History.{Call, search, Outcome, of_base_outcome, of_search, perform, settling}
use Rattle.demands.specs.History as any
use Rattle.demands.proofs.SearchTable as search-table
use Rattle.demands.proofs.Laws.{laws}
use Rattle.demands.specs.Refusals.{refusal}
use Rattle.demands.specs.Alike.{Kept, ToldAlike, SameContents}
use Rattle.demands.specs.inner.Helds.{is_held}

-- LAW: whatever the store, after any run R with its diagonal, qt_b, norms and surplus are bit for bit what they were.
pub never_changed : (order : List ℕ) (cs : List Call) (st : State) (s : List Float) → Kept (load st.n s) (load st.n (run perform order cs st s).1)
never_changed order cs st s = run_keeps perform is_held settling laws order cs st s

-- LAW: two stores with the same in them but work and surplus
pub any_history : (order : List ℕ) (st : State) (s t : List Float) → is_empty st.held ≡ false → SameContents st s t → (cs : List Call) (c : Call)
    → (let x = run perform order cs st s in
    let y = run perform order (latest perform order settling [] cs st s) st t in
    ToldAlike (perform c x.0 order x.1) (perform c y.0 order y.1))
any_history order st s t e a cs c = history perform is_held settling laws order st t e a.long_right s a.long_left a.alike a.held_alike cs c

-- LAW: demand 3 as it is asked: two factorings of the same Jacobian and residuals, each in its own lent slices; any run of calls after the
-- one, and after the other the latest of them that settled; then the same call tells the same.
module _ (m n : ℕ) (jacobian residuals s t : List Float) (o p : List ℕ) (b d : List Float) where
  abbrev pub one : Factored
  one = factor_call m n jacobian residuals s o b

  abbrev pub other : Factored
  other = factor_call m n jacobian residuals t p d

  pub as_fresh : {f g : Ranges} → one.reply ≡ answered f → other.reply ≡ answered g → (cs : List Call) (c : Call)
      → (let x = run perform one.order cs one.state one.store in
      let y = run perform other.order (latest perform one.order settling [] cs one.state one.store) other.state other.store in
      ToldAlike (perform c x.0 one.order x.1) (perform c y.0 other.order y.1))
  as_fresh a e cs c =
      let w = refactored m n jacobian residuals s t o p b d a e in
      let v = reordered m n jacobian residuals s t o p b d a e in
      let last = latest perform one.order settling [] cs one.state one.store in
      let k : n ≡ one.state.n = sym (ap (λ (z : State). z.n) (accepted m n jacobian residuals s o b a).1.state) in
      let lo = subst (λ (i : ℕ). i ≤ length one.order) k v.0 in
      let lp = subst (λ (i : ℕ). i ≤ length other.order) k v.1 in
      let same = subst (λ (i : ℕ). take i one.order ≡ take i other.order) k v.2 in
      let h = any_history one.order one.state one.store other.store w.2 w.0 cs c in
      let x = run perform one.order cs one.state one.store in
      let move = run_orders perform is_held settling laws one.order other.order last one.state other.store lo lp same in
      let y = run perform other.order last one.state other.store in
      let j = run-size perform is_held settling laws other.order last one.state other.store in
      let next : perform c y.0 one.order y.1 ≡ perform c y.0 other.order y.1 =
      (laws c).orders y.0 one.order other.order y.1 (subst (λ (i : ℕ). i ≤ length one.order) (sym j) lo)
      (subst (λ (i : ℕ). i ≤ length other.order) (sym j) lp) (subst (λ (i : ℕ). take i one.order ≡ take i other.order) (sym j) same) in
      let there = subst (λ (z : State × List Float). ToldAlike (perform c x.0 one.order x.1) (perform c z.0 one.order z.1)) move h in
      subst (λ (st : State). (let z = run perform other.order last st other.store in
      ToldAlike (perform c x.0 one.order x.1) (perform c z.0 other.order z.1))) w.1
      (subst (λ (u : Outcome). ToldAlike (perform c x.0 one.order x.1) u) next there)

-- ---- after a refused factoring

-- LAW: 5 for an empty state, and everything as it came
pub empty-call : (c : Call) (st : State) (order : List ℕ) (s : List Float) → is_empty st.held ≡ true → perform c st order s ≡ refusal c 5 st s
unfolding perform
empty-call (any.base c) st order s h = ap of_base_outcome (base-table.refused-empty c st order s h)
empty-call (search diag radius lambda out) st order s h = ap of_search (search-table.refused-empty st order diag radius lambda s out h)

left-state : (c : Call) (k : ℕ) (st : State) (s : List Float) → (refusal c k st s).state ≡ st
left-state (any.base c) k st s = refl
left-state (search diag radius lambda out) k st s = refl

left-store : (c : Call) (k : ℕ) (st : State) (s : List Float) → (refusal c k st s).store ≡ s
left-store (any.base c) k st s = refl
left-store (search diag radius lambda out) k st s = refl

pub empty-run : (order : List ℕ) (cs : List Call) (st : State) (s : List Float) → is_empty st.held ≡ true → run perform order cs st s ≡ (st, s)
unfolding run
empty-run order [] st s h = refl
empty-run order (c ∷ cs) st s h =
    let e = empty-call c st order s h in
    let a : (perform c st order s).state ≡ st = ap (λ (o : Outcome). o.state) e ∙ left-state c 5 st s in
    let b : (perform c st order s).store ≡ s = ap (λ (o : Outcome). o.store) e ∙ left-store c 5 st s in
    rw (a, b) (empty-run order cs st s h)

-- ---- a factoring that is refused hands back the empty state
module _ (m n : ℕ) (jacobian residuals store : List Float) (order : List ℕ) (bench : List Float) where
  abbrev tried : Factored
  tried = factor_call m n jacobian residuals store order bench

  chosen : (b : Bool) (x y : Factored) {k : ℕ} → ((j : ℕ) → x.reply ≡ refused j → x.state ≡ empty) → y.state ≡ empty
      → (let z : Factored = elim b [ true ↦ x | false ↦ y ] in z.reply ≡ refused k → z.state ≡ empty)
  chosen true x y p q h = p _ h
  chosen false x y p q h = q

  worked-empty : (j : ℕ) → (factor_worked m n jacobian residuals store order bench).reply ≡ refused j → (factor_worked m n jacobian residuals store order bench).state ≡ empty
  unfolding factor_worked
  worked-empty j h = chosen (finite_room _) _ _ (λ i e. answered-refused e) refl h

  pub refused_empties : (k : ℕ) → tried.reply ≡ refused k → tried.state ≡ empty
  unfolding factor_call
  refused_empties k h = chosen (eqb (first_of (factor_tests m n jacobian residuals (length store) (length order) (length bench))) 0) _ _ worked-empty refl h

  -- LAW: then any run leaves what the factoring left, and every call answers 5 and changes nothing
  pub after_refused : (k : ℕ) → tried.reply ≡ refused k → (cs : List Call) (c : Call)
      → (let x = run perform tried.order cs tried.state tried.store in
      (x ≡ (empty, tried.store)) × (perform c x.0 tried.order x.1 ≡ refusal c 5 empty tried.store))
  after_refused k h cs c =
      let e = refused_empties k h in
      let x = run perform tried.order cs tried.state tried.store in
      let r : x ≡ (empty, tried.store) = ap (λ (st : State). run perform tried.order cs st tried.store) e ∙ empty-run tried.order cs empty tried.store refl in
      (r, subst (λ (z : State × List Float). perform c z.0 tried.order z.1 ≡ refusal c 5 empty tried.store) (sym r) (empty-call c empty tried.order tried.store refl))
