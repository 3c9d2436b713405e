-- Demand 3 with marks: one run of calls in two stores with the same in them but work and surplus, and two order lists with the same first n. Assumes nothing.
use Prim.Native.Nat.{ℕ, ◌+◌, ◌*◌, ◌≤◌}
use mathlib.Core.Path.{◌≡◌, refl, sym, ap, ◌∙◌, subst}
use mathlib.Core.Bool.{Bool, true, false, ◌&&◌, ◌||◌}
use mathlib.Core.List.{List, [], ◌∷◌}
use native.Mathlib.Omega.{arith}
use lib.Dec.{eqb}
use lib.ListN.{length, take}
use lib.Ieee.{Float}
use Rattle.factor.specs.Room.{load}
use Rattle.factor.specs.declared.state.State.{State as Plain}
use Rattle.demands.specs.Calls.{run}
use Rattle.demands.specs.History.{Call, AnyAnswer, Outcome, number_of, is_solve}
use Rattle.demands.specs.Alike.{Alike, HeldAlike, ToldAlike, SameContents}
use Rattle.demands.specs.Marked.{perform_under, settling_under}
use Rattle.demands.proofs.Histories.{alike-left, alike_right}
use Rattle.demands.proofs.FrozenHistories.{laws_under}

module _ (marks : ℕ) where
  module _ (c : Call) (st : Plain) (order : List ℕ) (s t : List Float) (w : SameContents st s t) where
    abbrev u : Outcome
    u = perform_under marks c st order s

    abbrev v : Outcome
    v = perform_under marks c st order t

    both_told : ToldAlike u v
    both_told = (laws_under marks c).reads st order s t w.long_left w.long_right w.alike (λ h. w.held_alike)

    -- a call that settles leaves what it made, any other what there was
    both-held : HeldAlike (load st.n u.store) (load st.n v.store)
    both-held = by (settling_under marks c st order s) refl
      where
        by : (b : Bool) → settling_under marks c st order s ≡ b → HeldAlike (load st.n u.store) (load st.n v.store)
        by true h = let z = (laws_under marks c).settles st order s t w.long_left w.long_right w.alike h in record { below = z.below; ldiag = z.ldiag }
        by false h =
            let g : settling_under marks c st order t ≡ false = ap (λ (a : AnyAnswer). is_solve c && (eqb (number_of a) 0 || eqb (number_of a) 8)) (sym both_told.answer) ∙ h in
            let x = (laws_under marks c).otherwise st order s h in
            let y = (laws_under marks c).otherwise st order t g in
            record { below = x.below ∙ (w.held_alike.below ∙ sym y.below); ldiag = x.ldiag ∙ (w.held_alike.ldiag ∙ sym y.ldiag) }

    both-same : SameContents v.state u.store v.store
    both-same =
        let n : st.n ≡ v.state.n = sym (ap (λ (z : Plain). z.n) ((laws_under marks c).sizes st order t)) in
        let a = (laws_under marks c).lasts st order s in
        let b = (laws_under marks c).lasts st order t in
        let l = w.long_left in
        let r = w.long_right in
        let x = alike_right (alike-left w.alike ((laws_under marks c).keeps st order s)) ((laws_under marks c).keeps st order t) in
        let y = both-held in
        let p : st.n * st.n + 4 * st.n ≤ length u.store = omega arith in
        let q : st.n * st.n + 4 * st.n ≤ length v.store = omega arith in
        record {
          long_left = subst (λ (k : ℕ). k * k + 4 * k ≤ length u.store) n p;
          long_right = subst (λ (k : ℕ). k * k + 4 * k ≤ length v.store) n q;
          alike = subst (λ (k : ℕ). Alike (load k u.store) (load k v.store)) n x;
          held_alike = subst (λ (k : ℕ). HeldAlike (load k u.store) (load k v.store)) n y;
        }

  module _ (o p : List ℕ) where
    -- LAW
    pub frozen_same-run : (cs : List Call) (st : Plain) (s t : List Float) → SameContents st s t → st.n ≤ length o → st.n ≤ length p → take st.n o ≡ take st.n p → (c : Call)
        → (let x = run (perform_under marks) o cs st s in
        let y = run (perform_under marks) p cs st t in
        ToldAlike (perform_under marks c x.0 o x.1) (perform_under marks c y.0 p y.1))
    unfolding run
    frozen_same-run [] st s t w lo lp e c = subst (λ (z : Outcome). ToldAlike (perform_under marks c st o s) z) ((laws_under marks c).orders st o p t lo lp e) (both_told c st o s t w)
    frozen_same-run (d ∷ cs) st s t w lo lp e c =
        let x = perform_under marks d st o s in
        let y = perform_under marks d st o t in
        let z = perform_under marks d st p t in
        let n : st.n ≡ y.state.n = sym (ap (λ (q : Plain). q.n) ((laws_under marks d).sizes st o t)) in
        let r = frozen_same-run cs y.state x.store y.store (both-same d st o s t w) (subst (λ (k : ℕ). k ≤ length o) n lo) (subst (λ (k : ℕ). k ≤ length p) n lp) (subst (λ (k : ℕ). take k o ≡ take k p) n e) c in
        let left = subst (λ (q : Plain). (let a = run (perform_under marks) o cs q x.store in
        let b = run (perform_under marks) p cs y.state y.store in
        ToldAlike (perform_under marks c a.0 o a.1) (perform_under marks c b.0 p b.1))) (sym (both_told d st o s t w).state) r in
        subst (λ (q : Outcome). (let a = run (perform_under marks) o cs x.state x.store in
        let b = run (perform_under marks) p cs q.state q.store in
        ToldAlike (perform_under marks c a.0 o a.1) (perform_under marks c b.0 p b.1))) ((laws_under marks d).orders st o p t lo lp e) left
