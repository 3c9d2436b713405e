-- Demand 3 over a run of calls, from the laws of each, for any type of calls. Assumes nothing.
use mathlib.Core.Path.{◌≡◌, refl, sym, ap, ◌∙◌, subst}
use mathlib.Core.Bool.{Bool, true, false, cond, true≢false}
use mathlib.Core.List.{List, [], ◌∷◌}
use Prim.Native.Nat.{ℕ, ◌≤◌}
use native.Mathlib.Omega.{arith}
use lib.ListN.{length, take}
use lib.Ieee.{Float}
use Rattle.factor.specs.State.{is_empty, store_need, with_held}
use Rattle.factor.specs.Room.{Room, load}
use Rattle.demands.specs.Calls.{OutcomeOf, run, latest}
use Rattle.factor.specs.declared.state.State.{State}
use Rattle.demands.proofs.Keeping.{LawsOf}
use Rattle.demands.specs.Alike.{Alike, HeldAlike, Kept, ToldAlike, Long}

-- ---- rooms
kept_after : {r t u : Room} → Kept r t → Kept t u → Kept r u
kept_after a b = record { upper = b.upper ∙ a.upper; qtb = b.qtb ∙ a.qtb; norms = b.norms ∙ a.norms; rest = b.rest ∙ a.rest }

-- the left, the right, or both, after a call
pub alike-left : {r t r' : Room} → Alike r t → Kept r r' → Alike r' t
alike-left a k = record { upper = k.upper ∙ a.upper; qtb = k.qtb ∙ a.qtb; norms = k.norms ∙ a.norms }

pub alike_right : {r t t' : Room} → Alike r t → Kept t t' → Alike r t'
alike_right a k = record { upper = a.upper ∙ sym k.upper; qtb = a.qtb ∙ sym k.qtb; norms = a.norms ∙ sym k.norms }

-- ---- two order lists with the same first n
module _ {C A : Type 0} (f : C → State → List ℕ → List Float → OutcomeOf A) (held : C → Bool) (settles-by : C → State → List ℕ → List Float → Bool)
    (every : (c : C) → LawsOf (f c) (held c) (settles-by c)) (o p : List ℕ) where
  pub run_orders : (cs : List C) (st : State) (s : List Float) → st.n ≤ length o → st.n ≤ length p → take st.n o ≡ take st.n p
      → run f o cs st s ≡ run f p cs st s
  unfolding run
  run_orders [] st s lo lp e = refl
  run_orders (c ∷ cs) st s lo lp e =
      let x = f c st p s in
      let n : st.n ≡ x.state.n = sym (ap (λ (z : State). z.n) ((every c).sizes st p s)) in
      ap (λ (z : OutcomeOf A). run f o cs z.state z.store) ((every c).orders st o p s lo lp e)
      ∙ run_orders cs x.state x.store (subst (λ (k : ℕ). k ≤ length o) n lo) (subst (λ (k : ℕ). k ≤ length p) n lp)
      (subst (λ (k : ℕ). take k o ≡ take k p) n e)

module _ {C A : Type 0} (f : C → State → List ℕ → List Float → OutcomeOf A) (held : C → Bool) (settles-by : C → State → List ℕ → List Float → Bool)
    (every : (c : C) → LawsOf (f c) (held c) (settles-by c)) (order : List ℕ) where
  pub run-size : (cs : List C) (st : State) (s : List Float) → (run f order cs st s).0.n ≡ st.n
  unfolding run
  run-size [] st s = refl
  run-size (c ∷ cs) st s = run-size cs (f c st order s).state (f c st order s).store ∙ ap (λ (x : State). x.n) ((every c).sizes st order s)

  pub run_rows : (cs : List C) (st : State) (s : List Float) → (run f order cs st s).0.m ≡ st.m
  unfolding run
  run_rows [] st s = refl
  run_rows (c ∷ cs) st s = run_rows cs (f c st order s).state (f c st order s).store ∙ ap (λ (x : State). x.m) ((every c).sizes st order s)

  -- ---- keeps, of a run
  pub run_keeps : (cs : List C) (st : State) (s : List Float) → Kept (load st.n s) (load st.n (run f order cs st s).1)
  unfolding run
  run_keeps [] st s = record { upper = refl; qtb = refl; norms = refl; rest = refl }
  run_keeps (c ∷ cs) st s =
      let o = f c st order s in
      let e : o.state.n ≡ st.n = ap (λ (x : State). x.n) ((every c).sizes st order s) in
      kept_after ((every c).keeps st order s) (subst (λ (k : ℕ). Kept (load k o.store) (load k (run f order cs o.state o.store).1)) e (run_keeps cs o.state o.store))

  -- ---- two workings from rooms with the same R, qt_b and norms: after a run, and after its latest call that settled
  module _ (st₀ : State) (t : List Float) (filled : is_empty st₀.held ≡ false) (long : Long st₀ t) where
    record Beside (st : State) (s : List Float) (y : State × List Float) : Type 0 where
      of : st ≡ with_held st₀ st.held
      state : st ≡ y.0
      long_left : Long st₀ s
      long_right : Long st₀ y.1
      origin : Alike (load st₀.n s) (load st₀.n t)
      alike : Alike (load st₀.n s) (load st₀.n y.1)
      held_alike : HeldAlike (load st₀.n s) (load st₀.n y.1)

    -- a call that does not settle
    beside_rests : (c : C) (st : State) (s : List Float) (y : State × List Float) → Beside st s y → settles-by c st order s ≡ false
        → Beside (f c st order s).state (f c st order s).store y
    beside_rests c st s y b h =
        let o = f c st order s in
        let n : st.n ≡ st₀.n = ap (λ (x : State). x.n) b.of in
        let u = (every c).otherwise st order s h in
        let k = subst (λ (i : ℕ). Kept (load i s) (load i o.store)) n ((every c).keeps st order s) in
        let ub = subst (λ (i : ℕ). (load i o.store).below ≡ (load i s).below) n u.below in
        let ul = subst (λ (i : ℕ). (load i o.store).ldiag ≡ (load i s).ldiag) n u.ldiag in
        let e = (every c).lasts st order s in
        let l = b.long_left in
        record {
          of = subst (λ (x : State). x ≡ with_held st₀ x.held) (sym u.state) b.of;
          state = u.state ∙ b.state;
          long_left = omega arith;
          long_right = b.long_right;
          origin = alike-left b.origin k;
          alike = alike-left b.alike k;
          held_alike = record { below = ub ∙ b.held_alike.below; ldiag = ul ∙ b.held_alike.ldiag };
        }

    -- a call that settles, in a state of the same problem: what was before it is forgotten
    fresh_settles : (c : C) (s : List Float) → Long st₀ s → Alike (load st₀.n s) (load st₀.n t) → settles-by c st₀ order s ≡ true
        → Beside (f c st₀ order s).state (f c st₀ order s).store ((f c st₀ order t).state, (f c st₀ order t).store)
    fresh_settles c s l a h =
        let w = (every c).settles st₀ order s t l long a h in
        let k = (every c).keeps st₀ order s in
        let j = (every c).keeps st₀ order t in
        let e = (every c).lasts st₀ order s in
        let d = (every c).lasts st₀ order t in
        record {
          of = (every c).sizes st₀ order s;
          state = ((every c).reads st₀ order s t l long a (λ g. absurd (true≢false (sym g ∙ (every c).apart st₀ order s h)))).state;
          long_left = omega arith;
          long_right = omega arith;
          origin = alike-left a k;
          alike = alike_right (alike-left a k) j;
          held_alike = record { below = w.below; ldiag = w.ldiag };
        }

    beside_settles : (c : C) (st : State) (s : List Float) (y : State × List Float) → Beside st s y → settles-by c st order s ≡ true
        → Beside (f c st order s).state (f c st order s).store ((f c st₀ order t).state, (f c st₀ order t).store)
    beside_settles c st s y b h =
        let e : with_held st st₀.held ≡ st₀ = ap (λ (x : State). with_held x st₀.held) b.of in
        let g = (every c).fresh st st₀.held order s filled h in
        let p : settles-by c st₀ order s ≡ true = rw e at g.0 in
        let q : f c st₀ order s ≡ f c st order s = rw e at g.1 in
        rw (← q) (fresh_settles c s b.long_left b.origin p)

    beside_run : (cs d : List C) (st : State) (s : List Float) → Beside st s (run f order d st₀ t)
        → Beside (run f order cs st s).0 (run f order cs st s).1 (run f order (latest f order settles-by d cs st s) st₀ t)
    unfolding run latest
    beside_run [] d st s b = b
    beside_run (c ∷ cs) d st s b = beside_run cs (cond (settles-by c st order s) (c ∷ []) d) (f c st order s).state (f c st order s).store (by (settles-by c st order s) refl)
      where
        by : (x : Bool) → settles-by c st order s ≡ x → Beside (f c st order s).state (f c st order s).store (run f order (cond x (c ∷ []) d) st₀ t)
        by true h = beside_settles c st s (run f order d st₀ t) b h
        by false h = beside_rests c st s (run f order d st₀ t) b h

    -- LAW: the next call tells the same after any run as after the run's latest call that settled, in any room that is as factored
    -- from the same Jacobian and residuals.
    pub history : (s : List Float) → Long st₀ s → Alike (load st₀.n s) (load st₀.n t) → HeldAlike (load st₀.n s) (load st₀.n t) → (cs : List C) (c : C)
        → (let x = run f order cs st₀ s in
        let y = run f order (latest f order settles-by [] cs st₀ s) st₀ t in
        ToldAlike (f c x.0 order x.1) (f c y.0 order y.1))
    unfolding run
    history s l a g cs c =
        let x = run f order cs st₀ s in
        let y = run f order (latest f order settles-by [] cs st₀ s) st₀ t in
        let b = beside_run cs [] st₀ s (record { of = refl; state = refl; long_left = l; long_right = long; origin = a; alike = a; held_alike = g }) in
        let n : st₀.n ≡ x.0.n = sym (ap (λ (z : State). z.n) b.of) in
        subst (λ (z : State). ToldAlike (f c x.0 order x.1) (f c z order y.1)) b.state
        ((every c).reads x.0 order x.1 y.1
        (subst (λ (k : ℕ). store_need k ≤ length x.1) n b.long_left) (subst (λ (k : ℕ). store_need k ≤ length y.1) n b.long_right)
        (subst (λ (k : ℕ). Alike (load k x.1) (load k y.1)) n b.alike) (λ z. subst (λ (k : ℕ). HeldAlike (load k x.1) (load k y.1)) n b.held_alike))
