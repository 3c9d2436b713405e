-- Demand 3, call by call: what a call keeps, what it reads, and when it settles what the held calls read. Assumes nothing.
use mathlib.Core.Path.{◌≡◌, refl, sym, ap, ◌∙◌, subst}
use mathlib.Core.Bool.{Bool, true, false, ◌&&◌, true≢false, and-eq-true_iff}
use mathlib.Core.List.{List}
use Prim.Native.Nat.{ℕ, ◌+◌, ◌*◌, ◌<◌, ◌≤◌}
use native.Mathlib.Omega.{arith}
use lib.Dec.{eqb}
use lib.ListN.{length, take, drop, length-take, length-drop}
use lib.Ieee.{Float}
use borrow.Author.Tests.{eqb-true, eq-eqb}
use Rattle.factor.specs.State.{is_empty, with_held}
use Rattle.factor.specs.Room.{Room, part, load, leaving}
use Rattle.leaves.specs.Square.{zeros}
use Rattle.leaves.specs.Tests.{first_of}
use Rattle.demands.specs.Calls.{OutcomeOf, StoreOutcome, StoreCall, zero_solve, damped_solve, held_solve, held_product, gradient, above, jx_norm, scaling, determined, non_singular, perform_store, is_store_solve}
use Rattle.factor.specs.declared.state.Held.{Held}
use Rattle.factor.specs.declared.state.State.{State}
use Rattle.factor.proofs.Layouts.{load_shaped}
use Rattle.demands.proofs.Effects.{Effect, effect, effected, tested_of}
use Rattle.demands.proofs.Leavings.{room_tested, room_sized, tests_long, passed_is, refused_is, performed, effect_shaped, room_after}
use Rattle.demands.proofs.Surplus.{order_surplus}
use Rattle.demands.proofs.Reading.{effect_reads, effect_settles, effect_rests}
use Rattle.factor.specs.inner.Rooms.{Shaped}
use Rattle.demands.specs.inner.Helds.{is_store_held}
use Rattle.demands.specs.Refusals.{shortest_of, further_of, store_refusal, refused_as}
use Rattle.demands.specs.Alike.{Alike, HeldAlike, Kept, ToldAlike, Long}

-- two rooms in which the same is left for the held calls, and in work
pub record Settled (r t : Room) : Type 0 where
  pub below : r.below ≡ t.below
  pub ldiag : r.ldiag ≡ t.ldiag
  pub work : r.work ≡ t.work

-- the state, and what is left for the held calls, as they came
pub record Unsettled (st : State) (r : Room) (after : State) (t : Room) : Type 0 where
  pub state : after ≡ st
  pub below : t.below ≡ r.below
  pub ldiag : t.ldiag ≡ r.ldiag

-- a solve that passed its tests, refused 8 or not
abbrev pub settling : StoreCall → State → List ℕ → List Float → Bool
settling c st order s = is_store_solve c && eqb (tested_of c st order s) 0

-- the laws of one call, of any type of calls: whether it is a held call, and when it settles
pub record LawsOf {A : Type 0} (f : State → List ℕ → List Float → OutcomeOf A) (held : Bool) (settles-by : State → List ℕ → List Float → Bool) : Type 0 where
  pub keeps : (st : State) (order : List ℕ) (s : List Float) → Kept (load st.n s) (load st.n (f st order s).store)
  pub lasts : (st : State) (order : List ℕ) (s : List Float) → length (f st order s).store ≡ length s
  pub sizes : (st : State) (order : List ℕ) (s : List Float) → (f st order s).state ≡ with_held st (f st order s).state.held
  pub reads : (st : State) (order : List ℕ) (s t : List Float) → Long st s → Long st t → Alike (load st.n s) (load st.n t)
      → (held ≡ true → HeldAlike (load st.n s) (load st.n t)) → ToldAlike (f st order s) (f st order t)
  pub settles : (st : State) (order : List ℕ) (s t : List Float) → Long st s → Long st t → Alike (load st.n s) (load st.n t) → settles-by st order s ≡ true
      → Settled (load st.n (f st order s).store) (load st.n (f st order t).store)
  pub otherwise : (st : State) (order : List ℕ) (s : List Float) → settles-by st order s ≡ false
      → Unsettled st (load st.n s) (f st order s).state (load st.n (f st order s).store)
  -- a call that settles is no held call, and does not look at what is held
  pub apart : (st : State) (order : List ℕ) (s : List Float) → settles-by st order s ≡ true → held ≡ false
  pub fresh : (st : State) (h : Held) (order : List ℕ) (s : List Float) → is_empty h ≡ false → settles-by st order s ≡ true
      → (settles-by (with_held st h) order s ≡ true) × (f (with_held st h) order s ≡ f st order s)
  -- of the order list the first n alone are read
  pub orders : (st : State) (o p : List ℕ) (s : List Float) → st.n ≤ length o → st.n ≤ length p → take st.n o ≡ take st.n p → f st o s ≡ f st p s

abbrev pub Laws : StoreCall → Type 0
Laws c = LawsOf (perform_store c) (is_store_held c) (settling c)

-- ---- keeps
pub leaving-kept : (b : List (List Float)) (l : List Float) (r : Room) → Kept r (leaving b l r)
unfolding leaving
leaving-kept b l r = record { upper = refl; qtb = refl; norms = refl; rest = refl }

call_keeps : (c : StoreCall) (st : State) (order : List ℕ) (s : List Float) → Kept (load st.n s) (load st.n (perform_store c st order s).store)
call_keeps c st order s = performed c st order s (λ (o : StoreOutcome). Kept (load st.n s) (load st.n o.store))
    (λ e. subst (λ (x : Room). Kept (load st.n s) x) (sym (room_after c st order s (room_sized c st order s e))) (leaving-kept _ _ (load st.n s)))
    (λ h. record { upper = refl; qtb = refl; norms = refl; rest = refl })

-- ---- lasts: a store whose fourth part is whole is long enough, and its surplus is as it was
pub four_parts : (n : ℕ) (s : List Float) → 0 < n → length (load n s).work ≡ n → n * n + 4 * n ≤ length s
unfolding load part
four_parts n s p e =
    let a = length-take n (drop (n * n + 3 * n) s) in
    let b = length-drop (n * n + 3 * n) s in
    omega arith

pub same_length : (n : ℕ) (s t : List Float) → n * n + 4 * n ≤ length s → n * n + 4 * n ≤ length t → (load n t).rest ≡ (load n s).rest → length t ≡ length s
unfolding load
same_length n s t p q e =
    let a = length-drop (n * n + 4 * n) s in
    let b = length-drop (n * n + 4 * n) t in
    let d = ap length e in
    omega arith

pub work-left : (n : ℕ) (b : List (List Float)) (l : List Float) (r : Room) (x : Room) → x ≡ leaving b l r → Shaped n (leaving b l r) → length x.work ≡ n
work-left n b l r x e z = ap (λ (y : Room). length y.work) e ∙ z.work_long

call-lasts : (c : StoreCall) (st : State) (order : List ℕ) (s : List Float) → length (perform_store c st order s).store ≡ length s
call-lasts c st order s = performed c st order s (λ (o : StoreOutcome). length o.store ≡ length s)
    (λ e.
    let z = room_sized c st order s e in
    let r = load st.n s in
    let f = effect c st order r in
    let t = (effected st s f).store in
    let a = room_after c st order s z in
    same_length st.n s t z.fits
    (four_parts st.n t (room_tested c st order s e).sizes.cols_some
    (work-left st.n f.below f.ldiag r (load st.n t) a (effect_shaped st order r (load_shaped st.n s z) c)))
    (ap (λ (x : Room). x.rest) a ∙ (leaving-kept f.below f.ldiag r).rest))
    (λ h. refl)

call-sizes : (c : StoreCall) (st : State) (order : List ℕ) (s : List Float) → (perform_store c st order s).state ≡ with_held st (perform_store c st order s).state.held
call-sizes c st order s = performed c st order s (λ (o : StoreOutcome). o.state ≡ with_held st o.state.held) (λ e. refl) (λ h. refl)

-- ---- reads
module _ (c : StoreCall) (st : State) (order : List ℕ) (s t : List Float) (p : Long st s) (q : Long st t) where
  tested-same : tested_of c st order s ≡ tested_of c st order t
  tested-same = ap first_of (tests_long c st order (length s) (length t) p q)

  call_reads : Alike (load st.n s) (load st.n t) → (is_store_held c ≡ true → HeldAlike (load st.n s) (load st.n t))
      → ToldAlike (perform_store c st order s) (perform_store c st order t)
  call_reads a g = performed c st order s (λ (o : StoreOutcome). ToldAlike o (perform_store c st order t))
      (λ e.
      let same = effect_reads st order (load st.n s) (load st.n t) a c g in
      subst (λ (o : StoreOutcome). ToldAlike (effected st s (effect c st order (load st.n s))) o) (sym (passed_is c st order t (sym tested-same ∙ e)))
      (record { answer = same.answer; state = ap (λ (h : Held). with_held st h) same.held; out = same.out }))
      (λ h. subst (λ (o : StoreOutcome). ToldAlike (store_refusal c (tested_of c st order s) st s) o) (sym (refused_is c st order t (λ e. h (tested-same ∙ e))))
      (record { answer = ap (λ (k : ℕ). refused_as c k) tested-same; state = refl; out = refl }))

  -- ---- settles
  left-same : (b b' : List (List Float)) (l l' : List Float) (r r' x x' : Room) → b ≡ b' → l ≡ l' → length r.work ≡ length r'.work
      → x ≡ leaving b l r → x' ≡ leaving b' l' r' → Settled x x'
  unfolding leaving
  left-same b b' l l' r r' x x' hb hl hw e e' = record {
    below = ap (λ (y : Room). y.below) e ∙ hb ∙ sym (ap (λ (y : Room). y.below) e');
    ldiag = ap (λ (y : Room). y.ldiag) e ∙ hl ∙ sym (ap (λ (y : Room). y.ldiag) e');
    work = ap (λ (y : Room). y.work) e ∙ ap zeros hw ∙ sym (ap (λ (y : Room). y.work) e');
  }

  call_settles : Alike (load st.n s) (load st.n t) → settling c st order s ≡ true
      → Settled (load st.n (perform_store c st order s).store) (load st.n (perform_store c st order t).store)
  call_settles a h =
      let both = (and-eq-true_iff (is_store_solve c) (eqb (tested_of c st order s) 0)).0 h in
      let e = eqb-true (tested_of c st order s) 0 both.1 in
      let f = sym tested-same ∙ e in
      let z = room_sized c st order s e in
      let y = room_sized c st order t f in
      let zs = load_shaped st.n s z in
      let ys = load_shaped st.n t y in
      let same = effect_settles st order (load st.n s) (load st.n t) a zs ys c both.0 in
      left-same _ _ _ _ (load st.n s) (load st.n t) _ _ same.below same.ldiag (zs.work_long ∙ sym ys.work_long)
      (ap (λ (o : StoreOutcome). load st.n o.store) (passed_is c st order s e) ∙ room_after c st order s z)
      (ap (λ (o : StoreOutcome). load st.n o.store) (passed_is c st order t f) ∙ room_after c st order t y)

-- ---- and otherwise
not_solve : (b d : Bool) → (b && d) ≡ false → d ≡ true → b ≡ false
not_solve true d h e = sym e ∙ h
not_solve false d h e = refl

rested-left : (st : State) (b : List (List Float)) (l : List Float) (h : Held) (r x : Room) → b ≡ r.below → l ≡ r.ldiag → h ≡ st.held → x ≡ leaving b l r
    → Unsettled st r (with_held st h) x
unfolding leaving
rested-left st b l h r x hb hl hh e = record {
  state = ap (λ (k : Held). with_held st k) hh;
  below = ap (λ (y : Room). y.below) e ∙ hb;
  ldiag = ap (λ (y : Room). y.ldiag) e ∙ hl;
}

call_otherwise : (c : StoreCall) (st : State) (order : List ℕ) (s : List Float) → settling c st order s ≡ false
    → Unsettled st (load st.n s) (perform_store c st order s).state (load st.n (perform_store c st order s).store)
call_otherwise c st order s h = performed c st order s (λ (o : StoreOutcome). Unsettled st (load st.n s) o.state (load st.n o.store))
    (λ e.
    let r = load st.n s in
    let f = effect_rests st order r c (not_solve (is_store_solve c) (eqb (tested_of c st order s) 0) h (eq-eqb (tested_of c st order s) 0 e)) in
    rested-left st _ _ _ r _ f.below f.ldiag f.held (room_after c st order s (room_sized c st order s e)))
    (λ n. record { state = refl; below = refl; ldiag = refl })

-- ---- a solve and what is held
solve_apart : (c : StoreCall) → is_store_solve c ≡ true → is_store_held c ≡ false
solve_apart (zero_solve out) h = refl
solve_apart (damped_solve diag out) h = refl
solve_apart (held_solve rhs out) h = absurd (true≢false (sym h))
solve_apart (held_product out) h = absurd (true≢false (sym h))
solve_apart (gradient bnorm) h = absurd (true≢false (sym h))
solve_apart (above bnorm limit) h = absurd (true≢false (sym h))
solve_apart (jx_norm x) h = absurd (true≢false (sym h))
solve_apart (scaling md diag x bound) h = absurd (true≢false (sym h))
solve_apart determined h = absurd (true≢false (sym h))
solve_apart non_singular h = absurd (true≢false (sym h))

module _ (st : State) (h : Held) (order : List ℕ) where
  shortest_fresh : (c : StoreCall) → is_store_solve c ≡ true → shortest_of c (with_held st h) order ≡ shortest_of c st order
  unfolding shortest_of
  shortest_fresh (zero_solve out) a = refl
  shortest_fresh (damped_solve diag out) a = refl
  shortest_fresh (held_solve rhs out) a = absurd (true≢false (sym a))
  shortest_fresh (held_product out) a = absurd (true≢false (sym a))
  shortest_fresh (gradient bnorm) a = absurd (true≢false (sym a))
  shortest_fresh (above bnorm limit) a = absurd (true≢false (sym a))
  shortest_fresh (jx_norm x) a = absurd (true≢false (sym a))
  shortest_fresh (scaling md diag x bound) a = absurd (true≢false (sym a))
  shortest_fresh determined a = absurd (true≢false (sym a))
  shortest_fresh non_singular a = absurd (true≢false (sym a))

  further_fresh : (c : StoreCall) → is_store_solve c ≡ true → further_of c (with_held st h) order ≡ further_of c st order
  unfolding further_of
  further_fresh (zero_solve out) a = refl
  further_fresh (damped_solve diag out) a = refl
  further_fresh (held_solve rhs out) a = absurd (true≢false (sym a))
  further_fresh (held_product out) a = absurd (true≢false (sym a))
  further_fresh (gradient bnorm) a = absurd (true≢false (sym a))
  further_fresh (above bnorm limit) a = absurd (true≢false (sym a))
  further_fresh (jx_norm x) a = absurd (true≢false (sym a))
  further_fresh (scaling md diag x bound) a = absurd (true≢false (sym a))
  further_fresh determined a = absurd (true≢false (sym a))
  further_fresh non_singular a = absurd (true≢false (sym a))

  effect_fresh : (c : StoreCall) → is_store_solve c ≡ true → (r : Room) → effect c (with_held st h) order r ≡ effect c st order r
  unfolding effect
  effect_fresh (zero_solve out) a r = refl
  effect_fresh (damped_solve diag out) a r = refl
  effect_fresh (held_solve rhs out) a r = absurd (true≢false (sym a))
  effect_fresh (held_product out) a r = absurd (true≢false (sym a))
  effect_fresh (gradient bnorm) a r = absurd (true≢false (sym a))
  effect_fresh (above bnorm limit) a r = absurd (true≢false (sym a))
  effect_fresh (jx_norm x) a r = absurd (true≢false (sym a))
  effect_fresh (scaling md diag x bound) a r = absurd (true≢false (sym a))
  effect_fresh determined a r = absurd (true≢false (sym a))
  effect_fresh non_singular a r = absurd (true≢false (sym a))

  tested_fresh : (c : StoreCall) (s : List Float) → is_store_solve c ≡ true → is_empty h ≡ false → tested_of c st order s ≡ 0 → tested_of c (with_held st h) order s ≡ 0
  tested_fresh c s a e z =
      let f = (room_tested c st order s z).filled in
      rw (e, shortest_fresh c a, further_fresh c a) (rw f at z)

call_fresh : (c : StoreCall) (st : State) (h : Held) (order : List ℕ) (s : List Float) → is_empty h ≡ false → settling c st order s ≡ true
    → (settling c (with_held st h) order s ≡ true) × (perform_store c (with_held st h) order s ≡ perform_store c st order s)
call_fresh c st h order s e g =
    let both = (and-eq-true_iff (is_store_solve c) (eqb (tested_of c st order s) 0)).0 g in
    let z = eqb-true (tested_of c st order s) 0 both.1 in
    let y = tested_fresh st h order c s both.0 e z in (
      (and-eq-true_iff (is_store_solve c) (eqb (tested_of c (with_held st h) order s) 0)).1 (both.0, eq-eqb (tested_of c (with_held st h) order s) 0 y),
      passed_is c (with_held st h) order s y ∙ ap (λ (x : Effect). effected st s x) (effect_fresh st h order c both.0 (load st.n s)) ∙ sym (passed_is c st order s z),
    )

-- LAW
pub laws : (c : StoreCall) → Laws c
laws c = record {
  keeps = call_keeps c;
  lasts = call-lasts c;
  sizes = call-sizes c;
  reads = λ st order s t p q a g. call_reads c st order s t p q a g;
  settles = λ st order s t p q a h. call_settles c st order s t p q a h;
  otherwise = call_otherwise c;
  apart = λ st order s h. solve_apart c ((and-eq-true_iff (is_store_solve c) (eqb (tested_of c st order s) 0)).0 h).0;
  fresh = λ st h order s e g. call_fresh c st h order s e g;
  orders = λ st o p s a b e. order_surplus st o p a b e c s;
}
