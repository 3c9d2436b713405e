-- The held calls over plain lists, each by its tests. Assumes nothing.
use mathlib.Core.Path.{◌≡◌, refl, sym, ap, ◌∙◌}
use mathlib.Core.Bool.{true, false}
use mathlib.Core.List.{List, [], ◌∷◌, ◌++◌}
use Prim.Native.Nat.{ℕ, ◌<◌, ◌≤◌, min}
use native.Mathlib.Omega.{arith}
use lib.ListN.{length, take}
use lib.Ieee.{Float}
use Rattle.leaves.specs.Reply.{answered, refused, refusal_number}
use Rattle.leaves.specs.declared.reply.Refusal.{Refusal}
use Rattle.factor.specs.State.{is_empty}
use Rattle.factor.specs.Room.{Room, load, lay, rested}
use Rattle.leaves.specs.Tests.{Test, first_of, all_finite}
use Rattle.factor.specs.Tests.{room_tests, held_test, finite_test, solve_tests}
use Rattle.factor.specs.Solve.{gather}
use Rattle.factor.specs.Held.{held_solved, held_product_of}
use Rattle.factor.specs.Outcome.{ended, written}
use Rattle.factor.specs.HeldCalls.{rested_if, solve_call, mul_call}
use Rattle.factor.specs.declared.state.Held.{Held}
use Rattle.factor.specs.declared.state.State.{State}
use Rattle.factor.proofs.Answers.{refused_by}
use Rattle.factor.proofs.Orders.{permutation-below}
use Rattle.factor.proofs.Passed.{Ordered, solve_passed, room_passed, passed_sized}
use Rattle.leaves.proofs.Refusals.{numbered, passed_iff, none_of_both, test_met, test_passed, went_on, call-worked}
use Rattle.leaves.specs.inner.Orders.{Names}
use Rattle.factor.specs.inner.Rooms.{Sized}

-- ---- one more test after a list that is tested already
module _ (ts : List Test) (t : Test) (q : numbered ts ≡ true) (e : 0 ≡ first_of ts) where
  pub further_met : t.0 ≡ true → t.1 ≡ first_of (ts ++ (t ∷ []))
  further_met h = sym (went_on ts (t ∷ []) 0 q e refl ∙ test_met t [] h)

  pub further_passed : t.0 ≡ false → 0 ≡ first_of (ts ++ (t ∷ []))
  unfolding first_of
  further_passed h = sym (went_on ts (t ∷ []) 0 q e refl ∙ test_passed t [] h)

-- nothing is held by an empty state either, which is refused before it
pub held_too : (h : Held) → is_empty h ≡ false → (ts us : List Test) → numbered ts ≡ true → 0 ≡ first_of ts → {k : ℕ} → k ≡ first_of ((is_empty h, 5) ∷ us) → k ≡ first_of (ts ++ us)
held_too h p ts us q e f = f ∙ test_passed (is_empty h, 5) us p ∙ sym (went_on ts us 0 q e refl)

-- ---- what is known once the tests are passed
held_passed : (st : State) (store : ℕ) (order : List ℕ) (shortest : ℕ) (us : List Test) → numbered us ≡ true
    → first_of (solve_tests st store order shortest ++ (held_test st ∷ us)) ≡ 0 → Ordered st store order shortest
held_passed st store order shortest us q e =
    let ts = solve_tests st store order shortest in
    let h = none_of_both ts (held_test st ∷ us) ((passed_iff (ts ++ (held_test st ∷ us)) q).0 e) in
    solve_passed st store order shortest ((passed_iff ts refl).1 h.0)

pub rhs_fits : (st : State) (store : ℕ) (order : List ℕ) (rhs out : ℕ)
    → first_of (solve_tests st store order (min rhs out) ++ (held_test st ∷ [])) ≡ 0 → st.n ≤ rhs
rhs_fits st store order rhs out e = let l = (held_passed st store order (min rhs out) [] refl e).room.each_long in omega arith

pub record Ready (st : State) (store : List Float) (order : List ℕ) (rhs out : List Float) : Type 0 where
  pub some : 0 < st.n
  pub sized : Sized st.n store
  pub named : Names st.n order
  pub rhs_long : st.n ≤ length rhs
  pub out_long : st.n ≤ length out

pub solve_ready : (st : State) (store : List Float) (order : List ℕ) (rhs out : List Float) (us : List Test) → numbered us ≡ true
    → first_of (solve_tests st (length store) order (min (length rhs) (length out)) ++ (held_test st ∷ us)) ≡ 0 → Ready st store order rhs out
solve_ready st store order rhs out us q e =
    let p = held_passed st (length store) order (min (length rhs) (length out)) us q e in
    let l = p.room.each_long in
    record {
      some = p.room.sizes.cols_some;
      sized = passed_sized st store (min (length rhs) (length out)) p.room;
      named = record { long = p.order_long; below = permutation-below st.n order p.permuted p.order_long };
      rhs_long = omega arith;
      out_long = omega arith;
    }

pub record Filled (st : State) (store out : List Float) : Type 0 where
  pub some : 0 < st.n
  pub sized : Sized st.n store
  pub out_long : st.n ≤ length out

pub mul_ready : (st : State) (store out : List Float) → first_of (room_tests st (length store) (length out) ++ (held_test st ∷ [])) ≡ 0 → Filled st store out
mul_ready st store out e =
    let ts = room_tests st (length store) (length out) in
    let h = none_of_both ts (held_test st ∷ []) ((passed_iff (ts ++ (held_test st ∷ [])) refl).0 e) in
    let p = room_passed st (length store) (length out) ((passed_iff ts refl).1 h.0) in
    record { some = p.sizes.cols_some; sized = passed_sized st store (length out) p; out_long = p.each_long }

-- ---- 8 or the answer
rested-answered : (st : State) (r : Room) (x out : List Float) → true ≡ all_finite x → ended (answered tt) st (lay (rested r)) (written x out) ≡ rested_if st r x out
rested-answered st r x out h = rw (sym h, rested_if)

rested-refused : (st : State) (r : Room) (x out : List Float) → false ≡ all_finite x → ended (refused 8) st (lay (rested r)) out ≡ rested_if st r x out
rested-refused st r x out h = rw (sym h, rested_if)

-- ---- each call by its tests
module _ (st : State) (order : List ℕ) (rhs store out : List Float) where
  abbrev solve_all_ts : List Test
  solve_all_ts = solve_tests st (length store) order (min (length rhs) (length out)) ++ (held_test st ∷ finite_test st rhs ∷ [])

  abbrev answer : Held → List Float
  answer h = held_solved h (gather (take st.n order) rhs) (load st.n store)

  abbrev left : List Float
  left = lay (rested (load st.n store))

  pub solve-refused : (r : Refusal) → refusal_number r ≡ first_of solve_all_ts → ended (refused (refusal_number r)) st store out ≡ solve_call st order rhs store out
  unfolding solve_call
  solve-refused r e = refused_by _ (λ (k : ℕ). ended (refused k) st store out) solve_all_ts r e

  pub solve-answered : {h : Held} {s o : List Float} → st.held ≡ h → 0 ≡ first_of solve_all_ts → true ≡ all_finite (answer h) → s ≡ left → o ≡ written (answer h) out
      → ended (answered tt) st s o ≡ solve_call st order rhs store out
  unfolding solve_call
  solve-answered v e t f g =
      rw (f, g, ← v)
      (rested-answered st (load st.n store) (answer st.held) out (t ∙ ap (λ (x : Held). all_finite (answer x)) (sym v)) ∙ call-worked _ (λ (k : ℕ). ended (refused k) st store out) solve_all_ts (sym e))

  pub solve-refused_8 : {h : Held} {s o : List Float} → st.held ≡ h → 0 ≡ first_of solve_all_ts → false ≡ all_finite (answer h) → s ≡ left → o ≡ out
      → ended (refused 8) st s o ≡ solve_call st order rhs store out
  unfolding solve_call
  solve-refused_8 v e t f g =
      rw (f, g)
      (rested-refused st (load st.n store) (answer st.held) out (t ∙ ap (λ (x : Held). all_finite (answer x)) (sym v)) ∙ call-worked _ (λ (k : ℕ). ended (refused k) st store out) solve_all_ts (sym e))

module _ (st : State) (store out : List Float) where
  abbrev mul_ts : List Test
  mul_ts = room_tests st (length store) (length out) ++ (held_test st ∷ [])

  abbrev product : Held → List Float
  product h = held_product_of h (load st.n store)

  abbrev kept : List Float
  kept = lay (rested (load st.n store))

  pub mul-refused : (r : Refusal) → refusal_number r ≡ first_of mul_ts → ended (refused (refusal_number r)) st store out ≡ mul_call st store out
  unfolding mul_call
  mul-refused r e = refused_by _ (λ (k : ℕ). ended (refused k) st store out) mul_ts r e

  pub mul-answered : {h : Held} {s o : List Float} → st.held ≡ h → 0 ≡ first_of mul_ts → true ≡ all_finite (product h) → s ≡ kept → o ≡ written (product h) out
      → ended (answered tt) st s o ≡ mul_call st store out
  unfolding mul_call
  mul-answered v e t f g =
      rw (f, g, ← v)
      (rested-answered st (load st.n store) (product st.held) out (t ∙ ap (λ (x : Held). all_finite (product x)) (sym v)) ∙ call-worked _ (λ (k : ℕ). ended (refused k) st store out) mul_ts (sym e))

  pub mul-refused_8 : {h : Held} {s o : List Float} → st.held ≡ h → 0 ≡ first_of mul_ts → false ≡ all_finite (product h) → s ≡ kept → o ≡ out
      → ended (refused 8) st s o ≡ mul_call st store out
  unfolding mul_call
  mul-refused_8 v e t f g =
      rw (f, g)
      (rested-refused st (load st.n store) (product st.held) out (t ∙ ap (λ (x : Held). all_finite (product x)) (sym v)) ∙ call-worked _ (λ (k : ℕ). ended (refused k) st store out) mul_ts (sym e))
