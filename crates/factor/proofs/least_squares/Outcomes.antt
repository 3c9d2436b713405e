-- The solves' outcomes, from what their tests and their workings tell. Assumes nothing.
use mathlib.Core.Path.{◌≡◌, refl, sym, ap, ◌∙◌}
use mathlib.Core.Bool.{Bool, true, false, cond}
use mathlib.Core.List.{List, [], ◌∷◌, ◌++◌}
use Prim.Native.Nat.{ℕ, ◌<◌, ◌≤◌, min}
use lib.ListN.{length, take}
use lib.Ieee.{Float}
use Rattle.leaves.specs.Reply.{Reply, answered, refused, refusal_number}
use Rattle.leaves.specs.declared.reply.Refusal.{Refusal}
use Rattle.leaves.proofs.Replies.{refusal_number-some}
use Rattle.factor.specs.State.{with_held}
use Rattle.factor.specs.Room.{Room, load, lay, emptied}
use Rattle.leaves.specs.Tests.{Test, first_of, all_finite}
use Rattle.factor.specs.Tests.{finite_test, solve_tests}
use Rattle.factor.specs.Solve.{zero_solved, scatter, gather}
use Rattle.eliminate.specs.Eliminate.{Rows}
use Rattle.factor.specs.Outcome.{ended}
use Rattle.factor.specs.Solves.{solved_as, solved_if, damped_room, damped_numbers, zero_call, damped_call}
use Rattle.factor.specs.declared.state.Held.{Held}
use Rattle.factor.specs.declared.state.Held.TheVariants as held
use Rattle.factor.specs.declared.state.State.{State}
use Rattle.leaves.proofs.Refusals.{call-worked, stopped, went_on, test_met, test_passed, passed_iff, none_of_both}
use Rattle.factor.proofs.Answers.{refused_by}
use Rattle.factor.proofs.Passed.{solve_passed, passed_sized}
use Rattle.factor.proofs.Orders.{permutation-below}
use Rattle.factor.proofs.Damped.{damping_of}
use Rattle.leaves.specs.inner.Orders.{Names}
use Rattle.factor.specs.inner.Rooms.{Sized}

-- ---- what the tests tell the workings
pub tests_at : (st : State) (s : ℕ) (order : List ℕ) {c j k : ℕ} → c ≡ first_of (solve_tests st s order j) → j ≡ k → c ≡ first_of (solve_tests st s order k)
tests_at st s order e h = e ∙ ap (λ (k : ℕ). first_of (solve_tests st s order k)) h

pub record Solvable (st : State) (store : List Float) (order : List ℕ) (shortest : ℕ) : Type 0 where
  pub some : 0 < st.n
  pub sized : Sized st.n store
  pub each_long : st.n ≤ shortest
  pub named : Names st.n order

module _ (st : State) (store : List Float) (order : List ℕ) (shortest : ℕ) where
  pub solvable : 0 ≡ first_of (solve_tests st (length store) order shortest) → Solvable st store order shortest
  solvable e =
      let p = solve_passed st (length store) order shortest (sym e) in
      record {
        some = p.room.sizes.cols_some;
        sized = passed_sized st store shortest p.room;
        each_long = p.room.each_long;
        named = record { long = p.order_long; below = permutation-below st.n order p.permuted p.order_long };
      }

  -- and where more is tested after them
  pub solvable_before : (xs : List Float) → 0 ≡ first_of (solve_tests st (length store) order shortest ++ (finite_test st xs ∷ [])) → Solvable st store order shortest
  solvable_before xs e =
      let ts = solve_tests st (length store) order shortest in
      let us = finite_test st xs ∷ [] in
      solvable (sym ((passed_iff ts refl).1 (none_of_both ts us ((passed_iff (ts ++ us) refl).0 (sym e))).0))

-- ---- answered, and refused 8
module _ (st : State) (order : List ℕ) (h : Held) (r before : Room) (x out : List Float) where
  finite-solved : all_finite x ≡ true → solved_as st order h r x out ≡ solved_if st order h r before x out
  finite-solved e = rw (e, solved_if)

  broken_solved : all_finite x ≡ false → ended (refused 8) (with_held st held.Nothing) (lay (emptied before)) out ≡ solved_if st order h r before x out
  broken_solved e = rw (e, solved_if)

-- one value each for what a call hands back
same_ended : (a : Reply (Unit {0})) {t t' : State} {s s' o o' : List Float} → t ≡ t' → s ≡ s' → o ≡ o' → ended a t s o ≡ ended a t' s' o'
same_ended a {t} {t'} {s} {s'} {o} {o'} e f g =
    ap (λ (x : State). ended a x s o) e ∙ ap (λ (x : List Float). ended a t' x o) f ∙ ap (λ (x : List Float). ended a t' s' x) g

-- ---- the zero solve
module _ (st : State) (order : List ℕ) (store out : List Float) where
  abbrev solve_ts : List Test
  solve_ts = solve_tests st (length store) order (length out)

  abbrev zeroed : List Float
  zeroed = zero_solved st.m (load st.n store).upper (load st.n store).qtb

  pub zero_call-refused : (r : Refusal) → refusal_number r ≡ first_of solve_ts → ended (refused (refusal_number r)) st store out ≡ zero_call st order store out
  unfolding zero_call
  zero_call-refused r e = refused_by _ (λ k. ended (refused k) st store out) _ r e

  module _ {b : Bool} {t : State} {s o : List Float} (e : 0 ≡ first_of solve_ts) (a : b ≡ all_finite zeroed) where
    pub zero_call-answered : b ≡ true → t ≡ with_held st held.Zero → s ≡ lay (emptied (load st.n store))
        → o ≡ cond b (scatter (take st.n order) zeroed out) out → ended (answered tt) t s o ≡ zero_call st order store out
    unfolding zero_call
    zero_call-answered y h f g =
        same_ended (answered tt) h f (g ∙ ap (λ (x : Bool). cond x (scatter (take st.n order) zeroed out) out) y)
        ∙ finite-solved st order held.Zero (emptied (load st.n store)) (load st.n store) zeroed out (sym a ∙ y)
        ∙ call-worked _ (λ k. ended (refused k) st store out) _ (sym e)

    pub zero_call_broken : b ≡ false → t ≡ with_held st held.Nothing → s ≡ lay (emptied (load st.n store))
        → o ≡ cond b (scatter (take st.n order) zeroed out) out → ended (refused 8) t s o ≡ zero_call st order store out
    unfolding zero_call
    zero_call_broken y h f g =
        same_ended (refused 8) h f (g ∙ ap (λ (x : Bool). cond x (scatter (take st.n order) zeroed out) out) y)
        ∙ broken_solved st order held.Zero (emptied (load st.n store)) (load st.n store) zeroed out (sym a ∙ y)
        ∙ call-worked _ (λ k. ended (refused k) st store out) _ (sym e)

-- ---- the damped solve: 6 is tested last
module _ (st : State) (diag : List Float) (order : List ℕ) (s o : ℕ) where
  abbrev tests : List Test
  tests = solve_tests st s order (min (length diag) o)

  pub damped-stopped : (r : Refusal) → refusal_number r ≡ first_of tests → refusal_number r ≡ first_of (tests ++ (finite_test st diag ∷ []))
  damped-stopped r e = sym (stopped tests (finite_test st diag ∷ []) (refusal_number r) e (refusal_number-some r))

  pub damped_unfit : 0 ≡ first_of tests → all_finite (take st.n diag) ≡ false → 6 ≡ first_of (tests ++ (finite_test st diag ∷ []))
  damped_unfit e b = sym (went_on tests (finite_test st diag ∷ []) 0 refl e refl ∙ test_met (finite_test st diag) [] (rw b))

  pub damped_passed : 0 ≡ first_of tests → all_finite (take st.n diag) ≡ true → 0 ≡ first_of (tests ++ (finite_test st diag ∷ []))
  unfolding first_of
  damped_passed e b = sym (went_on tests (finite_test st diag ∷ []) 0 refl e refl ∙ test_passed (finite_test st diag) [] (rw b))

module _ (st : State) (diag : List Float) (order : List ℕ) (store out : List Float) where
  abbrev damped_ts : List Test
  damped_ts = solve_tests st (length store) order (min (length diag) (length out)) ++ (finite_test st diag ∷ [])

  abbrev reduced : Rows
  reduced = damping_of st.n (gather (take st.n order) diag) store

  pub damped_call-refused : (r : Refusal) → refusal_number r ≡ first_of damped_ts → ended (refused (refusal_number r)) st store out ≡ damped_call st diag order store out
  unfolding damped_call
  damped_call-refused r e = refused_by _ (λ k. ended (refused k) st store out) _ r e

  module _ {b : Bool} {t : State} {s o : List Float} (e : 0 ≡ first_of damped_ts) (a : b ≡ all_finite (damped_numbers reduced)) where
    pub damped_call-answered : b ≡ true → t ≡ with_held st held.Damped → s ≡ lay (cond b (damped_room reduced (load st.n store)) (emptied (load st.n store)))
        → o ≡ cond b (scatter (take st.n order) (damped_numbers reduced) out) out → ended (answered tt) t s o ≡ damped_call st diag order store out
    unfolding damped_call
    damped_call-answered y h f g =
        same_ended (answered tt) h (f ∙ ap (λ (x : Bool). lay (cond x (damped_room reduced (load st.n store)) (emptied (load st.n store)))) y)
        (g ∙ ap (λ (x : Bool). cond x (scatter (take st.n order) (damped_numbers reduced) out) out) y)
        ∙ finite-solved st order held.Damped (damped_room reduced (load st.n store)) (load st.n store) (damped_numbers reduced) out (sym a ∙ y)
        ∙ call-worked _ (λ k. ended (refused k) st store out) _ (sym e)

    pub damped_call_broken : b ≡ false → t ≡ with_held st held.Nothing → s ≡ lay (cond b (damped_room reduced (load st.n store)) (emptied (load st.n store)))
        → o ≡ cond b (scatter (take st.n order) (damped_numbers reduced) out) out → ended (refused 8) t s o ≡ damped_call st diag order store out
    unfolding damped_call
    damped_call_broken y h f g =
        same_ended (refused 8) h (f ∙ ap (λ (x : Bool). lay (cond x (damped_room reduced (load st.n store)) (emptied (load st.n store)))) y)
        (g ∙ ap (λ (x : Bool). cond x (scatter (take st.n order) (damped_numbers reduced) out) out) y)
        ∙ broken_solved st order held.Damped (damped_room reduced (load st.n store)) (load st.n store) (damped_numbers reduced) out (sym a ∙ y)
        ∙ call-worked _ (λ k. ended (refused k) st store out) _ (sym e)
