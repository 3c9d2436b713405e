-- The held calls: their tests, the call on the problem without the frozen columns read as one of the lent problem, and each call by its marks
-- and its tests. Assumes nothing.
use mathlib.Core.Path.{◌≡◌, refl, sym, ap, ◌∙◌}
use mathlib.Core.List.{List, [], ◌∷◌, ◌++◌}
use Prim.Native.Nat.{ℕ, ◌≤◌, min}
use native.Mathlib.Omega.{arith}
use lib.ListN.{length, take}
use lib.Ieee.{Float}
use borrow.Author.Tests.{ltb-false}
use lib.Dec.{ltb}
use Rattle.leaves.specs.declared.reply.Refusal.{Refusal}
use Rattle.leaves.specs.Reply.{Reply, refused, refusal_number}
use Rattle.leaves.proofs.Replies.{refusal_number-some}
use Rattle.leaves.specs.Square.{zeros}
use Rattle.leaves.specs.Tests.{Test, first_of}
use Rattle.leaves.proofs.Insides.{neither}
use Rattle.leaves.proofs.Refusals.{passed_iff}
use Rattle.frozen.specs.Frozen.{free_of}
use Rattle.factor.specs.State.{store_need}
use Rattle.factor.specs.Tests.{held_test, finite_test}
use Rattle.factor.specs.Outcome.{Read, read}
use Rattle.factor.specs.Outcome as plain
use Rattle.factor.specs.HeldCalls as unmarked
use Rattle.calls.specs.declared.state.State.{State}
use Rattle.calls.specs.State.{marks_in, cols, whole, without_frozen}
use Rattle.calls.specs.Tests.{marked_room_tests, form_test, marked_solve_tests, free_test}
use Rattle.calls.specs.Outcome.{marked_ended, ended_as, narrowed_in, rested_store, held_by}
use Rattle.calls.specs.HeldCalls.{marked_solve, marked_mul, marked_read}
use Rattle.calls.proofs.Passed.{Ready, room_ready, by_no_mark, by_refusal, by_working}

-- ---- the tests before those of the held calls
pub each_fits : (st : State) (store : ℕ) (order : List ℕ) (shortest : ℕ) → first_of (marked_solve_tests st store order shortest) ≡ 0 → st.n ≤ shortest
each_fits st store order shortest e =
    let h = (passed_iff (marked_solve_tests st store order shortest) refl).0 e in
    let l = ltb-false (min (length order) shortest) st.n (neither (ltb store (store_need st.n)) (ltb (min (length order) shortest) st.n) h.1.1.0).1 in
    omega arith

-- ---- a call on a store that is only read, and work +0 in the lent one
held-rested : (st : State) (store out : List Float) (e : plain.Ended (Unit {0})) {a : Reply (Unit {0})} {s o : List Float} → read a o ≡ marked_read (held_by st store out e)
    → s ≡ rested_store st store → marked_ended a st s o ≡ held_by st store out e
held-rested st store out e h f = rw f (ap (λ (z : Read). marked_ended z.reply st (rested_store st store) z.out) h)

-- ---- each call by its marks and its tests
module _ (st : State) (order : List ℕ) (rhs store out : List Float) where
  abbrev solve_ts : List Test
  solve_ts = marked_solve_tests st (length store) order (min (length rhs) (length out)) ++ (held_test (whole st) ∷ finite_test (whole st) rhs ∷ free_test st ∷ [])

  abbrev asked : List ℕ → List Float → List Float → plain.Ended (Unit {0})
  asked o b x = unmarked.solve_call (without_frozen st) o b (narrowed_in st store) x

  pub solve-unmarked : st.marks ≡ 0 → ended_as st (unmarked.solve_call (whole st) order rhs store out) ≡ marked_solve st order rhs store out
  unfolding marked_solve
  solve-unmarked m = by_no_mark st.marks solve_ts _ _ (λ (k : ℕ). marked_ended (refused k) st store out) m

  pub solve-refused : (r : Refusal) → (st.marks ≡ 0 → ⊥) → refusal_number r ≡ first_of solve_ts → marked_ended (refused (refusal_number r)) st store out ≡ marked_solve st order rhs store out
  unfolding marked_solve
  solve-refused r m e = by_refusal st.marks solve_ts _ _ (λ (k : ℕ). marked_ended (refused k) st store out) m e (refusal_number-some r)

  module _ (m : st.marks ≡ 0 → ⊥) (e : 0 ≡ first_of solve_ts) where
    pub solve_ready : Ready st store (min (length order) (min (length rhs) (length out)))
    solve_ready = room_ready st store (min (length order) (min (length rhs) (length out))) (form_test st order ∷ held_test (whole st) ∷ finite_test (whole st) rhs ∷ []) refl (sym e)

    module _ {free : ℕ} {bs : List Float} (f : free ≡ cols st) (g : bs ≡ free_of (marks_in st) rhs) where
      pub solve-worked : held_by st store out (asked (take free order) bs (zeros (cols st))) ≡ marked_solve st order rhs store out
      unfolding marked_solve
      solve-worked = rw (g, f) (by_working st.marks solve_ts _ _ (λ (k : ℕ). marked_ended (refused k) st store out) m e refl)

      pub solve-rested : {a : Reply (Unit {0})} {s o : List Float} → read a o ≡ marked_read (held_by st store out (asked (take free order) bs (zeros (cols st)))) → s ≡ rested_store st store
          → marked_ended a st s o ≡ marked_solve st order rhs store out
      solve-rested h t = held-rested st store out (asked (take free order) bs (zeros (cols st))) h t ∙ solve-worked

module _ (st : State) (store out : List Float) where
  abbrev mul_ts : List Test
  mul_ts = marked_room_tests st (length store) (length out) ++ (held_test (whole st) ∷ free_test st ∷ [])

  pub mul-unmarked : st.marks ≡ 0 → ended_as st (unmarked.mul_call (whole st) store out) ≡ marked_mul st store out
  unfolding marked_mul
  mul-unmarked m = by_no_mark st.marks mul_ts _ _ (λ (k : ℕ). marked_ended (refused k) st store out) m

  pub mul-refused : (r : Refusal) → (st.marks ≡ 0 → ⊥) → refusal_number r ≡ first_of mul_ts → marked_ended (refused (refusal_number r)) st store out ≡ marked_mul st store out
  unfolding marked_mul
  mul-refused r m e = by_refusal st.marks mul_ts _ _ (λ (k : ℕ). marked_ended (refused k) st store out) m e (refusal_number-some r)

  module _ (m : st.marks ≡ 0 → ⊥) (e : 0 ≡ first_of mul_ts) where
    pub mul_ready : Ready st store (length out)
    mul_ready = room_ready st store (length out) (held_test (whole st) ∷ []) refl (sym e)

    abbrev product : plain.Ended (Unit {0})
    product = unmarked.mul_call (without_frozen st) (narrowed_in st store) (zeros (cols st))

    pub mul-worked : held_by st store out product ≡ marked_mul st store out
    unfolding marked_mul
    mul-worked = by_working st.marks mul_ts _ _ (λ (k : ℕ). marked_ended (refused k) st store out) m e refl

    pub mul-rested : {a : Reply (Unit {0})} {s o : List Float} → read a o ≡ marked_read (held_by st store out product) → s ≡ rested_store st store → marked_ended a st s o ≡ marked_mul st store out
    mul-rested h t = held-rested st store out product h t ∙ mul-worked
