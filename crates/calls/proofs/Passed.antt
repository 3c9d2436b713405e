-- What is known once the tests are passed, and a call by its marks and its tests. Assumes nothing.
use mathlib.Core.Path.{◌≡◌, refl, sym, ap, ◌∙◌}
use mathlib.Core.Bool.{Bool, true, false}
use mathlib.Core.List.{List, [], ◌∷◌, ◌++◌}
use Prim.Native.Nat.{ℕ, zero, suc, ◌≤◌}
use native.Mathlib.Nat.{le_refl}
use native.Mathlib.Omega.{arith}
use lib.Dec.{ltb}
use lib.ListN.{length}
use lib.Ieee.{Float}
use borrow.Author.Tests.{ltb-false, eqb-false, eq-eqb, ne_eqb}
use Rattle.std.specs.Prelude.{Result, Ok, Err}
use Rattle.std.specs.Result.{IsErrAnd}
use Rattle.leaves.specs.declared.reply.Refusal.{Refusal}
use Rattle.leaves.specs.Reply.{refusal_number, failed_by}
use Rattle.leaves.specs.Tests.{outside, Test, first_of}
use Rattle.leaves.specs.Refusing.{NoneHold}
use Rattle.leaves.proofs.Replies.{refusal_number-some}
use Rattle.leaves.proofs.Refusals.{numbered, passed_iff, none_of_both, stopped, call-refused, call-worked}
use Rattle.leaves.proofs.Insides.{neither, Inside, inside}
use Rattle.leaves.proofs.Folds.{nonzero}
use Rattle.frozen.specs.Frozen.{marks_of, mark_past, free_count, is_set, next_of}
use Rattle.factor.specs.State.{is_empty, store_need}
use Rattle.calls.specs.declared.state.State.{State}
use Rattle.calls.specs.State.{cols}
use Rattle.calls.specs.Tests.{marked_room_tests, free_test, call_by}
use Rattle.calls.specs.inner.Reducible.{Reducible}

-- ---- no more columns are free than there are
free_or_not : (b : Bool) (ms : List Bool) → free_count (b ∷ ms) ≤ suc (free_count ms)
unfolding free_count
free_or_not true ms = omega arith
free_or_not false ms = le_refl (suc (free_count ms))

pub free_count-fits : (n x : ℕ) → free_count (marks_of n x) ≤ n
unfolding marks_of free_count
free_count-fits zero x = le_refl 0
free_count-fits (suc n) x =
    let h = free_count-fits n (next_of x) in
    let g = free_or_not (is_set x) (marks_of n (next_of x)) in
    omega arith

-- ---- a lent problem whose tests are passed, the last of them 9
pub record Ready (st : State) (store : List Float) (shortest : ℕ) : Type 0 where
  pub filled : is_empty st.held ≡ false
  pub sizes : Inside st.m st.n
  pub reducible : Reducible st.n st.marks (cols st) store
  pub each_long : st.n ≤ shortest

module _ (st : State) (store : List Float) (shortest : ℕ) where
  pub none_ready : NoneHold (marked_room_tests st (length store) shortest) → NoneHold (free_test st ∷ []) → Ready st store shortest
  none_ready h f =
      let two = neither (outside st.m st.n) (mark_past st.n st.marks) h.1.0 in
      let three = neither (ltb (length store) (store_need st.n)) (ltb shortest st.n) h.1.1.0 in
      let i = inside st.m st.n two.0 in
      record {
        filled = h.0;
        sizes = i;
        reducible = record {
          counted = refl;
          some = nonzero (cols st) (eqb-false (cols st) 0 f.0);
          fits = free_count-fits st.n st.marks;
          few = i.cols_few;
          long = ltb-false (length store) (store_need st.n) three.0;
        };
        each_long = ltb-false shortest st.n three.1;
      }

  -- `marked_solve_tests st s order k ++ us` is `marked_room_tests st s (min (length order) k) ++ (form_test st order ∷ us)`; more: every test between 3 and 9
  pub room_ready : (more : List Test) → numbered (more ++ (free_test st ∷ [])) ≡ true → first_of (marked_room_tests st (length store) shortest ++ (more ++ (free_test st ∷ []))) ≡ 0
      → Ready st store shortest
  room_ready more q e =
      let ts = marked_room_tests st (length store) shortest in
      let us = more ++ (free_test st ∷ []) in
      let h = none_of_both ts us ((passed_iff (ts ++ us) q).0 e) in
      none_ready h.0 (none_of_both more (free_test st ∷ []) h.1).1

-- ---- what a `?` hands on from the tests ts, where the tests us would follow
pub first_failed : (ts us : List Test) (r : Result (Unit {0}) Refusal) (j : Refusal) → IsErrAnd r (λ k. k ≡ j) → refusal_number j ≡ first_of ts → failed_by r ≡ first_of (ts ++ us)
first_failed ts us (Ok x) j h e = absurd h
first_failed ts us (Err k) j h e = ap refusal_number h ∙ sym (stopped ts us (refusal_number j) e (refusal_number-some j))

-- ---- a call by its marks and its tests: `if marks == 0 { .. }`, the refusal of the tests, the working
module _ {A : Type 0} (marks : ℕ) (tests : List Test) (unmarked worked : A) (refusal : ℕ → A) where
  pub by_no_mark : marks ≡ 0 → unmarked ≡ call_by marks tests unmarked worked refusal
  by_no_mark e = rw (eq-eqb marks 0 e, call_by)

  pub by_refusal : {c : ℕ} → (marks ≡ 0 → ⊥) → c ≡ first_of tests → (c ≡ 0 → ⊥) → refusal c ≡ call_by marks tests unmarked worked refusal
  by_refusal {c} m e h = call-refused worked refusal tests c (sym e) (ne_eqb c 0 h) ∙ rw (ne_eqb marks 0 m, call_by)

  pub by_working : {c : ℕ} → (marks ≡ 0 → ⊥) → c ≡ first_of tests → c ≡ 0 → worked ≡ call_by marks tests unmarked worked refusal
  by_working {c} m e z = call-worked worked refusal tests (sym e ∙ z) ∙ rw (ne_eqb marks 0 m, call_by)
