-- 4: an order list whose free columns stand first, and whose remaining places continue the count. Assumes nothing.
use Prim.Native.Nat.{ℕ, ◌+◌, ◌≤◌, ◌<◌}
use mathlib.Core.Path.{◌≡◌, refl, sym, ◌∙◌}
use mathlib.Core.Bool.{Bool, true, false, not}
use mathlib.Core.List.{List, [], ◌∷◌}
use native.Mathlib.Numerals.{add-one}
use native.Mathlib.Omega.{arith}
use lib.ListN.{length, take, drop, get_or, drop_of_length-le}
use lib.Seq.{drop-cons}
use lib.Dec.{ltb}
use borrow.Author.Tests.{eq-eqb, ne_eqb, le-ltb, ltb-false}
use Rattle.std.specs.Prelude.{Result, Ok, Err}
use Rattle.std.specs.Result.{is_err}
use Rattle.leaves.specs.declared.reply.Refusal.{Refusal}
use Rattle.leaves.specs.Reply.{failed_by}
use Rattle.leaves.specs.Tests.{outside, first_of}
use Rattle.leaves.proofs.Replies.{refusal_number-some}
use Rattle.leaves.proofs.Insides.{neither, inside, within}
use Rattle.leaves.proofs.Refusals.{passed_iff}
use Rattle.frozen.specs.Frozen.{mark_past}
use Rattle.factor.specs.State.{store_need}
use Rattle.factor.specs.Tests.{distinct_below, is_permutation, permutation_tests}
use Rattle.calls.specs.declared.state.State.{State}
use Rattle.calls.specs.Tests.{marked_room_tests, continues, is_order}

-- ---- the count, by turns of the loop over the places
module _ (k : ℕ) (order : List ℕ) where
  pub count_stops : k < length order → (get_or order k 0 ≡ k → ⊥) → continues k (drop k order) ≡ false
  unfolding continues
  count_stops h e = rw (drop-cons order k 0 h, ne_eqb (get_or order k 0) k e)

  pub count_goes : k < length order → get_or order k 0 ≡ k → continues k (drop k order) ≡ continues (k + 1) (drop (k + 1) order)
  unfolding continues
  count_goes h e = rw (drop-cons order k 0 h, eq-eqb (get_or order k 0) k e, add-one)

  pub count_ends : length order ≤ k → continues k (drop k order) ≡ true
  unfolding continues
  count_ends h = rw (drop_of_length-le order {i = k} h)

-- ---- whether tests failed, asked by `is_err`
pub failed_some : (r : Result (Unit {0}) Refusal) {k : ℕ} → is_err r ≡ true → failed_by r ≡ k → k ≡ 0 → ⊥
failed_some (Ok x) h e z = absurd (cc)
failed_some (Err j) h e z = refusal_number-some j (e ∙ z)

pub failed_none : (r : Result (Unit {0}) Refusal) {k : ℕ} → is_err r ≡ false → failed_by r ≡ k → k ≡ 0
failed_none (Ok x) h e = sym e
failed_none (Err j) h e = absurd (cc)

-- ---- the free columns among themselves
four : first_of ((true, 4) ∷ []) ≡ 0 → ⊥
unfolding first_of
four h = omega arith

none : first_of ((false, 4) ∷ []) ≡ 0
unfolding first_of
none = refl

module _ (free : ℕ) (order : List ℕ) where
  pub none_permuted : free ≤ 0 → is_permutation free order ≡ true
  unfolding distinct_below
  none_permuted h = let z : free ≡ 0 = omega arith in rw z

  module _ (p : 0 < free) (f : free ≤ 16) (l : free ≤ length order) where
    last_test : first_of (permutation_tests free order) ≡ first_of ((not (is_permutation free order), 4) ∷ [])
    unfolding first_of
    last_test = rw (within 1 free (record { rows_some = omega arith; rows_few = omega arith; cols_some = p; cols_few = f }), le-ltb (length order) free l)

    pub is_permuted : first_of (permutation_tests free order) ≡ 0 → is_permutation free order ≡ true
    is_permuted e = by (is_permutation free order) (sym last_test ∙ e)
      where
        by : (b : Bool) → first_of ((not b, 4) ∷ []) ≡ 0 → b ≡ true
        by true h = refl
        by false h = absurd (four h)

    pub not_permuted : (first_of (permutation_tests free order) ≡ 0 → ⊥) → is_permutation free order ≡ false
    not_permuted e = by (is_permutation free order) (λ h. e (last_test ∙ h))
      where
        by : (b : Bool) → (first_of ((not b, 4) ∷ []) ≡ 0 → ⊥) → b ≡ false
        by true h = absurd (h none)
        by false h = refl

-- ---- both
module _ (free n : ℕ) (order : List ℕ) where
  pub order-refused : is_permutation free order ≡ false → false ≡ is_order free n order
  order-refused e = rw (e, is_order)

  pub order_counted : {c : Bool} → is_permutation free order ≡ true → c ≡ continues free (drop free (take n order)) → c ≡ is_order free n order
  order_counted e h = rw (e, is_order) h

-- what an order list is tested after: 2 and 3
pub room_passed : (st : State) (store shortest : ℕ) → first_of (marked_room_tests st store shortest) ≡ 0 → (st.n ≤ 16) × (st.n ≤ shortest)
room_passed st store shortest e =
    let h = (passed_iff (marked_room_tests st store shortest) refl).0 e in
    let two = neither (outside st.m st.n) (mark_past st.n st.marks) h.1.0 in
    let three = neither (ltb store (store_need st.n)) (ltb shortest st.n) h.1.1.0 in
    ((inside st.m st.n two.0).cols_few, ltb-false shortest st.n three.1)
