-- The search with marks: each number by the tests before it, and the call by its marks, its tests and its working. Assumes nothing.
use mathlib.Core.Path.{◌≡◌, refl, sym, ap, ◌∙◌}
use mathlib.Core.Bool.{true, false, not}
use mathlib.Core.List.{List, [], ◌∷◌}
use Prim.Native.Nat.{ℕ, ◌≤◌, min}
use native.Mathlib.Omega.{arith}
use lib.Dec.{ltb}
use lib.ListN.{length, take}
use lib.Ieee.{Float}
use borrow.Author.Tests.{ltb-false}
use Rattle.leaves.specs.Number.{is_finite}
use Rattle.leaves.specs.declared.reply.Refusal.{Refusal}
use Rattle.leaves.specs.Reply.{refused, refusal_number}
use Rattle.leaves.proofs.Replies.{refusal_number-some}
use Rattle.leaves.specs.Square.{zeros}
use Rattle.leaves.specs.Tests.{Test, first_of, none_zero, all_finite}
use Rattle.leaves.proofs.Refusals.{stopped, test_met, went_to, past, passed_iff}
use Rattle.leaves.proofs.Insides.{neither}
use Rattle.frozen.specs.Frozen.{free_of}
use Rattle.factor.specs.State.{store_need}
use Rattle.factor.specs.Tests.{finite_test, finite_number, not_above, below}
use Rattle.search.specs.Search.{Flagged}
use Rattle.search.specs.Search as plain
use Rattle.calls.specs.declared.state.State.{State}
use Rattle.calls.specs.State.{marks_in, cols, whole, without_frozen}
use Rattle.calls.specs.Tests.{form_test, marked_solve_tests, free_test}
use Rattle.calls.specs.Outcome.{MarkedEnded, marked_ended, ended_as, narrowed_in, emptied_by}
use Rattle.calls.specs.Search.{marked_search_tests, marked_search}
use Rattle.calls.proofs.Passed.{Ready, room_ready, by_no_mark, by_refusal, by_working}

-- ---- the tests, in order
module _ (st : State) (store : ℕ) (order : List ℕ) (diag : List Float) (radius lambda : Float) (out : ℕ) {k : ℕ} (m : k ≡ min (length diag) out) where
  abbrev pub first : List Test
  first = marked_solve_tests st store order (min (length diag) out)

  abbrev pub numbers : List Test
  numbers =
      finite_test (whole st) diag ∷ finite_number radius ∷ finite_number lambda ∷ (not_above radius, 7) ∷ (below lambda, 7) ∷ (not (none_zero (take st.n diag)), 7) ∷ free_test st ∷ []

  abbrev all : ℕ
  all = first_of (marked_search_tests st store order diag radius lambda out)

  pub tested : {c : ℕ} → c ≡ first_of (marked_solve_tests st store order k) → c ≡ first_of first
  tested e = e ∙ ap (λ (j : ℕ). first_of (marked_solve_tests st store order j)) m

  pub first_met : {c : ℕ} → c ≡ first_of (marked_solve_tests st store order k) → (c ≡ 0 → ⊥) → c ≡ all
  first_met {c} e h = sym (stopped first numbers c (tested e) h)

  module _ (e : 0 ≡ first_of (marked_solve_tests st store order k)) where
    pub diag_long : st.n ≤ length diag
    diag_long =
        let h = (passed_iff first refl).0 (sym (tested e)) in
        let j : ℕ = min (length order) (min (length diag) out) in
        let l : st.n ≤ j = ltb-false j st.n (neither (ltb store (store_need st.n)) (ltb j st.n) h.1.1.0).1 in
        omega arith

    to : {j : ℕ} → j ≡ first_of numbers → j ≡ all
    to h = went_to first numbers refl (tested e) refl h

    pub diag_met : not (all_finite (take st.n diag)) ≡ true → 6 ≡ all
    diag_met h = to (sym (test_met _ _ h))

    module _ (p₁ : not (all_finite (take st.n diag)) ≡ false) where
      pub radius_met : not (is_finite radius) ≡ true → 6 ≡ all
      radius_met h = to (past _ _ p₁ (sym (test_met _ _ h)))

      module _ (p₂ : not (is_finite radius) ≡ false) where
        pub lambda_met : not (is_finite lambda) ≡ true → 6 ≡ all
        lambda_met h = to (past _ _ p₁ (past _ _ p₂ (sym (test_met _ _ h))))

        module _ (p₃ : not (is_finite lambda) ≡ false) where
          pub above_met : not_above radius ≡ true → 7 ≡ all
          above_met h = to (past _ _ p₁ (past _ _ p₂ (past _ _ p₃ (sym (test_met _ _ h)))))

          module _ (p₄ : not_above radius ≡ false) where
            pub below_met : below lambda ≡ true → 7 ≡ all
            below_met h = to (past _ _ p₁ (past _ _ p₂ (past _ _ p₃ (past _ _ p₄ (sym (test_met _ _ h))))))

            module _ (p₅ : below lambda ≡ false) where
              pub zero_met : not (none_zero (take st.n diag)) ≡ true → 7 ≡ all
              zero_met h = to (past _ _ p₁ (past _ _ p₂ (past _ _ p₃ (past _ _ p₄ (past _ _ p₅ (sym (test_met _ _ h)))))))

              pub free_met : {j : ℕ} → not (none_zero (take st.n diag)) ≡ false → j ≡ first_of (free_test st ∷ []) → j ≡ all
              free_met p₆ h = to (past _ _ p₁ (past _ _ p₂ (past _ _ p₃ (past _ _ p₄ (past _ _ p₅ (past _ _ p₆ h))))))

-- ---- a lent problem whose tests are passed, its free columns counted
pub record Lent (st : State) (order : List ℕ) (diag store out : List Float) (free : ℕ) : Type 0 where
  pub ready : Ready st store (min (length order) (min (length diag) (length out)))
  pub counted : free ≡ cols st
  pub order_fits : st.n ≤ length order
  pub diag_fits : st.n ≤ length diag
  pub out_fits : st.n ≤ length out

-- ---- the call
module _ (st : State) (order : List ℕ) (diag : List Float) (radius lambda : Float) (store out : List Float) where
  abbrev tests : List Test
  tests = marked_search_tests st (length store) order diag radius lambda (length out)

  abbrev unmarked : MarkedEnded Flagged
  unmarked = ended_as st (plain.search_call (whole st) order diag radius lambda store out)

  abbrev working : List ℕ → List Float → List Float → MarkedEnded Flagged
  working o d x = emptied_by st store out (plain.search_call (without_frozen st) o d radius lambda (narrowed_in st store) x)

  abbrev worked : MarkedEnded Flagged
  worked = working (take (cols st) order) (free_of (marks_in st) diag) (zeros (cols st))

  abbrev refusal : ℕ → MarkedEnded Flagged
  refusal k = marked_ended (refused k) st store out

  pub search-unmarked : {x : MarkedEnded Flagged} → st.marks ≡ 0 → x ≡ unmarked → x ≡ marked_search st order diag radius lambda store out
  unfolding marked_search
  search-unmarked m h = h ∙ by_no_mark st.marks tests unmarked worked refusal m

  pub search-refused : (r : Refusal) → (st.marks ≡ 0 → ⊥) → refusal_number r ≡ first_of tests → refusal (refusal_number r) ≡ marked_search st order diag radius lambda store out
  unfolding marked_search
  search-refused r m e = by_refusal st.marks tests unmarked worked refusal m e (refusal_number-some r)

  module _ (e : 0 ≡ first_of tests) {free : ℕ} (f : free ≡ cols st) where
    pub search-lent : Lent st order diag store out free
    search-lent =
        let more = form_test st order ∷ finite_test (whole st) diag ∷ finite_number radius ∷ finite_number lambda ∷ (not_above radius, 7) ∷ (below lambda, 7) ∷ (not (none_zero (take st.n diag)), 7) ∷ [] in
        let r = room_ready st store (min (length order) (min (length diag) (length out))) more refl (sym e) in
        let l = r.each_long in
        record { ready = r; counted = f; order_fits = omega arith; diag_fits = omega arith; out_fits = omega arith }

    pub search-worked : (st.marks ≡ 0 → ⊥) → {ds : List Float} {x : MarkedEnded Flagged} → ds ≡ free_of (marks_in st) diag → x ≡ working (take free order) ds (zeros (cols st))
        → x ≡ marked_search st order diag radius lambda store out
    unfolding marked_search
    search-worked m g h =
        h ∙ ap (λ (l : List Float). working (take free order) l (zeros (cols st))) g
        ∙ ap (λ (k : ℕ). working (take k order) (free_of (marks_in st) diag) (zeros (cols st))) f ∙ by_working st.marks tests unmarked worked refusal m e refl
