-- 01, 'Refusal numbers, tested in this order', of a search: each number by the tests before it. Assumes nothing.
use mathlib.Core.Path.{◌≡◌, refl, sym, ap, ◌∙◌}
use mathlib.Core.Bool.{true, false, not}
use mathlib.Core.List.{List, [], ◌∷◌}
use Prim.Native.Nat.{ℕ, ◌≤◌, min}
use native.Mathlib.Omega.{arith}
use lib.ListN.{length, take}
use lib.Ieee.{Float}
use Rattle.leaves.specs.Reply.{refusal_number}
use Rattle.leaves.specs.declared.reply.Refusal.{Refusal}
use Rattle.leaves.specs.Number.{is_finite}
use Rattle.leaves.specs.Tests.{Test, first_of, none_zero, all_finite}
use Rattle.factor.specs.Tests.{finite_test, finite_number, not_above, below, solve_tests}
use Rattle.factor.specs.declared.state.State.{State}
use Rattle.leaves.proofs.Replies.{refusal_number-some}
use Rattle.leaves.proofs.Refusals.{stopped, test_met, went_to, past, none_left}
use Rattle.factor.proofs.Passed.{solve_passed}
use Rattle.search.specs.Search.{search_tests}

module _ (st : State) (store : ℕ) (order : List ℕ) (diag : List Float) (radius lambda : Float) (out : ℕ) {k : ℕ} (m : k ≡ min (length diag) out) where
  abbrev first : List Test
  first = solve_tests st store order (min (length diag) out)

  abbrev numbers : List Test
  numbers = finite_test st diag ∷ finite_number radius ∷ finite_number lambda ∷ (not_above radius, 7) ∷ (below lambda, 7) ∷ (not (none_zero (take st.n diag)), 7) ∷ []

  abbrev all : ℕ
  all = first_of (search_tests st store order diag radius lambda out)

  asked : {c : ℕ} → c ≡ first_of (solve_tests st store order k) → c ≡ first_of first
  asked e = e ∙ ap (λ (j : ℕ). first_of (solve_tests st store order j)) m

  pub first_met : (r : Refusal) → refusal_number r ≡ first_of (solve_tests st store order k) → refusal_number r ≡ all
  first_met r e = sym (stopped first numbers (refusal_number r) (asked e) (refusal_number-some r))

  module _ (e : 0 ≡ first_of (solve_tests st store order k)) where
    pub diag_long : st.n ≤ length diag
    diag_long = omega (arith, (solve_passed st store order (min (length diag) out) (sym (asked e))).room.each_long)

    to : {j : ℕ} → j ≡ first_of numbers → j ≡ all
    to h = went_to first numbers refl (asked e) refl h

    pub diag_met : not (all_finite (take st.n diag)) ≡ true → 6 ≡ all
    diag_met h = to (sym (test_met _ _ h))

    module _ (p₁ : not (all_finite (take st.n diag)) ≡ false) where
      pub radius_met : not (is_finite radius) ≡ true → 6 ≡ all
      radius_met h = to (past _ _ p₁ (sym (test_met _ _ h)))

      module _ (p₂ : not (is_finite radius) ≡ false) where
        pub lambda_met : not (is_finite lambda) ≡ true → 6 ≡ all
        lambda_met h = to (past _ _ p₁ (past _ _ p₂ (sym (test_met _ _ h))))

        module _ (p₃ : not (is_finite lambda) ≡ false) where
          pub above_met : not_above radius ≡ true → 7 ≡ all
          above_met h = to (past _ _ p₁ (past _ _ p₂ (past _ _ p₃ (sym (test_met _ _ h)))))

          module _ (p₄ : not_above radius ≡ false) where
            pub below_met : below lambda ≡ true → 7 ≡ all
            below_met h = to (past _ _ p₁ (past _ _ p₂ (past _ _ p₃ (past _ _ p₄ (sym (test_met _ _ h))))))

            module _ (p₅ : below lambda ≡ false) where
              pub zero_met : not (none_zero (take st.n diag)) ≡ true → 7 ≡ all
              zero_met h = to (past _ _ p₁ (past _ _ p₂ (past _ _ p₃ (past _ _ p₄ (past _ _ p₅ (sym (test_met _ _ h)))))))

              pub none_met : not (none_zero (take st.n diag)) ≡ false → 0 ≡ all
              none_met h = to (past _ _ p₁ (past _ _ p₂ (past _ _ p₃ (past _ _ p₄ (past _ _ p₅ (past _ _ h none_left))))))
