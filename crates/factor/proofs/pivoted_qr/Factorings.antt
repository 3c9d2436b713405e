-- A factoring as its callers see it, from what its tests and its working say. Assumes nothing.
use mathlib.Core.Path.{◌≡◌, sym, ◌∙◌}
use mathlib.Core.Bool.{true, false, true≢false}
use mathlib.Core.List.{List}
use Prim.Native.Nat.{ℕ}
use lib.ListN.{length}
use lib.Ieee.{Float}
use Rattle.std.specs.Prelude.{Result, Ok, Err, is_ok}
use Rattle.leaves.specs.Reply.{refused, refusal_number, reply_of}
use Rattle.leaves.specs.declared.reply.Refusal.{Refusal}
use Rattle.leaves.specs.declared.norm.Ranges.{Ranges}
use Rattle.factor.specs.State.{empty, state_of}
use Rattle.factor.specs.declared.state.Held.TheVariants as held
use Rattle.leaves.specs.Tests.{first_of}
use Rattle.factor.specs.inner.Worked.{outcome}
use Rattle.factor.specs.Factoring.{Factored, factored, factor_tests, factor_worked, factor_call}
use Rattle.leaves.proofs.Refusals.{call-worked}
use Rattle.factor.proofs.Answers.{refused_by}

module _ (m n : ℕ) (jacobian residuals store : List Float) (order : List ℕ) (bench : List Float) where
  abbrev tests : ℕ
  tests = first_of (factor_tests m n jacobian residuals (length store) (length order) (length bench))

  pub factoring-refused : (r : Refusal) → refusal_number r ≡ tests → factored (refused (refusal_number r)) empty store order bench ≡ factor_call m n jacobian residuals store order bench
  unfolding factor_call
  factoring-refused r e = refused_by _ (λ k. factored (refused k) empty store order bench) _ r e

  pub factoring-worked : {x : Factored} → 0 ≡ tests → x ≡ factor_worked m n jacobian residuals store order bench → x ≡ factor_call m n jacobian residuals store order bench
  unfolding factor_call
  factoring-worked e h = h ∙ call-worked _ (λ k. factored (refused k) empty store order bench) _ (sym e)

  -- finite, and not
  pub factoring-answered : (r : Result Ranges Refusal) {s s' : List Float} {o o' : List ℕ} {h h' : List Float} → 0 ≡ tests → is_ok r ≡ true
      → outcome r m n s' o' h' ≡ factor_worked m n jacobian residuals store order bench → s ≡ s' → o ≡ o' → h ≡ h' → factored (reply_of r) (state_of m n held.Nothing) s o h ≡ factor_call m n jacobian residuals store order bench
  factoring-answered (Ok seen) e t w es eo eh = rw (es, eo, eh) (factoring-worked e w)
  factoring-answered (Err r) e t w es eo eh = absurd (true≢false (sym t))

  pub factoring_broken : (r : Result Ranges Refusal) {s s' : List Float} {o o' : List ℕ} {h h' : List Float} → 0 ≡ tests → is_ok r ≡ false
      → outcome r m n s' o' h' ≡ factor_worked m n jacobian residuals store order bench → s ≡ s' → o ≡ o' → h ≡ h' → factored (reply_of r) empty s o h ≡ factor_call m n jacobian residuals store order bench
  factoring_broken (Ok seen) e t w es eo eh = absurd (true≢false t)
  factoring_broken (Err r) e t w es eo eh = rw (es, eo, eh) (factoring-worked e w)
