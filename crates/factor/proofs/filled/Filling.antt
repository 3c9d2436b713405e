-- The factoring of what stands in the bench, from what its tests and its working say. Assumes nothing.
use mathlib.Core.Path.{◌≡◌, refl, sym, ap, ◌∙◌}
use mathlib.Core.Bool.{false}
use mathlib.Core.List.{List}
use Prim.Native.Nat.{ℕ, ◌*◌, ◌≤◌}
use lib.Dec.{ltb}
use lib.ListN.{length, take, drop}
use lib.Ieee.{Float}
use borrow.Author.Tests.{ltb-false}
use Rattle.std.specs.Prelude.{Result, Ok, Err}
use Rattle.leaves.specs.Reply.{refused, refusal_number, reply_of}
use Rattle.leaves.specs.declared.reply.Refusal.{Refusal}
use Rattle.leaves.specs.Tests.{outside, first_of}
use Rattle.leaves.specs.declared.norm.Ranges.{Ranges}
use Rattle.factor.specs.State.{store_need, bench_need}
use Rattle.factor.specs.inner.Worked.{outcome}
use Rattle.factor.specs.Factoring.{Factored, factor_worked}
use Rattle.factor.specs.Filled.{filled_as, filled_of, filled_tests, factor_filled}
use Rattle.leaves.proofs.Refusals.{passed_iff, call-worked}
use Rattle.factor.proofs.Answers.{refused_by}
use Rattle.leaves.proofs.Insides.{neither}

pub filling_passed : (m n store order bench : ℕ) → first_of (filled_tests m n store order bench) ≡ 0
    → (outside m n ≡ false) × ((store_need n ≤ store) × ((n ≤ order) × (bench_need m n ≤ bench)))
filling_passed m n store order bench e =
    let h = (passed_iff (filled_tests m n store order bench) refl).0 e in
    let s = neither (ltb store (store_need n)) (ltb order n) h.1.0 in
    (h.0, (ltb-false store (store_need n) s.0, (ltb-false order n s.1, ltb-false bench (bench_need m n) h.1.1.0)))

module _ (m n : ℕ) (store : List Float) (order : List ℕ) (bench : List Float) where
  abbrev tests : ℕ
  tests = first_of (filled_tests m n (length store) (length order) (length bench))

  pub filling_refused : (r : Refusal) → refusal_number r ≡ tests → filled_as (refused (refusal_number r)) store order bench ≡ factor_filled m n store order bench
  unfolding factor_filled
  filling_refused r e = refused_by _ (λ k. filled_as (refused k) store order bench) _ r e

  filling_worked : {x : Factored} → 0 ≡ tests → x ≡ factor_worked m n (take (m * n) bench) (drop (m * n) bench) store order bench → filled_of x ≡ factor_filled m n store order bench
  unfolding factor_filled
  filling_worked e h = ap filled_of h ∙ call-worked _ (λ k. filled_as (refused k) store order bench) _ (sym e)

  -- finite, and not
  pub filling_told : (r : Result Ranges Refusal) {s s' : List Float} {o o' : List ℕ} {h h' : List Float} → 0 ≡ tests
      → outcome r m n s' o' h' ≡ factor_worked m n (take (m * n) bench) (drop (m * n) bench) store order bench → s ≡ s' → o ≡ o' → h ≡ h' → filled_as (reply_of r) s o h ≡ factor_filled m n store order bench
  filling_told (Ok seen) e w es eo eh = rw (es, eo, eh) (filling_worked e w)
  filling_told (Err r) e w es eo eh = rw (es, eo, eh) (filling_worked e w)
