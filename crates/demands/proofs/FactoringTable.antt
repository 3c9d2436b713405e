-- 01, 'Refusal numbers', as a table of factoring: refused k, for k from 2 to 7, exactly when k's condition holds and none that is tested before
-- it, the lent slices as they came; refused 8 exactly when all tests are passed and R, a column norm or qt_b would hold a number that is not
-- finite, and what is then in the lent slices; answered otherwise. A refused factoring hands back the empty state. Assumes nothing.
use mathlib.Core.Path.{◌≡◌, refl, sym, ap, ◌∙◌}
use mathlib.Core.Bool.{Bool, true, false}
use mathlib.Core.List.{List}
use mathlib.Core.Logic.{◌↔◌}
use Prim.Native.Nat.{ℕ, ◌<◌}
use native.Mathlib.Omega.{arith}
use lib.Dec.{eqb}
use lib.ListN.{length}
use lib.Ieee.{Float}
use borrow.Author.Tests.{eqb-true, eqb-false}
use Rattle.leaves.specs.Reply.{refused}
use Rattle.factor.specs.State.{empty}
use Rattle.factor.specs.Room.{Room}
use Rattle.leaves.specs.Tests.{Test, first_of}
use Rattle.factor.specs.Factoring.{Factored, factored, factor_tests, finite_room, factor_worked, factor_call}
use Rattle.demands.specs.Calls.{reply_number}
use Rattle.leaves.proofs.Refusals.{refused_iff, passed_iff, call-refused, call-worked}
use Rattle.demands.proofs.TestNumbers.{first_small}
use Rattle.leaves.specs.Refusing.{NoneHold, RefusedBy}
use Rattle.demands.specs.Factorings.{room_made, factoring_stands, factoring_breaks}

module _ (m n : ℕ) (jacobian residuals store : List Float) (order : List ℕ) (bench : List Float) where
  abbrev pub tests : List Test
  tests = factor_tests m n jacobian residuals (length store) (length order) (length bench)

  abbrev pub call : Factored
  call = factor_call m n jacobian residuals store order bench

  abbrev pub given : ℕ
  given = reply_number call.reply

  abbrev pub room : Room
  room = room_made m n jacobian residuals store

  abbrev pub stands : Factored
  stands = factoring_stands m n jacobian residuals store order bench

  abbrev pub breaks : Factored
  breaks = factoring_breaks m n store order bench

  pub worked_stands : finite_room room ≡ true → factor_worked m n jacobian residuals store order bench ≡ stands
  unfolding factor_worked
  worked_stands h = rw (h, factor_worked)

  pub worked_breaks : finite_room room ≡ false → factor_worked m n jacobian residuals store order bench ≡ breaks
  unfolding factor_worked
  worked_breaks h = rw (h, factor_worked)

  passed_is : first_of tests ≡ 0 → call ≡ factor_worked m n jacobian residuals store order bench
  unfolding factor_call
  passed_is e = sym (call-worked _ (λ k. factored (refused k) empty store order bench) _ e)

  refused_is : eqb (first_of tests) 0 ≡ false → call ≡ factored (refused (first_of tests)) empty store order bench
  unfolding factor_call
  refused_is h = sym (call-refused _ (λ k. factored (refused k) empty store order bench) _ (first_of tests) refl h)

  none_met : first_of tests ≡ 0 → NoneHold tests
  none_met e = (passed_iff tests refl).0 e

  -- which of the three it is
  cases : {X : Type 0} → (NoneHold tests → finite_room room ≡ true → call ≡ stands → X) → (NoneHold tests → finite_room room ≡ false → call ≡ breaks → X)
      → ((first_of tests ≡ 0 → ⊥) → call ≡ factored (refused (first_of tests)) empty store order bench → X) → X
  cases {X} p q r = by (eqb (first_of tests) 0) refl (finite_room room) refl
    where
      by : (b : Bool) → eqb (first_of tests) 0 ≡ b → (d : Bool) → finite_room room ≡ d → X
      by true e true f = let z = eqb-true (first_of tests) 0 e in p (none_met z) f (passed_is z ∙ worked_stands f)
      by true e false f = let z = eqb-true (first_of tests) 0 e in q (none_met z) f (passed_is z ∙ worked_breaks f)
      by false e d f = r (eqb-false (first_of tests) 0 e) (refused_is e)

  number : {x : Factored} {k : ℕ} → call ≡ x → given ≡ k → reply_number x.reply ≡ k
  number e h = ap (λ (y : Factored). reply_number y.reply) (sym e) ∙ h

  -- LAW: 2 to 7, in the order of the tests
  pub refused_early : (k : ℕ) → 0 < k → k < 8 → (given ≡ k) ↔ RefusedBy tests k
  refused_early k p q = (
    λ h. cases (λ n f e. absurd (let z = number e h in omega arith)) (λ n f e. absurd (let z = number e h in omega arith)) (λ n e. (refused_iff tests k p).0 (number e h)),
    λ r.
        let t = (refused_iff tests k p).1 r in
        cases (λ n f e. absurd (let z = (passed_iff tests refl).1 n in omega arith)) (λ n f e. absurd (let z = (passed_iff tests refl).1 n in omega arith))
        (λ n e. ap (λ (y : Factored). reply_number y.reply) e ∙ t),
  )

  -- LAW: and then the lent slices are as they came
  pub refused_whole : (k : ℕ) → 0 < k → RefusedBy tests k → call ≡ factored (refused k) empty store order bench
  refused_whole k p r =
      let t = (refused_iff tests k p).1 r in
      cases (λ n f e. absurd (let z = (passed_iff tests refl).1 n in omega arith)) (λ n f e. absurd (let z = (passed_iff tests refl).1 n in omega arith))
      (λ n e. e ∙ ap (λ (j : ℕ). factored (refused j) empty store order bench) t)

  -- LAW: 8, and what is then in the lent slices
  pub refused_eight : (given ≡ 8) ↔ (NoneHold tests × (finite_room room ≡ false))
  refused_eight = (
    λ h. cases (λ n f e. absurd (let z = number e h in omega arith)) (λ n f e. (n, f)) (λ n e. absurd (let z = number e h in let y = first_small tests refl in omega arith)),
    λ w. ap (λ (y : Factored). reply_number y.reply) (passed_is ((passed_iff tests refl).1 w.0) ∙ worked_breaks w.1),
  )

  pub eight_whole : given ≡ 8 → call ≡ breaks
  eight_whole h = let w = refused_eight.0 h in passed_is ((passed_iff tests refl).1 w.0) ∙ worked_breaks w.1

  -- LAW: answered
  pub answered_otherwise : (given ≡ 0) ↔ (NoneHold tests × (finite_room room ≡ true))
  answered_otherwise = (
    λ h. cases (λ n f e. (n, f)) (λ n f e. absurd (let z = number e h in omega arith)) (λ n e. absurd (n (number e h))),
    λ w. ap (λ (y : Factored). reply_number y.reply) (passed_is ((passed_iff tests refl).1 w.0) ∙ worked_stands w.1),
  )

  pub answered_whole : given ≡ 0 → call ≡ stands
  answered_whole h = let w = answered_otherwise.0 h in passed_is ((passed_iff tests refl).1 w.0) ∙ worked_stands w.1
