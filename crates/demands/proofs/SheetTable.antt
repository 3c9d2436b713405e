-- 01, 'Refusal numbers', as a table of the sheets: refused k, for k from 1 to 7, exactly when k's condition holds and none that is tested before it;
-- refused 8 exactly when all tests are passed and the working is refused 8; answered exactly when they are passed and the working answers. A refused
-- sheet writes nothing, and none is refused 4 or 5. Assumes nothing.
use mathlib.Core.Path.{◌≡◌, refl, sym, ap, ◌∙◌, subst}
use mathlib.Core.Bool.{Bool, true, false, ◌&&◌, ◌||◌, and-eq-true_iff}
use mathlib.Core.List.{List}
use mathlib.Core.Logic.{◌↔◌, ◌⊎◌, inl, inr}
use Prim.Native.Nat.{ℕ, ◌<◌, ◌≤◌}
use native.Mathlib.Omega.{arith}
use lib.Dec.{eqb, ltb}
use lib.ListN.{length}
use lib.Ieee.{Float}
use borrow.Author.Tests.{ltb-true, eqb-true, eqb-false}
use Rattle.leaves.specs.Reply.{refused}
use Rattle.leaves.specs.Tests.{Test, first_of}
use Rattle.leaves.proofs.Folds.{nonzero}
use Rattle.leaves.proofs.Refusals.{refused_iff, passed_iff}
use Rattle.sheet.specs.Sheet.{Task, search, start, head_of, job_of}
use Rattle.sheet.specs.Tests.{task_tests, numbers_of, sheet_tests}
use Rattle.sheet.specs.Fit.{Fit, Finished, finished, sheet_call}
use Rattle.sheet.proofs.Refused.{all_numbered, sheet_is_refused, sheet_is_worked}
use Rattle.demands.specs.Calls.{reply_number}
use Rattle.demands.proofs.SheetNumbers.{sheet_workable}
use Rattle.demands.proofs.SheetSeeking.{Ends}
use Rattle.demands.proofs.SheetWorking.{worked_ends}
use Rattle.leaves.specs.Refusing.{NoneHold, RefusedBy}
use Rattle.demands.specs.Eight.{sheet_working}
use Rattle.demands.proofs.TestNumbers.{every, first_of_lem}

-- ---- the tests' numbers are 1, 2, 3, 6 and 7
abbrev known : ℕ → Bool
known k = (ltb k 4 || ltb 5 k) && ltb k 8

abbrev Named : ℕ → Type 0
Named k = (k ≤ 3) ⊎ ((6 ≤ k) × (k ≤ 8))

known_named : (k : ℕ) → known k ≡ true → Named k × (k < 8)
known_named k h =
    let w = (and-eq-true_iff (ltb k 4 || ltb 5 k) (ltb k 8)).0 h in
    let l = ltb-true k 8 w.1 in
    (by (ltb k 4) refl w.0 l, l)
  where
    by : (b : Bool) → ltb k 4 ≡ b → (b || ltb 5 k) ≡ true → k < 8 → Named k
    by true e g l = let a = ltb-true k 4 e in inl (omega arith)
    by false e g l = let a = ltb-true 5 k g in inr (omega arith, omega arith)

task_listed : (t : Task) → every known (task_tests t) ≡ true
task_listed (search diag radius lambda) = refl
task_listed (start x bound) = refl

module _ (s : List ℕ) (step : List Float) where
  abbrev pub tests : List Test
  tests = sheet_tests s (length step)

  abbrev pub call : Finished Fit
  call = sheet_call s step

  abbrev pub working : Finished Fit
  working = sheet_working s step

  abbrev pub given : ℕ
  given = reply_number call.reply

  tests_listed : every known tests ≡ true
  unfolding sheet_tests
  tests_listed = task_listed (job_of (head_of s) (numbers_of (head_of s) s)).task

  number : {t : Finished Fit} {k : ℕ} → call ≡ t → given ≡ k → reply_number t.reply ≡ k
  number e h = ap (λ (t : Finished Fit). reply_number t.reply) (sym e) ∙ h

  -- which of the three it is
  cases : {X : Type 0} → (NoneHold tests → call ≡ working → reply_number working.reply ≡ 0 → X) → (NoneHold tests → call ≡ working → working ≡ finished (refused 8) step → X)
      → ((k : ℕ) → Named k × (k < 8) → (0 < k) × RefusedBy tests k → call ≡ finished (refused k) step → X) → X
  cases {X} p q r = by (eqb (first_of tests) 0) refl
    where
      passed : NoneHold tests → Ends step working → X
      passed n (inl z) = p n (sym (sheet_is_worked s step n)) z
      passed n (inr e) = q n (sym (sheet_is_worked s step n)) e

      by : (b : Bool) → eqb (first_of tests) 0 ≡ b → X
      by true e =
          let n = (passed_iff tests (all_numbered s step)).0 (eqb-true (first_of tests) 0 e) in
          passed n (worked_ends (job_of (head_of s) (numbers_of (head_of s) s)) step (sheet_workable s (length step) n))
      by false e =
          let k = nonzero (first_of tests) (eqb-false (first_of tests) 0 e) in
          let t = (refused_iff tests (first_of tests) k).0 refl in
          r (first_of tests) (known_named (first_of tests) (first_of_lem known refl tests tests_listed)) (k, t) (sym (sheet_is_refused s step (first_of tests) k t))

  -- LAW: 1 to 7, in the order of the tests
  pub refused_early : (k : ℕ) → 0 < k → k < 8 → (given ≡ k) ↔ RefusedBy tests k
  refused_early k p q = (
    λ h.
        cases (λ n e z. absurd (let y = number e h in omega arith)) (λ n e z. absurd (let y = number (e ∙ z) h in omega arith))
        (λ j l r e. subst (λ (i : ℕ). RefusedBy tests i) (number e h) r.1),
    λ r. ap (λ (t : Finished Fit). reply_number t.reply) (sym (sheet_is_refused s step k p r)),
  )

  worked_number : NoneHold tests → given ≡ reply_number working.reply
  worked_number n = ap (λ (t : Finished Fit). reply_number t.reply) (sym (sheet_is_worked s step n))

  -- LAW: 8
  pub refused_eight : (given ≡ 8) ↔ (NoneHold tests × (reply_number working.reply ≡ 8))
  refused_eight = (
    λ h.
        cases (λ n e z. absurd (let y = number e h in omega arith)) (λ n e z. (n, ap (λ (t : Finished Fit). reply_number t.reply) z))
        (λ j l r e. absurd (let y : j ≡ 8 = number e h in omega (arith, l.1))),
    λ w. worked_number w.0 ∙ w.1,
  )

  -- LAW: whatever it is refused by, the step is as it came
  pub refused_unwritten : (k : ℕ) → 0 < k → given ≡ k → call ≡ finished (refused k) step
  refused_unwritten k p h =
      cases (λ n e z. absurd (let y = number e h in omega arith)) (λ n e z. e ∙ z ∙ ap (λ (i : ℕ). finished (refused i) step) (number (e ∙ z) h))
      (λ j l r e. e ∙ ap (λ (i : ℕ). finished (refused i) step) (number e h))

  -- LAW: answered
  pub answered_otherwise : (given ≡ 0) ↔ (NoneHold tests × (reply_number working.reply ≡ 0))
  answered_otherwise = (
    λ h.
        cases (λ n e z. (n, z)) (λ n e z. absurd (let y = number (e ∙ z) h in omega arith)) (λ j l r e. absurd (let y : j ≡ 0 = number e h in omega (arith, r.0))),
    λ w. worked_number w.0 ∙ w.1,
  )

  -- LAW: there is no other number, so that none is refused 4 or 5
  pub numbers_named : (given ≤ 3) ⊎ ((6 ≤ given) × (given ≤ 8))
  numbers_named = cases (λ n e z. as_named (worked_number n ∙ z) (inl (omega arith))) (λ n e z. as_named (ap (λ (t : Finished Fit). reply_number t.reply) (e ∙ z)) (inr (omega arith, omega arith)))
      (λ j l r e. as_named (ap (λ (t : Finished Fit). reply_number t.reply) e) l.0)
    where
      as_named : {k : ℕ} → given ≡ k → Named k → Named given
      as_named e h = subst Named (sym e) h
