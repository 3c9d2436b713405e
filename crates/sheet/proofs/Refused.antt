-- 01, 'Refusal numbers, tested in this order', of a sheet: refused k where k's condition holds and none earlier, worked where none holds; and a
-- sheet for each number, computed. That a working is refused by no number of these, and so the other direction, stands on top, in `demands`.
-- Assumes nothing.
use Prim.Native.Nat.{ℕ, ◌<◌}
use mathlib.Core.Path.{◌≡◌, refl}
use mathlib.Core.Bool.{true}
use mathlib.Core.List.{List, [], ◌∷◌, ◌++◌}
use mathlib.Core.Logic.{◌↔◌}
use native.Mathlib.Omega.{arith}
use borrow.Author.Tests.{ne_eqb}
use lib.ListN.{length, replicate}
use lib.Ieee.{Float}
use Rattle.leaves.specs.Reply.{refused}
use Rattle.leaves.specs.Tests.{first_of}
use Rattle.leaves.proofs.Refusals.{numbered, refused_iff, passed_iff, call-refused, call-worked}
use Rattle.sheet.specs.Sheet.{Task, search, start, head_of, job_of}
use Rattle.sheet.specs.Tests.{task_tests, numbers_of, sheet_tests}
use Rattle.sheet.specs.Fit.{Fit, Finished, finished, worked, sheet_call}
use Rattle.sheet.specs.Lines.{sheet_text}
use Rattle.sheet.specs.inner.Opened.{opened}
use Rattle.leaves.specs.Refusing.{NoneHold, RefusedBy}

task_numbered : (t : Task) → numbered (task_tests t) ≡ true
task_numbered (search diag radius lambda) = refl
task_numbered (start x bound) = refl

module _ (s : List ℕ) (step : List Float) where
  pub all_numbered : numbered (sheet_tests s (length step)) ≡ true
  unfolding sheet_tests
  all_numbered = task_numbered (job_of (head_of s) (numbers_of (head_of s) s)).task

  abbrev whole : Finished Fit
  whole = worked (job_of (head_of s) (numbers_of (head_of s) s)) step

  pub tested_iff : (k : ℕ) → 0 < k → (first_of (sheet_tests s (length step)) ≡ k) ↔ RefusedBy (sheet_tests s (length step)) k
  tested_iff k p = refused_iff (sheet_tests s (length step)) k p

  pub sheet_is_refused : (k : ℕ) → 0 < k → RefusedBy (sheet_tests s (length step)) k → finished (refused k) step ≡ sheet_call s step
  unfolding sheet_call
  sheet_is_refused k p r =
      call-refused whole (λ (j : ℕ). finished (refused j) step) (sheet_tests s (length step)) k ((tested_iff k p).1 r) (ne_eqb k 0 (λ e. omega arith))

  pub sheet_is_worked : NoneHold (sheet_tests s (length step)) → whole ≡ sheet_call s step
  unfolding sheet_call
  sheet_is_worked h = call-worked whole (λ (j : ℕ). finished (refused j) step) (sheet_tests s (length step)) ((passed_iff (sheet_tests s (length step)) all_numbered).1 h)

-- ---- a sheet for each number
abbrev zero8 : List ℕ
zero8 = replicate 8 0

abbrev one8 : List ℕ
one8 = 0x3F ∷ 0xF0 ∷ replicate 6 0

-- the largest double, +infinity, and 2^-1000
abbrev max8 : List ℕ
max8 = 0x7F ∷ 0xEF ∷ replicate 6 0xFF

abbrev inf8 : List ℕ
inf8 = 0x7F ∷ 0xF0 ∷ replicate 6 0

abbrev tiny8 : List ℕ
tiny8 = 0x01 ∷ 0x70 ∷ replicate 6 0

abbrev says : ℕ → List ℕ
says digit = 114 ∷ 101 ∷ 102 ∷ 117 ∷ 115 ∷ 101 ∷ 100 ∷ 32 ∷ digit ∷ 10 ∷ []

pub numbers :
    -- 1: empty; version 2; call 3
    (sheet_text [] ≡ says 49)
    × (sheet_text (0x21 ∷ 0x00 ∷ 0x41 ∷ []) ≡ says 49)
    × (sheet_text (0x13 ∷ 0x00 ∷ 0x41 ∷ []) ≡ says 49)
    -- 2: m 0, before the length is tested
    × (sheet_text (0x11 ∷ 0x00 ∷ 0x01 ∷ []) ≡ says 50)
    -- 3: the head alone
    × (sheet_text (0x11 ∷ 0x00 ∷ 0x41 ∷ []) ≡ says 51)
    -- 6: an infinite radius
    × (sheet_text (0x11 ∷ 0x00 ∷ 0x41 ∷ (one8 ++ one8 ++ one8 ++ inf8 ++ zero8)) ≡ says 54)
    -- 7 and not 8: the column's norm overflows, and the radius is zero
    × (sheet_text (0x11 ∷ 0x00 ∷ 0x81 ∷ (max8 ++ max8 ++ one8 ++ one8 ++ one8 ++ zero8 ++ zero8)) ≡ says 55)
    -- 8: the same with radius 1
    × (sheet_text (0x11 ∷ 0x00 ∷ 0x81 ∷ (max8 ++ max8 ++ one8 ++ one8 ++ one8 ++ one8 ++ zero8)) ≡ says 56)
    -- 8: call 2, the radius rounded to zero
    × (sheet_text (0x12 ∷ 0x00 ∷ 0x41 ∷ (one8 ++ one8 ++ tiny8 ++ tiny8)) ≡ says 56)
unfolding opened
numbers = (refl, refl, refl, refl, refl, refl, refl, refl, refl)
