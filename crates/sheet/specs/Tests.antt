-- 01, 'Refusal numbers, tested in this order': a sheet is one call, so its tests 1, 2, 3, 6 and 7 read all its fields before it is worked.
use Rattle.std.specs.Prelude.{ℕ, Bool, not, ◌||◌, List, [], ◌∷◌, ◌++◌, eqb, ltb, length, drop, Float}
use Rattle.leaves.specs.Tests.{outside, Test, all_finite, none_zero}
use Rattle.factor.specs.Tests.{not_above, below}
use Rattle.sheet.specs.Sheet.{Task, search, start, head_of, doubles, count_of, length_of, job_of}
use Rattle.sheet.specs.declared.head.Head.{Head}

-- 7: radius or step bound ≤ 0, lambda < 0, a scaling entry of zero
abbrev pub task_tests : Task → List Test
task_tests (search diag radius lambda) = (not_above radius, 7) ∷ (below lambda, 7) ∷ (not (none_zero diag), 7) ∷ []
task_tests (start x bound) = (not_above bound, 7) ∷ []

-- 1: version not 1, call not 1 or 2
abbrev pub unknown : Head → Bool
unknown h = not (eqb h.version 1) || not (eqb h.call 1 || eqb h.call 2)

-- the tests of the head and of the lengths; 3 also where the lent step has no place for each column
abbrev pub field_tests : Head → ℕ → ℕ → List Test
field_tests h len room =
    (unknown h, 1) ∷ (outside h.m h.n, 2) ∷ (not (eqb len (length_of h)) || ltb room h.n, 3) ∷ []

-- and of the numbers
abbrev pub number_tests : Head → List Float → List Test
number_tests h xs = (not (all_finite xs), 6) ∷ task_tests (job_of h xs).task

-- the numbers that stand after a sheet's head
abbrev pub numbers_of : Head → List ℕ → List Float
numbers_of h s = doubles (count_of h) (drop 3 s)

-- A sheet under 3 bytes has no head to read.
unfoldable pub sheet_tests : List ℕ → ℕ → List Test
sheet_tests s room =
    let h = head_of s in
    (ltb (length s) 3, 1) ∷ (field_tests h (length s) room ++ number_tests h (numbers_of h s))
