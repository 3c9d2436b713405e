-- 01, 'Refusal numbers, tested in this order': a call's tests as a list of conditions with their numbers; sizes; finite and zero tests. A
-- call's definition lists the tests whose subject it has, and `refused_iff` in `proofs/Refusals.antt` says what that gives, for any list.
use Rattle.std.specs.Prelude.{ℕ, Bool, true, cond, not, ◌&&◌, ◌||◌, List, [], ◌∷◌, ltb, eqb, Float}
use Rattle.std.specs.Float.Ieee.{eq}
use Rattle.leaves.specs.Number.{is_finite, plus_zero}

-- a condition, and the number that it is refused by
abbrev pub Test : Type 0
Test = Bool × ℕ

-- the number of the first condition that holds, 0 for none
unfoldable pub first_of : List Test → ℕ
first_of [] = 0
first_of (t ∷ ts) = cond t.0 t.1 (first_of ts)

-- 2. Sizes: m rows 1 to 128, n columns 1 to 16.
unfoldable pub outside : ℕ → ℕ → Bool
outside m n = eqb m 0 || ltb 128 m || eqb n 0 || ltb 16 n

-- 6: NaN or infinite
unfoldable pub all_finite : List Float → Bool
all_finite [] = true
all_finite (x ∷ xs) = is_finite x && all_finite xs

-- 7: a scaling entry of zero
unfoldable pub none_zero : List Float → Bool
none_zero [] = true
none_zero (x ∷ xs) = not (eq x plus_zero) && none_zero xs
