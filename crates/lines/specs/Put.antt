-- Words into a buffer.
use Rattle.std.specs.Prelude.{ℕ, List, [], ◌∷◌, to_bits, Float}
use Rattle.std.specs.Float.{binary64}
use Rattle.text.specs.Put.{digits, stored}

-- one text behind another
unfoldable pub joined : List ℕ → List ℕ → ℕ → List ℕ → ℕ × List ℕ
joined a b at l = stored b (stored a at l).0 (stored a at l).1

abbrev pub space : List ℕ
space = 32 ∷ []

-- `refused `
abbrev pub refusing : List ℕ
refusing = 114 ∷ 101 ∷ 102 ∷ 117 ∷ 115 ∷ 101 ∷ 100 ∷ 32 ∷ []

-- a double's 16 digits
unfoldable pub double_at : Float → ℕ → List ℕ → ℕ × List ℕ
double_at x = joined space (digits 16 16 (to_bits binary64 x))

-- the doubles of a list, one behind another
unfoldable pub row_from : List Float → ℕ → List ℕ → ℕ × List ℕ
row_from [] at l = (at, l)
row_from (x ∷ xs) at l = row_from xs (double_at x at l).0 (double_at x at l).1
