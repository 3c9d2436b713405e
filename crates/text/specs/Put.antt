-- Numbers as text, and text put into a buffer.
use Rattle.std.specs.Prelude.{ℕ, zero, suc, ◌+◌, ◌/◌, ◌%◌, true, false, cond, List, [], ◌∷◌, ◌++◌, leb, ltb, length}
use Rattle.std.proofs.lemmas.List.Edits.{sets}
use Rattle.text.specs.Digit.{glyph}

-- the last k digits of n in base b, the first of them first
unfoldable pub digits : ℕ → ℕ → ℕ → List ℕ
digits b zero n = []
digits b (suc k) n = digits b k (n / b) ++ (glyph (n % b) ∷ [])

-- how many digits n has in base b, k of them passed already; of f more at most
unfoldable pub places_from : ℕ → ℕ → ℕ → ℕ → ℕ
places_from zero b k n = k
places_from (suc f) b k n = elim (ltb n b) [ true ↦ k | false ↦ places_from f b (k + 1) (n / b) ]

-- of a number below 2 ^ 64, which has at most 20 digits in base 10 or above
unfoldable pub places_of : ℕ → ℕ → ℕ
places_of b n = places_from 19 b 1 n

unfoldable pub hex_of : ℕ → List ℕ
hex_of n = digits 16 (places_of 16 n) n

unfoldable pub decimal_of : ℕ → List ℕ
decimal_of n = digits 10 (places_of 10 n) n

-- the bytes stored from place `at` on and the place after them; where they do not fit, nothing and `at`
unfoldable pub stored : List ℕ → ℕ → List ℕ → ℕ × List ℕ
stored bytes at l = cond (leb (at + length bytes) (length l)) (at + length bytes, sets l at bytes) (at, l)
