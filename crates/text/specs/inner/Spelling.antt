-- How the digits are stored. No public contract cites it.
use Rattle.std.specs.Prelude.{ℕ, zero, suc, ◌+◌, ◌/◌, ◌%◌, List, set}
use Rattle.text.specs.Digit.{glyph}

-- the digits stored from the last to the first
unfoldable pub put_from : ℕ → ℕ → ℕ → ℕ → List ℕ → List ℕ
put_from b zero n at l = l
put_from b (suc k) n at l = put_from b k (n / b) at (set l (at + k) (glyph (n % b)))
