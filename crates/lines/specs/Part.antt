-- How much of a slice is taken.
use Rattle.std.specs.Prelude.{ℕ, cond, nat_lt}

-- n, where the slice's length is above it; else that length
unfoldable pub at_most : ℕ → ℕ → ℕ
at_most len n = cond (nat_lt n len) n len
