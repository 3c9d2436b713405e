-- What a working needs of an order list. No public contract cites it.
use Rattle.std.specs.Prelude.{ℕ, ◌<◌, ◌≤◌, List, length, get_or}

-- of its first n places each names a column below n
pub record Names (n : ℕ) (order : List ℕ) : Type 0 where
  pub long : n ≤ length order
  pub below : (k : ℕ) → k < n → get_or order k 0 < n
