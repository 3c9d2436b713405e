-- What a working on a square needs. No public contract cites it.
use Rattle.std.specs.Prelude.{ℕ, ◌*◌, ◌≤◌, ◌≡◌, List, length, Float}

-- what a working needs of a square that is lent
pub record Square (n : ℕ) (s : List Float) : Type 0 where
  pub small : n ≤ 16
  pub whole : length s ≡ n * n
