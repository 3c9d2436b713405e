-- What the inner functions need of a lent problem whose tests are passed. No public contract cites it.
use Rattle.std.specs.Prelude.{ℕ, ◌≤◌, ◌<◌, ◌≡◌, List, length, Float}
use Rattle.frozen.specs.Frozen.{marks_of, free_count}
use Rattle.factor.specs.State.{store_need}

-- some columns of n are free, and the store is long enough
pub record Reducible (n marks free : ℕ) (store : List Float) : Type 0 where
  pub counted : free ≡ free_count (marks_of n marks)
  pub some : 0 < free
  pub fits : free ≤ n
  pub few : n ≤ 16
  pub long : store_need n ≤ length store
