-- What two calls that put text come to, and the loop of `put::row`. Assumes nothing.
use Rattle.std.proofs.Common.{◌≡◌, ℕ, ◌+◌, ◌<◌, ◌≤◌, List, length, get_or, drop, add-one, drop_of_length-le, drop-cons}
use lib.Ieee.{Float, nan}
use Rattle.text.specs.Put.{stored}
use Rattle.lines.specs.Put.{joined, double_at, row_from}

pub two_puts : (a b : List ℕ) (at n m : ℕ) (l l₁ l₂ : List ℕ) → (n, l₁) ≡ stored a at l → (m, l₂) ≡ stored b n l₁ → (m, l₂) ≡ joined a b at l
unfolding joined
two_puts a b at n m l l₁ l₂ p q = rw (← p) q

module _ (v : List Float) (i at : ℕ) (l : List ℕ) (r : ℕ × List ℕ) where
  pub put_go : (n : ℕ) (l₁ : List ℕ) → i < length v → (n, l₁) ≡ double_at (get_or v i nan) at l → row_from (drop i v) at l ≡ r → row_from (drop (i + 1) v) n l₁ ≡ r
  unfolding row_from
  put_go n l₁ h e p = rw add-one (rw (← e, row_from) at (rw (drop-cons v i nan h) at p))

  pub put-end : length v ≤ i → row_from (drop i v) at l ≡ r → (at, l) ≡ r
  unfolding row_from
  put-end h p = rw (drop_of_length-le v {i = i} h) at p
