-- The loop of `feed::line`, a turn at a time. Assumes nothing.
use Rattle.std.proofs.Common.{◌≡◌, ℕ, ◌+◌, ◌%◌, ◌^◌, ◌<◌, ◌≤◌, true, false, ◌≢◌, List, length, get_or, drop, set, add-one, drop_of_length-le, drop-cons, eq-eqb, ne_eqb}
use Rattle.lines.specs.declared.feed.Fed.{Fed}
use Rattle.lines.specs.Feed.{fed_from}

module _ (chunk : List ℕ) (i k : ℕ) (room : List ℕ) (r : Fed × List ℕ) where
  pub fed_stop : i < length chunk → get_or chunk i 0 ≡ 10 → fed_from i k (drop i chunk) room ≡ r → (record { next = i + 1; fill = k; ended = true }, room) ≡ r
  unfolding fed_from
  fed_stop h t p = rw add-one (rw (eq-eqb _ _ t, fed_from) at (rw (drop-cons chunk i 0 h) at p))

  pub fed_go : (k₁ : ℕ) (room₁ : List ℕ) → i < length chunk → get_or chunk i 0 ≢ 10 → k₁ ≡ (k + 1) % 2 ^ 64 → room₁ ≡ set room k (get_or chunk i 0) → fed_from i k (drop i chunk) room ≡ r
      → fed_from (i + 1) k₁ (drop (i + 1) chunk) room₁ ≡ r
  unfolding fed_from
  fed_go k₁ room₁ h t d e p = rw (d, e, add-one) (rw (ne_eqb _ _ t, fed_from) at (rw (drop-cons chunk i 0 h) at p))

  pub fed_end : length chunk ≤ i → fed_from i k (drop i chunk) room ≡ r → (record { next = i; fill = k; ended = false }, room) ≡ r
  unfolding fed_from
  fed_end h p = rw (drop_of_length-le chunk {i = i} h) at p
