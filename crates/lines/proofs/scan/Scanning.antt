-- Words, and the loop of `scan::doubles`, a turn at a time. Assumes nothing.
use Rattle.std.specs.Prelude.{Some, None, Result, Ok, Err}
use Rattle.std.proofs.Common.{◌≡◌, ℕ, suc, ◌+◌, ◌-◌, ◌<◌, ◌≤◌, List, length, set, add-one, arith, le-ltb, lt-ltb}
use lib.Ieee.{Float, binary64, of_bits}
use Rattle.lines.specs.declared.scan.Number.{Number}
use Rattle.lines.specs.declared.scan.Span.{Span}
use Rattle.lines.specs.declared.scan.Unread.{Unread}
use Rattle.lines.specs.declared.scan.Unread.TheVariants.{Bad, Large}
use Rattle.lines.specs.Scan.{word_at, rest_from, doubles_at}

module _ (s : List ℕ) (at len : ℕ) (room₀ : List Float) where
  pub too_many : length room₀ < len → (Err Large, room₀) ≡ doubles_at s at len room₀
  unfolding doubles_at
  too_many h = rw (lt-ltb _ _ h, doubles_at)

  pub rest_start : len ≤ length room₀ → rest_from s len (len - 0) 0 at room₀ ≡ doubles_at s at len room₀
  unfolding doubles_at
  rest_start h = let u : len - 0 ≡ len = omega arith in rw (u, le-ltb _ _ h, doubles_at)

module _ (s : List ℕ) (len i next : ℕ) (room : List Float) (r : Result Span Unread × List Float) where
  pub rest_stop : i < len → word_at s next ≡ None → rest_from s len (len - i) i next room ≡ r → (Err Bad, room) ≡ r
  unfolding rest_from
  rest_stop h e p = let u : len - i ≡ suc (len - suc i) = omega arith in rw (e, rest_from) at (rw u at p)

  pub rest_go : (w : Number) (x : Float) → i < len → word_at s next ≡ Some w → x ≡ of_bits binary64 w.value → rest_from s len (len - i) i next room ≡ r
      → rest_from s len (len - (i + 1)) (i + 1) w.next (set room i x) ≡ r
  unfolding rest_from
  rest_go w x h e d p = let u : len - i ≡ suc (len - suc i) = omega arith in rw (add-one, d) (rw (e, rest_from) at (rw u at p))

  pub rest_end : len ≤ i → rest_from s len (len - i) i next room ≡ r → (Ok (record { len = len; next = next }), room) ≡ r
  unfolding rest_from
  rest_end h p = let u : len - i ≡ 0 = omega arith in rw u at p
