-- 01, 'Leaf rules', the square root, in the rule's own words: what `root_s` is proved to be, and alone to be (`proofs/root/Meets.antt`).
use Rattle.std.specs.Prelude.{◌≡◌, Bool, true, false, ℕ, suc, ◌+◌, ◌-◌, ◌*◌, ◌^◌, ◌≤◌, ◌<◌, ℤ, T, Float}
use Rattle.std.specs.Float.{nan, inf, fin, binary64}
use Rattle.std.specs.Float.Ieee.{fits, lt, up, down}
use Rattle.std.specs.Float.Ieee.Exact.{HasValue}
use Rattle.leaves.specs.Number.{plus_zero}

-- "Else write x = S·4^k, S whole, 2^104 ≤ S < 2^106; the answer is q·2^k, with 4S strictly between (2q−1)² and (2q+1)²."
-- k may be below zero: 2 ^ k is up k / down k. `HasValue x s a c` says that x is finite with the sign s, and a / c in size. The subtraction
-- stops at zero, which matters at q = 0 alone, and 4S < 1 shuts that out.
pub record Rounded (x r : Float) : Type 0 where
  pub S : ℕ
  pub k : ℤ
  pub q : ℕ
  pub argument : HasValue x false (S * (up k * up k)) (down k * down k)
  pub low : 2 ^ 104 ≤ S
  pub high : S < 2 ^ 106
  pub answer : HasValue r false (q * up k) (down k)
  pub above : (2 * q - 1) * (2 * q - 1) < 4 * S
  pub below : 4 * S < (2 * q + 1) * (2 * q + 1)
  pub held : T (fits binary64 r)

-- The rule whole: "±0 gives itself, below zero or NaN gives NaN, +infinity itself", and else the above. −infinity is below zero.
pub record IsRoot (x r : Float) : Type 0 where
  pub of_zero : (s : Bool) (e : ℤ) → x ≡ fin s 0 e → r ≡ x
  pub of_below : lt x plus_zero ≡ true → r ≡ nan
  pub of_nan : x ≡ nan → r ≡ nan
  pub of_infinity : x ≡ inf false → r ≡ x
  pub of_else : (m : ℕ) (e : ℤ) → x ≡ fin false (suc m) e → Rounded x r
