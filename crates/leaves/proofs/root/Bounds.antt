-- The digits and the exponent of a root fit their fields: nothing overflows or underflows on the way back to a float. Assumes nothing.
use mathlib.Core.Path.{◌≡◌, sym, ap, ◌∙◌, subst}
use mathlib.Core.Bool.{Bool, true, false, not}
use Prim.Native.Nat.{ℕ, zero, suc, ◌+◌, ◌-◌, ◌*◌, ◌/◌, ◌%◌, ◌^◌, ◌≤◌, ◌<◌}
use native.Mathlib.Nat.{mul_assoc, mul-le-mul_right, mul-lt-mul_of_pos_right, le_trans, le_of_eq, lt_of_lt_of_le}
use native.Mathlib.Omega.{arith}
use lib.Dec.{T, ltb, eqb, ltb→lt, nltb→le, eqb→eq}
use lib.Ieee.Fits.{eq→eqb}
use lib.Pow.{pow-add, pow_pos}
use lib.Ieee.{size}
use lib.Ieee.Digits.{size-lt, size-le, size_reaches}
use Rattle.leaves.specs.Root.{half_exp, scaled, near_root}
use Rattle.leaves.specs.inner.Parts.{magnitude, Normed}
use Rattle.leaves.proofs.root.Scaled.{normed_low, normed_high, half_is, scaled_even, scaled_odd}
use Rattle.leaves.proofs.root.Whole.{near_bounds}

-- a number of at most 52 digits, moved up to 53
raised : (b : ℕ) → 0 < b → b < 2 ^ 52 → Normed b (b * 2 ^ (53 - size b)) (size b)
raised b p h = go (size b) (size-le b 52 h) (size-lt b) (size_reaches b)
  where
    go : (z : ℕ) → z ≤ 52 → b < 2 ^ z → ((j : ℕ) → j < z → 2 ^ j ≤ b) → Normed b (b * 2 ^ (53 - z)) z
    go zero l u r = absurd (no u)
      where
        no : b < 1 → ⊥
        no q = omega arith
    go (suc z) l u r =
        let e : 53 - suc z + suc z ≡ 53 = omega arith in
        let d : z + (53 - suc z) ≡ 52 = omega arith in
        record {
          same = mul_assoc b (2 ^ (53 - suc z)) (2 ^ suc z) ∙ ap (λ (x : ℕ). b * x) (sym (pow-add 2 (53 - suc z) (suc z)) ∙ ap (λ (x : ℕ). 2 ^ x) e);
          low = le_trans (le_of_eq (ap (λ (x : ℕ). 2 ^ x) (sym d) ∙ pow-add 2 z (53 - suc z))) (mul-le-mul_right (2 ^ (53 - suc z)) (r z (omega arith)));
          high = lt_of_lt_of_le (mul-lt-mul_of_pos_right u (pow_pos (53 - suc z))) (le_of_eq (sym (pow-add 2 (suc z) (53 - suc z)) ∙ ap (λ (x : ℕ). 2 ^ x) (other l)));
          most = omega arith;
        }
      where
        other : suc z ≤ 52 → suc z + (53 - suc z) ≡ 53
        other l = omega arith

pub normed_of : (b : ℕ) → 0 < b → b < 2047 * 2 ^ 52 → (t : ℕ) × (z : ℕ) × Normed (magnitude b) t z
normed_of b p h = go (ltb b (2 ^ 52)) (ltb→lt b (2 ^ 52)) (nltb→le b (2 ^ 52))
  where
    go : (c : Bool) → (T c → b < 2 ^ 52) → (T (not c) → 2 ^ 52 ≤ b) → (t : ℕ) × (z : ℕ) × Normed (magnitude b) t z
    go true y n = (b * 2 ^ (53 - size b), size b, normed_low b (b * 2 ^ (53 - size b)) (size b) (y tt) (raised b p (y tt)))
    go false y n = (b % 2 ^ 52 + 2 ^ 52, b / 2 ^ 52 + 52, normed_high b (n tt) h)

-- the digits that a root is taken of are those of a v, before 52 zeros
pub digits_of : (n t z : ℕ) → Normed n t z → (v : ℕ) × (scaled n ≡ v * 2 ^ 52) × (2 ^ 52 ≤ v) × (v + 1 < 2 ^ 54)
digits_of n t z r = go (eqb ((z + 969) % 2) 0) (eqb→eq ((z + 969) % 2) 0) (λ (e : (z + 969) % 2 ≡ 0). eq→eqb e)
  where
    go : (c : Bool) → (T c → (z + 969) % 2 ≡ 0) → ((z + 969) % 2 ≡ 0 → T c) → (v : ℕ) × (scaled n ≡ v * 2 ^ 52) × (2 ^ 52 ≤ v) × (v + 1 < 2 ^ 54)
    go true y k = (t, scaled_even n t z r (y tt), r.low, omega (arith, r.high))
    go false y k = (t * 2, scaled_odd n t z r k, omega (arith, r.low), omega (arith, r.high))

pub half_lt : (n t z : ℕ) → Normed n t z → half_exp n < 2046
half_lt n t z r = subst (λ (x : ℕ). x < 2046) (sym (half_is n t z r)) (less r.most)
  where
    less : z < 2099 → (z + 969) / 2 < 2046
    less h = omega arith

-- the field and the digits of the root's pattern are within their bounds
pub record Room (n : ℕ) : Type 0 where
  pub exponent : half_exp n < 2046
  pub low : 2 ^ 52 ≤ near_root (scaled n)
  pub high : near_root (scaled n) < 2 ^ 53

pub room : (b : ℕ) → 0 < b → b < 2047 * 2 ^ 52 → Room (magnitude b)
room b p h =
    let g = normed_of b p h in
    let n = magnitude b in
    let d = digits_of n g.0 g.1 g.2 in
    let k = near_bounds d.0 d.2 d.3 in
    record {
      exponent = half_lt n g.0 g.1 g.2;
      low = rw d.1 k.0;
      high = rw d.1 k.1;
    }
