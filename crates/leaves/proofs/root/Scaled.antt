-- From n units to the S that the root is taken of: S is t, or twice t, before 52 zeros, and no digit is cut off. Assumes nothing.
use mathlib.Core.Path.{◌≡◌, refl, sym, ap, ◌∙◌, subst}
use mathlib.Core.Bool.{Bool, true, false, cond}
use Prim.Native.Nat.{ℕ, zero, suc, ◌+◌, ◌-◌, ◌*◌, ◌/◌, ◌%◌, ◌^◌, ◌≤◌, ◌<◌}
use native.Mathlib.Nat.{pow-suc, le_antisymm, lt_of_not-le, lt_irrefl, lt_of_lt_of_le, le_trans, le_of_eq, mul_comm, mul_assoc, lt_of_mul-lt-mul_right, le_of_mul-le-mul_right, mul-lt-mul_of_pos_right, mul-le-mul_right, mul-div_cancel}
use native.Mathlib.Omega.{arith}
use lib.Dec.{T, ltb, lt→ltb, eqb, eqb→eq}
use lib.Ieee.Fits.{eq→eqb}
use lib.Arith.{le→nltb}
use lib.Pow.{pow-add, pow_pos, pow_mono}
use lib.Ieee.{size}
use lib.Ieee.Digits.{size-lt, size-le}
use lib.Ieee.Bits.{is_true, is_false}
use Rattle.leaves.specs.Root.{half_exp, scaled, near_root}
use Rattle.leaves.specs.inner.Parts.{magnitude, packed, Normed}

-- ---- the magnitude of a pattern

pub magnitude_low : (b : ℕ) → b < 2 ^ 52 → magnitude b ≡ b
unfolding magnitude
magnitude_low b h = ap (λ (t : Bool). cond t b ((2 ^ 52 + b % 2 ^ 52) * 2 ^ (b / 2 ^ 52 - 1))) (is_true (ltb b (2 ^ 52)) (lt→ltb b (2 ^ 52) h))

pub magnitude_high : (b : ℕ) → 2 ^ 52 ≤ b → magnitude b ≡ (2 ^ 52 + b % 2 ^ 52) * 2 ^ (b / 2 ^ 52 - 1)
unfolding magnitude
magnitude_high b h = ap (λ (t : Bool). cond t b ((2 ^ 52 + b % 2 ^ 52) * 2 ^ (b / 2 ^ 52 - 1))) (is_false (ltb b (2 ^ 52)) (le→nltb b (2 ^ 52) h))

pub normed_low : (b t z : ℕ) → b < 2 ^ 52 → Normed b t z → Normed (magnitude b) t z
normed_low b t z h n = rw (magnitude_low b h) n

pub normed_high : (b : ℕ) → 2 ^ 52 ≤ b → b < 2047 * 2 ^ 52 → Normed (magnitude b) (b % 2 ^ 52 + 2 ^ 52) (b / 2 ^ 52 + 52)
normed_high b l h =
    let e : b / 2 ^ 52 + 52 ≡ b / 2 ^ 52 - 1 + 53 = omega arith in
    rw (magnitude_high b l) (record {
      same = ap (λ (x : ℕ). (b % 2 ^ 52 + 2 ^ 52) * x) (ap (λ (x : ℕ). 2 ^ x) e ∙ pow-add 2 (b / 2 ^ 52 - 1) 53) ∙ turned (b % 2 ^ 52) (2 ^ (b / 2 ^ 52 - 1));
      low = omega arith;
      high = omega arith;
      most = omega arith;
    })
  where
    turned : (t p : ℕ) → (t + 2 ^ 52) * (p * 2 ^ 53) ≡ (2 ^ 52 + t) * p * 2 ^ 53
    turned t p = omega arith

-- ---- its size

four_pow : (j : ℕ) → 4 ^ j ≡ 2 ^ (j + j)
four_pow zero = refl
four_pow (suc j) = pow-suc 4 j ∙ ap (λ (x : ℕ). x * 4) (four_pow j) ∙ sym (ap (λ (x : ℕ). 2 ^ x) e ∙ pow-add 2 (j + j) 2)
  where
    e : suc j + suc j ≡ j + j + 2
    e = omega arith

below-size : (a n : ℕ) → 2 ^ a ≤ n → a < size n
below-size a n h = lt_of_not-le (λ (g : size n ≤ a). lt_irrefl n (lt_of_lt_of_le (size-lt n) (le_trans (pow_mono g) h)))

module _ (n t z : ℕ) (r : Normed n t z) where
  under : n < 2 ^ z
  under = lt_of_mul-lt-mul_right (2 ^ 53) (subst (λ (x : ℕ). x < 2 ^ z * 2 ^ 53) r.same (subst (λ (x : ℕ). x < 2 ^ z * 2 ^ 53) (mul_comm (2 ^ z) t) (more (2 ^ z) (pow_pos z))))
    where
      more : (p : ℕ) → 0 < p → p * t < p * 2 ^ 53
      more p h = subst (λ (x : ℕ). x < p * 2 ^ 53) (mul_comm t p) (subst (λ (x : ℕ). t * p < x) (mul_comm (2 ^ 53) p) (mul-lt-mul_of_pos_right r.high h))

  -- 2 ^ z is at most twice n
  over : 2 ^ z ≤ 2 * n
  over = le_of_mul-le-mul_right {k = 2 ^ 52} (le_trans (at_least (2 ^ z)) (le_of_eq (r.same ∙ half))) (pow_pos 52)
    where
      at_least : (p : ℕ) → p * 2 ^ 52 ≤ t * p
      at_least p = le_trans (le_of_eq (mul_comm p (2 ^ 52))) (mul-le-mul_right p r.low)

      half : n * 2 ^ 53 ≡ 2 * n * 2 ^ 52
      half = omega arith

  pub size_is : size n ≡ z
  size_is = le_antisymm (size-le n z under) (go z over under)
    where
      go : (y : ℕ) → 2 ^ y ≤ 2 * n → n < 2 ^ y → y ≤ size n
      go zero g h = omega arith
      go (suc y) g h = below-size y n (omega (arith, pow-suc 2 y))

  pub half_is : half_exp n ≡ (z + 969) / 2
  unfolding half_exp
  half_is = ap (λ (x : ℕ). (x + 969) / 2) size_is

  -- the digits that the root is taken of are t's, or twice t's, before 52 zeros
  product : (v j i : ℕ) → z + 1021 ≡ i + (j + j) → v * 2 ^ 52 ≡ t * 2 ^ i → n * 2 ^ 1074 ≡ v * 2 ^ 52 * 4 ^ j
  product v j i e d =
      sym (mul_assoc n (2 ^ 53) (2 ^ 1021))
      ∙ ap (λ (x : ℕ). x * 2 ^ 1021) (sym r.same)
      ∙ mul_assoc t (2 ^ z) (2 ^ 1021)
      ∙ ap (λ (x : ℕ). t * x) (sym (pow-add 2 z 1021) ∙ ap (λ (x : ℕ). 2 ^ x) e ∙ pow-add 2 i (j + j) ∙ ap (λ (x : ℕ). 2 ^ i * x) (sym (four_pow j)))
      ∙ sym (mul_assoc t (2 ^ i) (4 ^ j))
      ∙ ap (λ (x : ℕ). x * 4 ^ j) (sym d)

  four_pos : (j : ℕ) → 0 < 4 ^ j
  four_pos j = subst (λ (x : ℕ). 0 < x) (sym (four_pow j)) (pow_pos (j + j))

  whole : (v j i : ℕ) → z + 1021 ≡ i + (j + j) → v * 2 ^ 52 ≡ t * 2 ^ i → n * 2 ^ 1074 / 4 ^ j ≡ v * 2 ^ 52
  whole v j i e d = ap (λ (x : ℕ). x / 4 ^ j) (product v j i e d) ∙ mul-div_cancel (v * 2 ^ 52) (four_pos j)

  pub scaled_even : (z + 969) % 2 ≡ 0 → scaled n ≡ t * 2 ^ 52
  unfolding scaled
  scaled_even e = ap (λ (x : ℕ). n * 2 ^ 1074 / 4 ^ x) half_is ∙ whole t ((z + 969) / 2) 52 (omega arith) refl

  pub scaled_odd : ((z + 969) % 2 ≡ 0 → ⊥) → scaled n ≡ t * 2 * 2 ^ 52
  unfolding scaled
  scaled_odd e = ap (λ (x : ℕ). n * 2 ^ 1074 / 4 ^ x) half_is ∙ whole (t * 2) ((z + 969) / 2) 53 (omega arith) (omega arith)

  -- the same by the code's shifts: `x << k` is x * 2 ^ k % 2 ^ 64, and no number here reaches 2 ^ 64
  pub shifted_even : (z + 969) / 2 * 2 % 2 ^ 64 ≡ z + 969 → scaled n ≡ t * 2 ^ 52
  shifted_even e = scaled_even (omega (arith, r.most))

  pub shifted_odd : ((z + 969) / 2 * 2 % 2 ^ 64 ≡ z + 969 → ⊥) → scaled n ≡ t * 2 % 2 ^ 64 * 2 ^ 52
  shifted_odd e =
      let d : t * 2 % 2 ^ 64 ≡ t * 2 = omega (arith, r.high) in
      rw d (scaled_odd (λ (p : (z + 969) % 2 ≡ 0). e (again p)))
    where
      again : (z + 969) % 2 ≡ 0 → (z + 969) / 2 * 2 % 2 ^ 64 ≡ z + 969
      again p = omega (arith, r.most)

  -- nothing is cut off
  pub scaled_whole : n * 2 ^ 1074 ≡ scaled n * 4 ^ half_exp n
  unfolding scaled
  scaled_whole = subst (λ (j : ℕ). n * 2 ^ 1074 ≡ n * 2 ^ 1074 / 4 ^ j * 4 ^ j) (sym half_is) (go (eqb ((z + 969) % 2) 0) (eqb→eq ((z + 969) % 2) 0) (λ (e : (z + 969) % 2 ≡ 0). eq→eqb e))
    where
      j : ℕ
      j = (z + 969) / 2

      exact : (a : ℕ) → n * 2 ^ 1074 ≡ a * 4 ^ j → n * 2 ^ 1074 ≡ n * 2 ^ 1074 / 4 ^ j * 4 ^ j
      exact a e = e ∙ ap (λ (x : ℕ). x * 4 ^ j) (sym (ap (λ (x : ℕ). x / 4 ^ j) e ∙ mul-div_cancel a (four_pos j)))

      go : (c : Bool) → (T c → (z + 969) % 2 ≡ 0) → ((z + 969) % 2 ≡ 0 → T c) → n * 2 ^ 1074 ≡ n * 2 ^ 1074 / 4 ^ j * 4 ^ j
      go true y k = exact (t * 2 ^ 52) (product t j 52 (even (y tt)) refl)
        where
          even : (z + 969) % 2 ≡ 0 → z + 1021 ≡ 52 + (j + j)
          even e = omega arith
      go false y k = exact (t * 2 * 2 ^ 52) (product (t * 2) j 53 (uneven k) (omega arith))
        where
          uneven : ((z + 969) % 2 ≡ 0 → ⊥) → z + 1021 ≡ 53 + (j + j)
          uneven e = omega arith

  packed_is : packed n ≡ half_exp n * 2 ^ 52 + near_root (scaled n)
  unfolding packed
  packed_is = refl

  pub packs : (v q : ℕ) → scaled n ≡ v * 2 ^ 52 → q ≡ near_root (v * 2 ^ 52) → (z + 969) / 2 * 2 ^ 52 % 2 ^ 64 + q ≡ packed n
  packs v q e h =
      let f : (z + 969) / 2 * 2 ^ 52 % 2 ^ 64 ≡ (z + 969) / 2 * 2 ^ 52 = omega (arith, r.most) in
      rw f (sym (packed_is ∙ ap (λ (x : ℕ). x * 2 ^ 52 + near_root (scaled n)) half_is ∙ ap (λ (x : ℕ). (z + 969) / 2 * 2 ^ 52 + x) (ap near_root e ∙ sym h)))
