-- Where LMPAR compares fp with zero and the search reads its sign bit, the two agree: past the test by delta·0.1 fp is no zero and no NaN. And a norm that
-- divides into a finite number is no NaN.
-- Assumes nothing.
use mathlib.Core.Path.{◌≡◌, refl, sym, ◌∙◌}
use mathlib.Core.Bool.{Bool, true, false, cond, not, ◌&&◌, ◌||◌, beq, true≢false, and-eq-true_iff}
use Prim.Native.Nat.{ℕ, zero, suc, ◌+◌, ◌-◌, ◌*◌, ◌^◌, ◌<◌}
use native.Mathlib.Nat.{mul-pos}
use native.Mathlib.Omega.{arith}
use lib.Dec.{ltb, eqb}
use lib.IntN.{ℤ, negsuc}
use lib.Ieee.{Float, Format, nan, inf, fin, binary64, up, down, low, prec, emax, below, level, odd, units, round, neg, sum, add, sub, mul, div, lt, le, eq, is_nan}
use lib.Ieee.Fits.{up_pos}
use borrow.Author.Tests.{lt-ltb}
use Rattle.leaves.specs.Number.{plus_zero, is_finite, is_negative, abs_of}
use Rattle.leaves.proofs.Signs.{other_sign, zero_equal, not_zero}
use Rattle.search.specs.Bounds.{band}
use Rattle.search.proofs.Constants.{zero_is}
use Rattle.search.proofs.Signs.{negative_le}
use Rattle.search.proofs.Sound.{tenth_is}

-- ---- a rounded number has the sign that was asked for, and is one
odd_sign : (d : ℕ) (s : Bool) (q k l : ℕ) → is_negative (odd d s q k l) ≡ s
unfolding odd is_negative
odd_sign d s zero k l = refl
odd_sign d s (suc q) k l = refl

odd_number : (d : ℕ) (s : Bool) (q k l : ℕ) → is_nan (odd d s q k l) ≡ false
unfolding odd is_nan
odd_number d s zero k l = refl
odd_number d s (suc q) k l = refl

units_sign : (f : Format) (s : Bool) (q k : ℕ) → is_negative (units f s q k) ≡ s
unfolding units is_negative
units_sign f s q k = by (ltb (q * 2 ^ k) (2 ^ (low f + suc (emax f))))
  where
    by : (z : Bool) → is_negative (cond z (odd (suc (prec f)) s q k (low f)) (inf s)) ≡ s
    by true = odd_sign (suc (prec f)) s q k (low f)
    by false = refl

units_number : (f : Format) (s : Bool) (q k : ℕ) → is_nan (units f s q k) ≡ false
unfolding units is_nan
units_number f s q k = by (ltb (q * 2 ^ k) (2 ^ (low f + suc (emax f))))
  where
    by : (z : Bool) → is_nan (cond z (odd (suc (prec f)) s q k (low f)) (inf s)) ≡ false
    by true = odd_number (suc (prec f)) s q k (low f)
    by false = refl

pub round_sign : (f : Format) (s : Bool) (a b : ℕ) → is_negative (round f s a b) ≡ s
unfolding round
round_sign f s a b = units_sign f s _ _

round_number : (f : Format) (s : Bool) (a b : ℕ) → is_nan (round f s a b) ≡ false
unfolding round
round_number f s a b = units_number f s _ _

-- ---- a difference of finite numbers is no NaN
sum_number : (f : Format) (s : Bool) (a : ℕ) (t : Bool) (b c : ℕ) → is_nan (sum f s a t b c) ≡ false
unfolding sum
sum_number f s a t b c = by (beq s t) (ltb a b)
  where
    by : (y z : Bool) → is_nan (cond y (round f s (a + b) c) (cond z (round f t (b - a) c) (round f (s && ltb b a) (a - b) c))) ≡ false
    by true z = round_number f s (a + b) c
    by false true = round_number f t (b - a) c
    by false false = round_number f (s && ltb b a) (a - b) c

pub difference_number : (f : Format) (x y : Float) → is_finite x ≡ true → is_finite y ≡ true → is_nan (sub f x y) ≡ false
unfolding is_finite sub add neg
difference_number f nan y h k = absurd (true≢false (sym h))
difference_number f (inf s) y h k = absurd (true≢false (sym h))
difference_number f (fin s m e) nan h k = absurd (true≢false (sym k))
difference_number f (fin s m e) (inf t) h k = absurd (true≢false (sym k))
difference_number f (fin s m e) (fin t n d) h k = sum_number f s _ (not t) _ _

-- ---- what divides into a finite number is no NaN
nan_divides : (x : Float) → is_finite (div binary64 x nan) ≡ false
unfolding div is_finite
nan_divides nan = refl
nan_divides (inf s) = refl
nan_divides (fin s m e) = refl

pub divisor_number : (x y : Float) → is_finite (div binary64 x y) ≡ true → is_nan y ≡ false
unfolding is_nan
divisor_number x nan h = absurd (true≢false (sym h ∙ nan_divides x))
divisor_number x (inf s) h = refl
divisor_number x (fin s m e) h = refl

-- ---- signs by comparing
pub below_zero : (x : Float) → eq x plus_zero ≡ false → lt x plus_zero ≡ is_negative x
below_zero x h = rw zero_is at (other_sign x (rw zero_is h))

pub above_zero : (x : Float) → is_nan x ≡ false → eq x plus_zero ≡ false → lt plus_zero x ≡ not (is_negative x)
unfolding is_nan eq lt is_negative
above_zero nan n h = absurd (true≢false n)
above_zero (inf s) n h = refl
above_zero (fin true m e) n h = refl
above_zero (fin false zero e) n h = absurd (true≢false (sym (zero_equal false e) ∙ h))
above_zero (fin false (suc m) e) n h =
    let p : 0 < suc m * up e = mul-pos (omega arith) (up_pos e) in
    lt-ltb (0 * 1 * down e) (suc m * up e * 1) (omega arith)

-- ---- a zero is within every bound from zero up
zero_le : (s : Bool) (a b : ℕ) → a ≡ 0 → (below s a false b || level s a false b) ≡ true
zero_le s a b h = rw h (by s b)
  where
    by : (s : Bool) (b : ℕ) → (below s 0 false b || level s 0 false b) ≡ true
    by true zero = refl
    by false zero = refl
    by true (suc b) = rw (lt-ltb 0 (0 + suc b) (omega arith))
    by false (suc b) = rw (lt-ltb 0 (suc b) (omega arith))

pub zero-within : (x y : Float) → eq x plus_zero ≡ true → is_negative y ≡ false → is_nan y ≡ false → le x y ≡ true
unfolding is_negative is_nan le lt eq
zero-within nan y h s n = absurd (true≢false (sym h))
zero-within (inf r) y h s n = absurd (true≢false (sym h))
zero-within (fin r m e) nan h s n = absurd (true≢false n)
zero-within (fin r m e) (inf true) h s n = absurd (true≢false s)
zero-within (fin r m e) (inf false) h s n = refl
zero-within (fin r m e) (fin true q d) h s n = absurd (true≢false s)
zero-within (fin r zero e) (fin false q d) h s n = zero_le r (0 * up e * down d) (q * up d * down e) (omega arith)
zero-within (fin r (suc m) e) (fin false q d) h s n = absurd (true≢false (sym h ∙ not_zero r m e))

-- ---- delta·0.1, for a delta that passes the tests
pub record Bounded (x : Float) : Type 0 where
  pub plain : is_negative x ≡ false
  pub number : is_nan x ≡ false

product-bounded : (m n : ℕ) (e d : ℤ) → Bounded (mul binary64 (fin false m e) (fin false n d))
unfolding mul
product-bounded m n e d =
    let a = m * up e * (n * up d) in
    record { plain = round_sign binary64 false a (down e * down d); number = round_number binary64 false a (down e * down d) }

pub band-bounded : (radius : Float) → is_finite radius ≡ true → le radius plus_zero ≡ false → Bounded (band radius)
unfolding is_finite band le lt eq
band-bounded nan f p = absurd (true≢false (sym f))
band-bounded (inf s) f p = absurd (true≢false (sym f))
band-bounded (fin true m e) f p = absurd (true≢false (sym (negative_le (m * up e * 1) (0 * down e)) ∙ p))
band-bounded (fin false m e) f p = rw tenth_is (product-bounded m 3602879701896397 e (negsuc 54))

abs-zero : (x : Float) → eq x plus_zero ≡ true → eq (abs_of x) plus_zero ≡ true
unfolding eq abs_of
abs-zero nan e = e
abs-zero (inf s) e = absurd (true≢false (sym e))
abs-zero (fin s m k) e = rw ((and-eq-true_iff (eqb (m * up k * 1) (0 * down k)) (beq s false || eqb (m * up k * 1) 0)).0 e).0

-- LAW: what is not within delta·0.1 is no zero, by its value and by its absolute value
module _ (x radius : Float) (b : Bounded (band radius)) where
  pub outside_not_zero : le x (band radius) ≡ false → eq x plus_zero ≡ false
  outside_not_zero h = by (eq x plus_zero) refl
    where
      by : (z : Bool) → eq x plus_zero ≡ z → z ≡ false
      by true e = absurd (true≢false (sym (zero-within x (band radius) e b.plain b.number) ∙ h))
      by false e = refl

  pub apart_not_zero : le (abs_of x) (band radius) ≡ false → eq x plus_zero ≡ false
  apart_not_zero h = by (eq x plus_zero) refl
    where
      by : (z : Bool) → eq x plus_zero ≡ z → z ≡ false
      by true e = absurd (true≢false (sym (zero-within (abs_of x) (band radius) (abs-zero x e) b.plain b.number) ∙ h))
      by false e = refl
