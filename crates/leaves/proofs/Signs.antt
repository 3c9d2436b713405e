-- Laws of signs and comparisons with zero. Assumes nothing.
use mathlib.Core.Path.{◌≡◌, refl, sym, subst, ◌∙◌}
use mathlib.Core.Bool.{Bool, true, false, cond, ◌&&◌}
use Prim.Native.Nat.{ℕ, zero, suc, ◌+◌, ◌*◌, ◌<◌}
use native.Mathlib.Nat.{mul-pos}
use native.Mathlib.Omega.{arith}
use lib.Dec.{T, eqb}
use lib.IntN.{ℤ, pos, negsuc}
use lib.Pow.{pow_pos}
use lib.Ieee.{Float, nan, inf, fin, binary64, up, down, eq, ne, lt, div, neg, is_nan, of_bits}
use borrow.Author.Tests.{lt-ltb, le-ltb, eq-eqb, ne_eqb, eqb-true}
use Rattle.leaves.specs.Number.{plus_zero, is_negative, abs_of, max_of, min_of, is_finite}

up_pos : (e : ℤ) → 0 < up e
up_pos (pos k) = pow_pos k
up_pos (negsuc k) = omega arith

-- what `x == 0.0` and `x < 0.0` say of a number
pub is_nan_lem : (x : Float) → ne x x ≡ is_nan x
unfolding ne is_nan eq
is_nan_lem nan = refl
is_nan_lem (inf true) = refl
is_nan_lem (inf false) = refl
is_nan_lem (fin true m e) = rw (eq-eqb (m * up e * down e) (m * up e * down e) refl)
is_nan_lem (fin false m e) = rw (eq-eqb (m * up e * down e) (m * up e * down e) refl)

no : false ≡ true → ⊥
no h = subst T (sym h) tt

left_true : (a b : Bool) → (a && b) ≡ true → a ≡ true
left_true true b h = refl
left_true false b h = h

above : (m : ℕ) (e : ℤ) → 0 < suc m * up e * 1
above m e = let p : 0 < suc m * up e = mul-pos (omega arith) (up_pos e) in omega arith

-- what equals zero: a mantissa of zero, of either sign
pub zero_equal : (s : Bool) (e : ℤ) → eq (fin s 0 e) plus_zero ≡ true
unfolding eq
zero_equal true e = rw (eq-eqb (0 * up e * 1) (0 * down e) (omega arith), eq-eqb (0 * up e * 1) 0 (omega arith))
zero_equal false e = rw (eq-eqb (0 * up e * 1) (0 * down e) (omega arith))

pub not_zero : (s : Bool) (m : ℕ) (e : ℤ) → eq (fin s (suc m) e) plus_zero ≡ false
unfolding eq
not_zero s m e = rw (ne_eqb (suc m * up e * 1) (0 * down e) (λ (q : suc m * up e * 1 ≡ 0 * down e). omega (arith, above m e, q)))

-- of a zero the sign is that of 1 / x, an infinity
pub zero_sign : (x : Float) → eq x (of_bits binary64 0) ≡ true → lt (div binary64 (of_bits binary64 0x3ff0_0000_0000_0000) x) (of_bits binary64 0) ≡ is_negative x
unfolding of_bits eq lt div is_negative
zero_sign nan h = absurd (no h)
zero_sign (inf s) h = absurd (no h)
zero_sign (fin true zero e) h = refl
zero_sign (fin false zero e) h = refl
zero_sign (fin s (suc m) e) h =
    let q : suc m * up e * 1 ≡ 0 * down e = eqb-true (suc m * up e * 1) (0 * down e) (left_true _ _ h) in
    absurd (omega (arith, above m e))

pub other_sign : (x : Float) → eq x (of_bits binary64 0) ≡ false → lt x (of_bits binary64 0) ≡ is_negative x
unfolding of_bits eq lt is_negative
other_sign nan h = refl
other_sign (inf s) h = refl
other_sign (fin false m e) h = le-ltb (m * up e * 1) (0 * down e) (omega arith)
other_sign (fin true zero e) h =
    let p : eqb (0 * up e * 1) (0 * down e) ≡ true = eq-eqb (0 * up e * 1) (0 * down e) (omega arith) in
    let q : eqb (0 * up e * 1) 0 ≡ true = eq-eqb (0 * up e * 1) 0 (omega arith) in
    absurd (no (sym (rw (p, q) at h)))
other_sign (fin true (suc m) e) h = lt-ltb 0 (suc m * up e * 1 + 0 * down e) (omega (arith, above m e))

-- `abs` by the sign
pub abs_neg : (x : Float) → is_negative x ≡ true → neg x ≡ abs_of x
unfolding is_negative abs_of neg
abs_neg nan h = refl
abs_neg (inf true) h = refl
abs_neg (inf false) h = absurd (no h)
abs_neg (fin true m e) h = refl
abs_neg (fin false m e) h = absurd (no h)

pub abs_pos : (x : Float) → is_negative x ≡ false → x ≡ abs_of x
unfolding is_negative abs_of
abs_pos nan h = refl
abs_pos (inf true) h = absurd (no (sym h))
abs_pos (inf false) h = refl
abs_pos (fin true m e) h = absurd (no (sym h))
abs_pos (fin false m e) h = refl

-- a NaN on the right compares with nothing, so that `max` and `min` need not test for it
not_above_nan : (a b : Float) → is_nan b ≡ true → lt a b ≡ false
unfolding lt is_nan
not_above_nan nan nan h = refl
not_above_nan (inf true) nan h = refl
not_above_nan (inf false) nan h = refl
not_above_nan (fin s m e) nan h = refl
not_above_nan a (inf s) h = absurd (no h)
not_above_nan a (fin s m e) h = absurd (no h)

not_below_nan : (a b : Float) → is_nan b ≡ true → lt b a ≡ false
unfolding lt is_nan
not_below_nan a nan h = refl
not_below_nan a (inf s) h = absurd (no h)
not_below_nan a (fin s m e) h = absurd (no h)

-- the larger and the smaller of a and b by one test, for an a that is no NaN
by_test : (a b : Float) (t : Bool) → (is_nan b ≡ true → t ≡ false) → cond (is_nan b) a (cond t b a) ≡ cond t b a
by_test a b t h = go (is_nan b) refl
  where
    go : (n : Bool) → is_nan b ≡ n → cond n a (cond t b a) ≡ cond t b a
    go true e = rw (h e)
    go false e = refl

pub max_by : (a b : Float) (t : Bool) → is_nan a ≡ false → lt a b ≡ t → max_of a b ≡ cond t b a
unfolding max_of
max_by a b t n h = rw (n, max_of) (by_test a b (lt a b) (not_above_nan a b) ∙ rw h)

pub min_by : (a b : Float) (t : Bool) → is_nan a ≡ false → lt b a ≡ t → min_of a b ≡ cond t b a
unfolding min_of
min_by a b t n h = rw (n, min_of) (by_test a b (lt b a) (not_below_nan a b) ∙ rw h)

-- between the infinities
pub below_top : (x : Float) → lt (inf true) x ≡ true → lt x (inf false) ≡ is_finite x
unfolding lt is_finite
below_top nan e = refl
below_top (inf true) e = sym e
below_top (inf false) e = refl
below_top (fin s m k) e = refl

pub not_above_bottom : (x : Float) → lt (inf true) x ≡ false → false ≡ is_finite x
unfolding lt is_finite
not_above_bottom nan e = refl
not_above_bottom (inf s) e = refl
not_above_bottom (fin s m k) e = sym e
