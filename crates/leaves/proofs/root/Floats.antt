-- What the tests of `sqrt` say of x, each a case of the rule: NaN, a zero, below zero, and what is left. Assumes nothing.
use mathlib.Core.Path.{◌≡◌, refl, sym, ap, ◌∙◌, subst}
use mathlib.Core.Bool.{Bool, true, false, not, ◌&&◌, ◌||◌, beq, true≢false, false≢true}
use Prim.Native.Nat.{ℕ, zero, suc, ◌+◌, ◌*◌, ◌^◌, ◌<◌}
use native.Mathlib.Nat.{zero-mul, zero-lt-suc, mul-pos}
use native.Mathlib.Omega.{arith}
use lib.IntN.{ℤ, pos}
use lib.Dec.{T, eqb, lt→ltb, ltb→lt, eqb→eq}
use lib.Ieee.{Float, nan, inf, fin, binary64, up, down, level, ne, eq, lt, sub, is_nan, of_bits}
use lib.Ieee.Fits.{up_pos}
use lib.Ieee.Compare.{differs_from_itself}
use lib.Ieee.Bits.{is_true}
use Rattle.leaves.specs.Root.{root_s}

to_t : {b : Bool} → b ≡ true → T b
to_t e = subst T (sym e) tt

-- the literal `0.0`, as MIR has it
abbrev pub nought : Float
nought = of_bits binary64 0

nought_is : nought ≡ fin false 0 (pos 0)
unfolding of_bits
nought_is = refl

-- ---- x != x

pub nan_root : (x : Float) → ne x x ≡ true → x ≡ root_s x
unfolding root_s
nan_root x t = let e : x ≡ nan = differs_from_itself x (to_t t) in rw e

pub no_nan : (x : Float) → ne x x ≡ false → T (not (is_nan x))
unfolding ne is_nan
no_nan nan t = absurd (true≢false t)
no_nan (inf s) t = tt
no_nan (fin s m e) t = tt

-- ---- x == 0.0 and x < 0.0

pos_size : (m : ℕ) (e : ℤ) → 0 < suc m * up e * 1
pos_size m e = mul-pos (mul-pos (zero-lt-suc m) (up_pos e)) (zero-lt-suc 0)

zero-size : (p : ℕ) → 0 * p * 1 ≡ 0
zero-size p = omega arith

level_says : (s : Bool) (a b : ℕ) → level s a false b ≡ true → a ≡ b
level_says s a b t = eqb→eq a b (first (eqb a b) (beq s false || eqb a 0) (to_t t))
  where
    first : (p q : Bool) → T (p && q) → T p
    first true q u = tt
    first false q u = u

zero_root_at : (x : Float) → eq x (fin false 0 (pos 0)) ≡ true → x ≡ root_s x
unfolding eq root_s
zero_root_at nan t = refl
zero_root_at (inf s) t = absurd (false≢true t)
zero_root_at (fin s zero e) t = refl
zero_root_at (fin s (suc m) e) t = absurd (no (level_says s (suc m * up e * 1) (0 * down e) t))
  where
    no : suc m * up e * 1 ≡ 0 * down e → ⊥
    no q = omega (arith, pos_size m e)

pub zero_root : (x : Float) → eq x nought ≡ true → x ≡ root_s x
zero_root x t = zero_root_at x (ap (λ (y : Float). eq x y) (sym nought_is) ∙ t)

pub below_zero : (x : Float) → lt x (fin false 0 (pos 0)) ≡ true → nan ≡ root_s x
unfolding lt root_s
below_zero nan t = refl
below_zero (inf true) t = refl
below_zero (inf false) t = absurd (false≢true t)
below_zero (fin true zero e) t = absurd (no (ltb→lt 0 (0 * up e * 1 + 0 * down e) (to_t t)))
  where
    no : 0 < 0 * up e * 1 + 0 * down e → ⊥
    no q = omega arith
below_zero (fin false zero e) t = absurd (no (ltb→lt (0 * up e * 1) (0 * down e) (to_t t)))
  where
    no : 0 * up e * 1 < 0 * down e → ⊥
    no q = omega arith
below_zero (fin true (suc m) e) t = refl
below_zero (fin false (suc m) e) t = absurd (no (ltb→lt (suc m * up e * 1) (0 * down e) (to_t t)))
  where
    no : suc m * up e * 1 < 0 * down e → ⊥
    no q = omega arith

pub negative_below : (m : ℕ) (e : ℤ) → lt (fin true (suc m) e) (fin false 0 (pos 0)) ≡ true
unfolding lt
negative_below m e = is_true _ (lt→ltb 0 (suc m * up e * 1 + 0 * down e) (more (pos_size m e)))
  where
    more : 0 < suc m * up e * 1 → 0 < suc m * up e * 1 + 0 * down e
    more q = omega arith

-- +infinity by its bits, as the code has it
abbrev top : Float
top = of_bits binary64 (2047 * 2 ^ 52)

none_is : sub binary64 top top ≡ nan
unfolding sub of_bits
none_is = refl

pub below_root : (x : Float) → lt x nought ≡ true → sub binary64 top top ≡ root_s x
below_root x t = none_is ∙ below_zero x (ap (λ (y : Float). lt x y) (sym nought_is) ∙ t)

-- ---- what is left: +infinity, and the finite values above zero

abbrev pub Above : Float → Type 0
Above nan = ⊥
Above (inf true) = ⊥
Above (inf false) = Unit
Above (fin true m e) = ⊥
Above (fin false m e) = 0 < m

zero_level : (s : Bool) (a b : ℕ) → a ≡ 0 → b ≡ 0 → T (level s a false b)
zero_level true a b p q = rw (p, q) tt
zero_level false a b p q = rw (p, q) tt

above_at : (x : Float) → ne x x ≡ false → eq x (fin false 0 (pos 0)) ≡ false → lt x (fin false 0 (pos 0)) ≡ false → Above x
unfolding ne eq lt
above_at nan n z l = absurd (true≢false n)
above_at (inf true) n z l = absurd (true≢false l)
above_at (inf false) n z l = tt
above_at (fin true zero e) n z l = absurd (true≢false (sym (is_true _ (zero_level true (0 * up e * 1) (0 * down e) (zero-size (up e)) (zero-mul (down e)))) ∙ z))
above_at (fin true (suc m) e) n z l = absurd (true≢false (sym (negative_below m e) ∙ l))
above_at (fin false zero e) n z l = absurd (true≢false (sym (is_true _ (zero_level false (0 * up e * 1) (0 * down e) (zero-size (up e)) (zero-mul (down e)))) ∙ z))
above_at (fin false (suc m) e) n z l = zero-lt-suc m

pub is_above : (x : Float) → ne x x ≡ false → eq x nought ≡ false → lt x nought ≡ false → Above x
is_above x n z l = above_at x n (ap (λ (y : Float). eq x y) (sym nought_is) ∙ z) (ap (λ (y : Float). lt x y) (sym nought_is) ∙ l)
