-- Which way the numbers of a search point: lower bounds and lambdas that are finite are not below zero, and a trial's lambda is above it.
-- Assumes nothing.
use mathlib.Core.Path.{◌≡◌, refl, sym, ◌∙◌, subst}
use mathlib.Core.Bool.{Bool, true, false, true≢false, ◌||◌}
use mathlib.Core.Logic.{◌⊎◌, inl, inr}
use Prim.Native.Nat.{ℕ, zero, suc, ◌+◌, ◌*◌, ◌^◌, ◌<◌}
use native.Mathlib.Nat.{mul-pos}
use native.Mathlib.Omega.{arith}
use lib.Dec.{eqb, ltb}
use lib.IntN.{ℤ}
use lib.Ieee.{Float, nan, inf, fin, binary64, up, down, below, level, unlike, odd, units, round, mul, div, lt, le, eq, is_nan}
use lib.Ieee.Fits.{up_pos, down_pos, round_is}
use lib.Ieee.Scale.{round_same}
use borrow.Author.Tests.{lt-ltb, le-ltb, ne_eqb, ltb-true}
use Rattle.leaves.proofs.Signs.{max_by, zero_equal}
use Rattle.leaves.proofs.Normed.{arms}
use Rattle.leaves.specs.Number.{plus_zero, dwarf, max_of, min_of, is_finite, is_negative}

-- a finite number that has the sign b, or is a zero
abbrev pub Toward : Bool → Float → Type 0
Toward b nan = Unit {0}
Toward b (inf s) = Unit {0}
Toward b (fin s m e) = (s ≡ b) ⊎ (m ≡ 0)

-- not below zero, if it is finite
abbrev pub Clear : Float → Type 0
Clear x = Toward false x

-- ---- rounding keeps the sign, and zero

-- a number that has the sign b, an infinity too
abbrev pub Signed : Bool → Float → Type 0
Signed b nan = ⊥
Signed b (inf s) = s ≡ b
Signed b (fin s m e) = s ≡ b

signed_toward : (b : Bool) (x : Float) → Signed b x → Toward b x
signed_toward b nan h = tt
signed_toward b (inf s) h = tt
signed_toward b (fin s m e) h = inl h

odd_signed : (d : ℕ) (s : Bool) (q k l : ℕ) → Signed s (odd d s q k l)
unfolding odd
odd_signed d s zero k l = refl
odd_signed d s (suc q) k l = refl

units_signed : (s : Bool) (q k : ℕ) → Signed s (units binary64 s q k)
unfolding units
units_signed s q k = arms (Signed s) (ltb (q * 2 ^ k) (2 ^ 2098)) {x = odd 54 s q k 1074} {y = inf s} (odd_signed 54 s q k 1074) refl

pub round_signed : (s : Bool) (a b : ℕ) → Signed s (round binary64 s a b)
round_signed s a b = rw (round_is binary64 s a b) (units_signed s _ _)

round_toward : (s : Bool) (a b : ℕ) → Toward s (round binary64 s a b)
round_toward s a b = signed_toward s (round binary64 s a b) (round_signed s a b)

zero_over_one : (s b : Bool) → Toward b (round binary64 s 0 1)
unfolding round
zero_over_one true b = inr refl
zero_over_one false b = inr refl

zero_toward : (s b : Bool) (a c : ℕ) → 0 < c → a ≡ 0 → Toward b (round binary64 s a c)
zero_toward s b a c h e = rw (round_same binary64 s a c 0 1 h (omega arith) (omega arith)) (zero_over_one s b)

-- ---- quotients
fraction : (s t b : Bool) (m n : ℕ) (e d : ℤ) → 0 < n → (s ≡ b) ⊎ (m ≡ 0) → Toward (unlike b t) (round binary64 (unlike s t) (m * up e * down d) (n * up d * down e))
fraction s t b m n e d p (inl q) = rw q (round_toward (unlike b t) (m * up e * down d) (n * up d * down e))
fraction s t b m n e d p (inr q) =
    zero_toward (unlike s t) (unlike b t) (m * up e * down d) (n * up d * down e) (mul-pos (mul-pos p (up_pos d)) (down_pos e)) (rw q (omega arith))

-- over a number of either sign
pub over : (b : Bool) (x y : Float) → Toward b x → Toward (unlike b (is_negative y)) (div binary64 x y)
unfolding div is_negative
over b nan y h = tt
over b (inf s) nan h = tt
over b (inf s) (inf t) h = tt
over b (inf s) (fin t n d) h = tt
over b (fin s m e) nan h = tt
over b (fin s m e) (inf t) h = inr refl
over b (fin s m e) (fin t zero d) h = arms (Toward (unlike b t)) (eqb m 0) tt tt
over b (fin s m e) (fin t (suc n) d) h = rw (ne_eqb (suc n) 0 (λ (z : suc n ≡ 0). omega arith)) (fraction s t b m (suc n) e d (omega arith) h)

unlike_twice : (b t : Bool) → unlike (unlike b t) t ≡ b
unlike_twice true true = refl
unlike_twice true false = refl
unlike_twice false true = refl
unlike_twice false false = refl

-- over the same number twice
pub over_twice : (b : Bool) (x y : Float) → Toward b x → Toward b (div binary64 (div binary64 x y) y)
over_twice b x y h = subst (λ (c : Bool). Toward c (div binary64 (div binary64 x y) y)) (unlike_twice b (is_negative y)) (over (unlike b (is_negative y)) (div binary64 x y) y (over b x y h))

pub over_clear : (x y : Float) → is_negative y ≡ false → Clear x → Clear (div binary64 x y)
over_clear x y e h = subst (λ (c : Bool). Toward (unlike false c) (div binary64 x y)) e (over false x y h)

-- over a number that is not below zero: a zero of either sign gives no finite number
pub over_norm : (x y : Float) → Clear x → Clear y → Clear (div binary64 x y)
unfolding div is_negative
over_norm nan y h k = tt
over_norm (inf s) nan h k = tt
over_norm (inf s) (inf t) h k = tt
over_norm (inf s) (fin t n d) h k = tt
over_norm (fin s m e) nan h k = tt
over_norm (fin s m e) (inf t) h k = inr refl
over_norm (fin s m e) (fin t n d) h (inl k) = over_clear (fin s m e) (fin t n d) k h
over_norm (fin s m e) (fin t n d) h (inr k) = rw k (arms Clear (eqb m 0) tt tt)

-- ---- tests
above_zero : (m : ℕ) (e : ℤ) (k : ℕ) → 0 < k → 0 < suc m * up e * k
above_zero m e k h = mul-pos (mul-pos (omega arith) (up_pos e)) h

-- what is not below zero
pub not_below : (x : Float) → lt x plus_zero ≡ false → Clear x
unfolding lt
not_below nan h = tt
not_below (inf s) h = tt
not_below (fin false m e) h = inl refl
not_below (fin true zero e) h = inr refl
not_below (fin true (suc m) e) h =
    let p : 0 < suc m * up e * 1 = above_zero m e 1 (omega arith) in
    absurd (true≢false (sym (lt-ltb 0 (suc m * up e * 1 + 0 * down e) (omega arith)) ∙ h))

-- what is not at most a number whose sign is clear
pub not_at_most : (x b : Float) → Signed false b → le x b ≡ false → Clear x
unfolding le lt
not_at_most nan b p h = tt
not_at_most (inf s) b p h = tt
not_at_most (fin false m e) b p h = inl refl
not_at_most (fin true zero e) b p h = inr refl
not_at_most (fin true (suc m) e) nan p h = absurd p
not_at_most (fin true (suc m) e) (inf s) p h = absurd (true≢false (rw p at h))
not_at_most (fin true (suc m) e) (fin s n d) p h =
    let q : 0 < suc m * up e * down d = above_zero m e (down d) (down_pos d) in
    let l : ltb 0 (suc m * up e * down d + n * up d * down e) ≡ true = lt-ltb 0 (suc m * up e * down d + n * up d * down e) (omega arith) in
    absurd (true≢false (rw (p, l) at h))

-- and then its own sign is clear
pub negative_le : (a b : ℕ) → (below true a false b || level true a false b) ≡ true
negative_le zero zero = refl
negative_le zero (suc b) = rw (lt-ltb 0 (0 + suc b) (omega arith))
negative_le (suc a) b = rw (lt-ltb 0 (suc a + b) (omega arith))

pub above_sign : (x b : Float) → Signed false b → le x b ≡ false → is_negative x ≡ false
unfolding le lt eq is_negative
above_sign nan b p h = refl
above_sign (inf false) b p h = refl
above_sign (fin false m e) b p h = refl
above_sign (inf true) nan p h = absurd p
above_sign (inf true) (inf s) p h = absurd (true≢false (rw p at h))
above_sign (inf true) (fin s n d) p h = absurd (true≢false h)
above_sign (fin true m e) nan p h = absurd p
above_sign (fin true m e) (inf s) p h = absurd (true≢false (rw p at h))
above_sign (fin true m e) (fin s n d) p h = absurd (true≢false (sym (negative_le (m * up e * down d) (n * up d * down e)) ∙ (rw p at h)))

-- what is above a number that is not below zero
pub above-clear : (a y : Float) → is_finite a ≡ true → Clear a → lt a y ≡ true → Clear y
unfolding lt is_finite
above-clear nan y f h l = absurd (true≢false (sym f))
above-clear (inf s) y f h l = absurd (true≢false (sym f))
above-clear (fin s m e) nan f h l = tt
above-clear (fin s m e) (inf t) f h l = tt
above-clear (fin s m e) (fin false n d) f h l = inl refl
above-clear (fin false m e) (fin true n d) f h l = absurd (true≢false (sym l))
above-clear (fin true m e) (fin true n d) f (inl h) l = absurd (true≢false h)
above-clear (fin true m e) (fin true n d) f (inr h) l =
    let q = ltb-true (n * up d * down e) (m * up e * down d) l in
    let z : m * up e * down d ≡ 0 = rw h (omega arith) in
    absurd (omega arith)

-- ---- the larger and the smaller of two
pub max-clear : (a b : Float) → Clear a → Clear b → Clear (max_of a b)
unfolding max_of
max-clear a b p q = arms Clear (is_nan a) {x = b} q (arms Clear (is_nan b) {x = a} p (arms Clear (lt a b) {x = b} {y = a} q p))

pub min-clear : (a b : Float) → Clear a → Clear b → Clear (min_of a b)
unfolding min_of
min-clear a b p q = arms Clear (is_nan a) {x = b} q (arms Clear (is_nan b) {x = a} p (arms Clear (lt b a) {x = b} {y = a} q p))

pub min_sign : (a b : Float) → is_negative a ≡ false → is_negative b ≡ false → is_negative (min_of a b) ≡ false
unfolding min_of
min_sign a b p q = arms P (is_nan a) {x = b} q (arms P (is_nan b) {x = a} p (arms P (lt b a) {x = b} {y = a} q p))
  where
    P : Float → Type 0
    P x = is_negative x ≡ false

pub max-finite : (a b : Float) → is_finite a ≡ true → is_finite b ≡ true → is_finite (max_of a b) ≡ true
unfolding max_of
max-finite a b p q = arms P (is_nan a) {x = b} q (arms P (is_nan b) {x = a} p (arms P (lt a b) {x = b} {y = a} q p))
  where
    P : Float → Type 0
    P x = is_finite x ≡ true

pub finite_not_nan : (x : Float) → is_finite x ≡ true → is_nan x ≡ false
unfolding is_finite is_nan
finite_not_nan nan h = sym h
finite_not_nan (inf s) h = refl
finite_not_nan (fin s m e) h = refl

-- not below a bound that is not below zero
pub max-above : (a y : Float) → is_finite a ≡ true → Clear a → Clear (max_of a y)
max-above a y f p = by (lt a y) refl
  where
    by : (t : Bool) → lt a y ≡ t → Clear (max_of a y)
    by true e = rw (max_by a y true (finite_not_nan a f) e) (above-clear a y f p e)
    by false e = rw (max_by a y false (finite_not_nan a f) e) p

-- ---- above zero
nothing_above : (a u k : ℕ) → ltb a (0 * u * k) ≡ false
nothing_above a u k = le-ltb a (0 * u * k) (omega arith)

over_dwarf : (y : Float) → lt dwarf y ≡ true → lt plus_zero y ≡ true
unfolding lt dwarf
over_dwarf nan h = h
over_dwarf (inf s) h = h
over_dwarf (fin true n d) h = absurd (true≢false (sym h))
over_dwarf (fin false zero d) h =
    absurd (true≢false (sym h ∙ nothing_above (1 * 1 * down d) (up d) (2 ^ 1022)))
over_dwarf (fin false (suc n) d) h = lt-ltb (0 * 1 * down d) (suc n * up d * 1) (omega (arith, above_zero n d 1 (omega arith)))

dwarf-above : lt plus_zero dwarf ≡ true
unfolding lt dwarf
dwarf-above = refl

dwarf_number : is_nan dwarf ≡ false
unfolding is_nan dwarf
dwarf_number = refl

pub max-dwarf : (y : Float) → lt plus_zero (max_of dwarf y) ≡ true
max-dwarf y = by (lt dwarf y) refl
  where
    by : (t : Bool) → lt dwarf y ≡ t → lt plus_zero (max_of dwarf y) ≡ true
    by true e = rw (max_by dwarf y true dwarf_number e) (over_dwarf y e)
    by false e = rw (max_by dwarf y false dwarf_number e) dwarf-above

-- finite, not below zero and no zero
pub clear_above : (x : Float) → is_finite x ≡ true → Clear x → eq x plus_zero ≡ false → lt plus_zero x ≡ true
unfolding is_finite eq lt
clear_above nan f h e = absurd (true≢false (sym f))
clear_above (inf s) f h e = absurd (true≢false (sym f))
clear_above (fin false (suc m) d) f h e = lt-ltb (0 * 1 * down d) (suc m * up d * 1) (omega (arith, above_zero m d 1 (omega arith)))
clear_above (fin false zero d) f h e = absurd (true≢false (sym (zero_equal false d) ∙ e))
clear_above (fin true zero d) f h e = absurd (true≢false (sym (zero_equal true d) ∙ e))
clear_above (fin true (suc m) d) f (inl h) e = absurd (true≢false h)
clear_above (fin true (suc m) d) f (inr h) e = absurd (omega arith)

-- a finite number whose sign is clear, times another
pub times_signed : (x : Float) (n : ℕ) (d : ℤ) → is_finite x ≡ true → is_negative x ≡ false → Signed false (mul binary64 x (fin false n d))
unfolding is_finite is_negative mul
times_signed nan n d f h = absurd (true≢false (sym f))
times_signed (inf s) n d f h = absurd (true≢false (sym f))
times_signed (fin s m e) n d f h = rw h (round_signed false (m * up e * (n * up d)) (down e * down d))

pub above_not_below : (x : Float) → lt plus_zero x ≡ true → lt x plus_zero ≡ false
unfolding lt
above_not_below nan h = refl
above_not_below (inf true) h = absurd (true≢false (sym h))
above_not_below (inf false) h = refl
above_not_below (fin true m e) h = absurd (true≢false (sym h))
above_not_below (fin false m e) h = le-ltb (m * up e * 1) (0 * down e) (omega arith)
