-- Among numbers `lt` is an order, and the largest of two is above a limit where one of them is: of every two floats, zeros and infinities of
-- either sign included. Assumes nothing.
use mathlib.Core.Path.{◌≡◌, refl, sym, subst, ◌∙◌}
use mathlib.Core.Bool.{Bool, true, false, not, true≢false}
use mathlib.Core.Logic.{inl, inr}
use Prim.Native.Nat.{ℕ, zero, suc, ◌+◌, ◌*◌, ◌<◌, ◌≤◌}
use native.Mathlib.Nat.{mul-pos, mul-le-mul_right, mul-lt-mul_of_pos_right, lt_of_mul-lt-mul_right, eq-zero-or-pos}
use native.Mathlib.Omega.{arith}
use lib.Ieee.{Float, nan, inf, fin, up, down, lt, is_nan, below}
use lib.Ieee.Fits.{down_pos}
use borrow.Author.Tests.{ltb-true, ltb-false, lt-ltb, le-ltb}
use Rattle.leaves.specs.Number.{max_of, is_finite}
use Rattle.leaves.proofs.Signs.{max_by}

-- ---- ±A/a, ±B/b and ±C/c, compared by cross products
some : (k j : ℕ) → 0 < k * j → 0 < k
some zero j h = absurd (omega arith)
some (suc k) j h = omega arith

none : (k j : ℕ) → 0 < j → k * j ≤ 0 → k ≡ 0
none zero j p h = refl
none (suc k) j p h = let o : 0 < suc k * j = mul-pos (omega arith) p in absurd (omega arith)

more : (A a B b C c : ℕ) → 0 < c → A * b < B * a → B * c ≤ C * b → A * c < C * a
more A a B b C c r h k =
    let p : A * b * c < B * a * c = mul-lt-mul_of_pos_right h r in
    let q : B * c * a ≤ C * b * a = mul-le-mul_right a k in
    lt_of_mul-lt-mul_right b (omega arith)

less : (A a B b C c : ℕ) → 0 < c → B * a < A * b → C * b ≤ B * c → C * a < A * c
less A a B b C c r h k =
    let p : B * a * c < A * b * c = mul-lt-mul_of_pos_right h r in
    let q : C * b * a ≤ B * c * a = mul-le-mul_right a k in
    lt_of_mul-lt-mul_right b (omega arith)

-- −A/a is below B/b, which is at most C/c
apart : (A a B b C c : ℕ) → 0 < a → 0 < c → 0 < A * b + B * a → B * c ≤ C * b → 0 < A * c + C * a
apart A a B b C c p r h k = elim (eq-zero-or-pos A) [
  | inl z ↦
      let l : 0 < B * a = let y : A * b ≡ 0 = rw z (omega arith) in omega arith in
      let i : 0 < B * c = mul-pos (some B a l) r in
      let o : 0 < C * a = mul-pos (some C b (omega arith)) p in
      omega arith
  | inr o ↦ let i : 0 < A * c = mul-pos o r in omega arith
]

-- what is below one number is below each that is not below that one
cross : (s u t : Bool) (A a B b C c : ℕ) → 0 < a → 0 < c → below s (A * b) u (B * a) ≡ true → below t (C * b) u (B * c) ≡ false
    → below s (A * c) t (C * a) ≡ true
cross false false false A a B b C c p r h k =
    lt-ltb (A * c) (C * a) (more A a B b C c r (ltb-true (A * b) (B * a) h) (ltb-false (C * b) (B * c) k))
cross false false true A a B b C c p r h k =
    let l : A * b < B * a = ltb-true (A * b) (B * a) h in
    let o : 0 < B * c = mul-pos (some B a (omega arith)) r in
    let z : C * b + B * c ≤ 0 = ltb-false 0 (C * b + B * c) k in
    absurd (omega arith)
cross false true t A a B b C c p r h k = absurd (true≢false (sym h))
cross true false false A a B b C c p r h k =
    lt-ltb 0 (A * c + C * a) (apart A a B b C c p r (ltb-true 0 (A * b + B * a) h) (ltb-false (C * b) (B * c) k))
cross true false true A a B b C c p r h k =
    let l : 0 < A * b + B * a = ltb-true 0 (A * b + B * a) h in
    let z : C * b + B * c ≤ 0 = ltb-false 0 (C * b + B * c) k in
    let o : B * a ≡ 0 = rw (none B c r (omega arith)) (omega arith) in
    lt-ltb (C * a) (A * c) (less A a B b C c r (omega arith) (omega arith))
cross true true false A a B b C c p r h k =
    let l : B * a < A * b = ltb-true (B * a) (A * b) h in
    let o : 0 < A * c = mul-pos (some A b (omega arith)) r in
    lt-ltb 0 (A * c + C * a) (omega arith)
cross true true true A a B b C c p r h k =
    lt-ltb (C * a) (A * c) (less A a B b C c r (ltb-true (B * a) (A * b) h) (ltb-false (B * c) (C * b) k))

not_both : {X : Type 0} (b : Bool) → b ≡ true → b ≡ false → X
not_both b h k = absurd (true≢false (sym h ∙ k))

pub lt_between : (l t x : Float) → is_nan t ≡ false → lt l x ≡ true → lt t x ≡ false → lt l t ≡ true
unfolding lt is_nan
lt_between nan t x n h k = absurd (true≢false (sym h))
lt_between (inf s) nan x n h k = absurd (true≢false n)
lt_between (inf true) (inf false) x n h k = refl
lt_between (inf true) (inf true) nan n h k = absurd (true≢false (sym h))
lt_between (inf true) (inf true) (inf u) n h k = not_both (not u) h k
lt_between (inf true) (inf true) (fin u j d) n h k = absurd (true≢false k)
lt_between (inf true) (fin t m e) x n h k = refl
lt_between (inf false) (inf t) nan n h k = absurd (true≢false (sym h))
lt_between (inf false) (inf t) (inf u) n h k = absurd (true≢false (sym h))
lt_between (inf false) (inf t) (fin u j d) n h k = absurd (true≢false (sym h))
lt_between (inf false) (fin t m e) nan n h k = absurd (true≢false (sym h))
lt_between (inf false) (fin t m e) (inf u) n h k = absurd (true≢false (sym h))
lt_between (inf false) (fin t m e) (fin u j d) n h k = absurd (true≢false (sym h))
lt_between (fin s m e) nan x n h k = absurd (true≢false n)
lt_between (fin s m e) (inf false) x n h k = refl
lt_between (fin s m e) (inf true) nan n h k = absurd (true≢false (sym h))
lt_between (fin s m e) (inf true) (inf u) n h k = not_both (not u) h k
lt_between (fin s m e) (inf true) (fin u j d) n h k = absurd (true≢false k)
lt_between (fin s m e) (fin t i f) nan n h k = absurd (true≢false (sym h))
lt_between (fin s m e) (fin t i f) (inf u) n h k = not_both (not u) h k
lt_between (fin s m e) (fin t i f) (fin u j d) n h k =
    cross s u t (m * up e) (down e) (j * up d) (down d) (i * up f) (down f) (down_pos e) (down_pos f) h k

-- ---- and none is below the other way round
turned : (s t : Bool) (a b : ℕ) → below s a t b ≡ true → below t b s a ≡ false
turned false false a b h = let l : a < b = ltb-true a b h in le-ltb b a (omega arith)
turned false true a b h = absurd (true≢false (sym h))
turned true false a b h = refl
turned true true a b h = let l : b < a = ltb-true b a h in le-ltb a b (omega arith)

lt_turned : (x y : Float) → lt x y ≡ true → lt y x ≡ false
unfolding lt
lt_turned nan y h = absurd (true≢false (sym h))
lt_turned (inf s) nan h = refl
lt_turned (inf true) (inf true) h = refl
lt_turned (inf true) (inf false) h = refl
lt_turned (inf false) (inf t) h = absurd (true≢false (sym h))
lt_turned (inf true) (fin t n d) h = refl
lt_turned (inf false) (fin t n d) h = absurd (true≢false (sym h))
lt_turned (fin s m e) nan h = refl
lt_turned (fin s m e) (inf true) h = absurd (true≢false (sym h))
lt_turned (fin s m e) (inf false) h = refl
lt_turned (fin s m e) (fin t n d) h = turned s t (m * up e * down d) (n * up d * down e) h

lt_trans : (l t x : Float) → is_nan x ≡ false → lt l t ≡ true → lt t x ≡ true → lt l x ≡ true
lt_trans l t x n h k = lt_between l x t n h (lt_turned t x k)

-- ---- the larger of two numbers
pub finite_not_nan : (x : Float) → is_finite x ≡ true → is_nan x ≡ false
unfolding is_finite is_nan
finite_not_nan nan h = sym h
finite_not_nan (inf s) h = refl
finite_not_nan (fin s m e) h = refl

module _ (a b : Float) (n : is_nan a ≡ false) where
  -- it is one of them
  max_one : (P : Float → Type 0) → (lt a b ≡ true → P b) → (lt a b ≡ false → P a) → P (max_of a b)
  max_one P p q = by (lt a b) refl
    where
      by : (t : Bool) → lt a b ≡ t → P (max_of a b)
      by true e = subst P (sym (max_by a b true n e)) (p e)
      by false e = subst P (sym (max_by a b false n e)) (q e)

  pub max_number : is_nan b ≡ false → is_nan (max_of a b) ≡ false
  max_number h = max_one (λ x. is_nan x ≡ false) (λ _. h) (λ _. n)

  pub max-finite : is_finite a ≡ true → is_finite b ≡ true → is_finite (max_of a b) ≡ true
  max-finite h k = max_one (λ x. is_finite x ≡ true) (λ _. k) (λ _. h)

  module _ (limit : Float) where
    pub max-above_first : is_nan b ≡ false → lt limit a ≡ true → lt limit (max_of a b) ≡ true
    max-above_first m h = max_one (λ x. lt limit x ≡ true) (λ e. lt_trans limit a b m h e) (λ _. h)

    pub max-above-second : lt limit b ≡ true → lt limit (max_of a b) ≡ true
    max-above-second h = max_one (λ x. lt limit x ≡ true) (λ _. h) (λ e. lt_between limit a b n h e)

    pub max-not_above : lt limit a ≡ false → lt limit b ≡ false → lt limit (max_of a b) ≡ false
    max-not_above h k = max_one (λ x. lt limit x ≡ false) (λ _. k) (λ _. h)

-- infinity is the largest
pub max_infinite : (a : Float) → is_nan a ≡ false → max_of a (inf false) ≡ inf false
unfolding max_of lt is_nan
max_infinite nan n = absurd (true≢false n)
max_infinite (inf true) n = refl
max_infinite (inf false) n = refl
max_infinite (fin s m e) n = refl

pub infinite_max : (b : Float) → is_nan b ≡ false → max_of (inf false) b ≡ inf false
unfolding max_of lt is_nan
infinite_max nan n = absurd (true≢false n)
infinite_max (inf t) n = refl
infinite_max (fin t m e) n = refl
