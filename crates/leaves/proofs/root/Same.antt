-- Two values that binary64 holds, of one sign and one size, are the same value. Assumes nothing.
-- A value is held in one way only: its m is odd. So m * 2 ^ a = n * 2 ^ b gives m = n and a = b.
use mathlib.Core.Path.{◌≡◌, refl, sym, ap, ◌∙◌, subst}
use mathlib.Core.Bool.{Bool, ◌&&◌}
use Prim.Native.Nat.{ℕ, zero, suc, ◌+◌, ◌*◌, ◌%◌, ◌^◌, ◌<◌}
use native.Mathlib.Nat.{pow-suc, mul-pos, mul-one, lt_irrefl, eq_of_mul-eq-mul_right}
use native.Mathlib.Omega.{arith}
use lib.IntN.{ℤ, pos, negsuc}
use lib.Dec.{T, eqb, ltb, leb, eqb→eq}
use lib.Pow.{pow-add}
use lib.Ieee.{Float, nan, inf, fin, binary64, fits, up, down}
use lib.Ieee.Fits.{and_l, down_pos}
use lib.Ieee.Exact.{HasValue}

-- ---- the powers in an exponent

abbrev pub raised_by : ℤ → ℕ
raised_by (pos k) = k
raised_by (negsuc k) = 0

abbrev pub lowered_by : ℤ → ℕ
lowered_by (pos k) = 0
lowered_by (negsuc k) = suc k

up_is : (k : ℤ) → up k ≡ 2 ^ raised_by k
up_is (pos k) = refl
up_is (negsuc k) = refl

down_is : (k : ℤ) → down k ≡ 2 ^ lowered_by k
down_is (pos k) = refl
down_is (negsuc k) = refl

-- 2 ^ k over 2 ^ l is one power over another
pub across : (k l : ℤ) → up k * down l ≡ 2 ^ (raised_by k + lowered_by l)
across k l = ap (λ (x : ℕ). x * down l) (up_is k) ∙ ap (λ (x : ℕ). 2 ^ raised_by k * x) (down_is l) ∙ sym (pow-add 2 (raised_by k) (lowered_by l))

same_exponent : (k l : ℤ) → raised_by k + lowered_by l ≡ raised_by l + lowered_by k → k ≡ l
same_exponent (pos k) (pos l) h = let e : k ≡ l = omega arith in ap pos e
same_exponent (pos k) (negsuc l) h = let e : ⊥ = omega arith in absurd e
same_exponent (negsuc k) (pos l) h = let e : ⊥ = omega arith in absurd e
same_exponent (negsuc k) (negsuc l) h = let e : k ≡ l = omega arith in ap negsuc e

-- ---- an odd number of powers of two

no_even : (m t p : ℕ) → m % 2 ≡ 1 → m * 1 ≡ t * (p * 2) → ⊥
no_even m t p o h = even (t * p) (h ∙ turned t p)
  where
    turned : (t p : ℕ) → t * (p * 2) ≡ t * p * 2
    turned t p = omega arith

    even : (x : ℕ) → m * 1 ≡ x * 2 → ⊥
    even x e = omega arith

odd_powers : (m n a b : ℕ) → m % 2 ≡ 1 → n % 2 ≡ 1 → m * 2 ^ a ≡ n * 2 ^ b → (m ≡ n) × (a ≡ b)
odd_powers m n zero zero o p h = (sym (mul-one m) ∙ h ∙ mul-one n, refl)
odd_powers m n zero (suc b) o p h = absurd (no_even m n (2 ^ b) o (h ∙ ap (λ (x : ℕ). n * x) (pow-suc 2 b)))
odd_powers m n (suc a) zero o p h = absurd (no_even n m (2 ^ a) p (sym h ∙ ap (λ (x : ℕ). m * x) (pow-suc 2 a)))
odd_powers m n (suc a) (suc b) o p h =
    let r = odd_powers m n a b o p (halved (2 ^ a) (2 ^ b) (sym (ap (λ (x : ℕ). m * x) (pow-suc 2 a)) ∙ h ∙ ap (λ (x : ℕ). n * x) (pow-suc 2 b))) in
    (r.0, ap suc r.1)
  where
    halved : (x y : ℕ) → m * (x * 2) ≡ n * (y * 2) → m * x ≡ n * y
    halved x y e = omega arith

is_odd : (s : Bool) (m : ℕ) (e : ℤ) → T (fits binary64 (fin s (suc m) e)) → suc m % 2 ≡ 1
unfolding fits
is_odd s m e f =
    let A = eqb (suc m % 2) 1 in
    let B = ltb (suc m) (2 ^ 53) in
    let C = leb (down e) (2 ^ 1074) in
    let D = ltb (suc m * up e) (2 ^ 1024 * down e) in
    eqb→eq (suc m % 2) 1 (and_l A B (and_l (A && B) C (and_l (A && B && C) D f)))

-- ---- values

-- the same size as another fraction
pub as_fraction : (x : Float) (s : Bool) (a c b d : ℕ) → 0 < c → a * d ≡ b * c → HasValue x s a c → HasValue x s b d
as_fraction nan s a c b d p h v = v
as_fraction (inf t) s a c b d p h v = v
as_fraction (fin t m e) s a c b d p h v = (v.0, eq_of_mul-eq-mul_right c p (m * up e * d) (b * down e) (turned (m * up e) (down e) v.1))
  where
    turned : (x y : ℕ) → x * c ≡ a * y → x * d * c ≡ b * y * c
    turned x y k = swap x d c ∙ ap (λ (z : ℕ). z * d) k ∙ swap a y d ∙ ap (λ (z : ℕ). z * y) h ∙ swap b c y
      where
        swap : (x y z : ℕ) → x * y * z ≡ x * z * y
        swap x y z = omega arith

none : (e : ℤ) (a c : ℕ) → 0 < a → 0 * up e * c ≡ a * down e → ⊥
none e a c p h = lt_irrefl 0 (subst (λ (x : ℕ). 0 < x) (sym h ∙ nothing (up e)) (mul-pos p (down_pos e)))
  where
    nothing : (x : ℕ) → 0 * x * c ≡ 0
    nothing x = omega arith

pub same_value : (x y : Float) (s : Bool) (a c : ℕ) → 0 < a → 0 < c → T (fits binary64 x) → T (fits binary64 y) → HasValue x s a c → HasValue y s a c → x ≡ y
same_value nan y s a c p q f g v w = absurd v
same_value (inf t) y s a c p q f g v w = absurd v
same_value (fin t m e) nan s a c p q f g v w = absurd w
same_value (fin t m e) (inf u) s a c p q f g v w = absurd w
same_value (fin t zero e) (fin u n k) s a c p q f g v w = absurd (none e a c p v.1)
same_value (fin t (suc m) e) (fin u zero k) s a c p q f g v w = absurd (none k a c p w.1)
same_value (fin t (suc m) e) (fin u (suc n) k) s a c p q f g v w =
    let r = odd_powers (suc m) (suc n) (raised_by e + lowered_by k) (raised_by k + lowered_by e) (is_odd t m e f) (is_odd u n k g) crossed in
    λ i. fin ((v.0 ∙ sym w.0) i) (r.0 i) (same_exponent e k r.1 i)
  where
    turned : (x y d b : ℕ) → x * c ≡ a * d → y * c ≡ a * b → x * b * c ≡ y * d * c
    turned x y d b h l = swap x b c ∙ ap (λ (z : ℕ). z * b) h ∙ swap a d b ∙ ap (λ (z : ℕ). z * d) (sym l) ∙ swap y c d
      where
        swap : (x y z : ℕ) → x * y * z ≡ x * z * y
        swap x y z = omega arith

    group : (x y z : ℕ) → x * (y * z) ≡ x * y * z
    group x y z = omega arith

    crossed : suc m * 2 ^ (raised_by e + lowered_by k) ≡ suc n * 2 ^ (raised_by k + lowered_by e)
    crossed =
        ap (λ (x : ℕ). suc m * x) (sym (across e k))
        ∙ group (suc m) (up e) (down k)
        ∙ eq_of_mul-eq-mul_right c q (suc m * up e * down k) (suc n * up k * down e) (turned (suc m * up e) (suc n * up k) (down e) (down k) v.1 w.1)
        ∙ sym (group (suc n) (up k) (down e))
        ∙ ap (λ (x : ℕ). suc n * x) (across k e)
