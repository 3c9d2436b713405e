-- The square root that `sqrt` gives is the one that document 01 and IEEE 754-2019 ask for, and no other float is. Assumes nothing.
-- The contract of `sqrt` is an equation with `root_s`, which evaluates. What is believed is `IsRoot`, which does not: it has document 01's
-- sentence clause by clause, in whole numbers. `sqrt_meets` says that `root_s` meets it, `sqrt_unique` that nothing else does.
use mathlib.Core.Path.{◌≡◌, refl, sym, ap, ◌∙◌, subst}
use mathlib.Core.Bool.{Bool, true, false, ◌&&◌}
use Prim.Native.Nat.{ℕ, zero, suc, ◌+◌, ◌-◌, ◌*◌, ◌/◌, ◌%◌, ◌^◌, ◌≤◌, ◌<◌}
use native.Mathlib.Nat.{mul_assoc, mul-pos, le_antisymm, lt_of_not-le, le_of_suc-le-suc, le_of_lt, eq_of_mul-eq-mul_right, mul-le-mul_left, lt_irrefl, lt_of_lt_of_le, zero-lt-suc, pow-suc, pow-le-pow_right, mul-one, one-mul, div-one, mul-div_cancel}
use native.Mathlib.Omega.{arith}
use lib.IntN.{ℤ, pos, negsuc}
use lib.Dec.{T, eqb, ltb, leb, leb→le}
use lib.Pow.{pow-add, pow_pos, pow-lt, pow_mono, shl_lt}
use lib.Ieee.{Float, nan, inf, fin, binary64, fits, lt, to_bits, odd, up, down, minus}
use lib.Ieee.Digits.{back, minus_val}
use lib.Ieee.Fits.{and_l, and_r, up_pos, down_pos, odd-fits}
use lib.Ieee.Exact.{HasValue, odd_sign}
use Rattle.leaves.specs.Number.{plus_zero}
use Rattle.leaves.specs.Root.{root_s, near_root, scaled, half_exp, units_of}
use Rattle.leaves.specs.inner.Parts.{magnitude}
use Rattle.leaves.proofs.root.Scaled.{scaled_whole}
use Rattle.leaves.proofs.root.Bounds.{normed_of, digits_of, Room, room}
use Rattle.leaves.proofs.root.Whole.{Closest, near_closest, closest_unique}
use Rattle.leaves.proofs.root.Floats.{below_zero, negative_below}
use Rattle.leaves.proofs.root.Patterns.{root_s_is, finite_reads, some_pattern, Read}
use Rattle.leaves.proofs.root.Same.{raised_by, lowered_by, across, as_fraction, same_value}
use Rattle.leaves.specs.IsRoot.{Rounded, IsRoot}

-- a value that the format holds is a whole number of units
exact_down : (m k : ℕ) → 2 ^ suc k ≤ 2 ^ 1074 → m * 1 * 2 ^ 1074 ≡ m * 1 * 2 ^ 1074 / 2 ^ suc k * 2 ^ suc k
exact_down m k h =
    let l : suc k ≤ 1074 = le_of_suc-le-suc (lt_of_not-le (λ (g : suc 1074 ≤ suc k). lt_irrefl (2 ^ 1074) (lt_of_lt_of_le (pow-lt g) h))) in
    let e : m * 1 * 2 ^ 1074 ≡ m * 1 * 2 ^ (1074 - suc k) * 2 ^ suc k =
    ap (λ (x : ℕ). m * 1 * 2 ^ x) (sym (back 1074 (suc k) l)) ∙ ap (λ (x : ℕ). m * 1 * x) (pow-add 2 (1074 - suc k) (suc k)) ∙ sym (mul_assoc (m * 1) (2 ^ (1074 - suc k)) (2 ^ suc k)) in
    e ∙ ap (λ (x : ℕ). x * 2 ^ suc k) (sym (ap (λ (x : ℕ). x / 2 ^ suc k) e ∙ mul-div_cancel (m * 1 * 2 ^ (1074 - suc k)) (pow_pos (suc k))))

exact : (m : ℕ) (e : ℤ) → down e ≤ 2 ^ 1074 → m * up e * 2 ^ 1074 ≡ units_of m e * down e
exact m (pos k) h = sym (mul-one (m * 2 ^ k * 2 ^ 1074 / 1) ∙ div-one (m * 2 ^ k * 2 ^ 1074))
exact m (negsuc k) h = exact_down m k h

not_too_low : (m : ℕ) (e : ℤ) → T (fits binary64 (fin false (suc m) e)) → down e ≤ 2 ^ 1074
unfolding fits
not_too_low m e f =
    let A = eqb (suc m % 2) 1 in
    let B = ltb (suc m) (2 ^ 53) in
    let C = leb (down e) (2 ^ 1074) in
    let D = ltb (suc m * up e) (2 ^ 1024 * down e) in
    leb→le (down e) (2 ^ 1074) (and_r (A && B) C (and_l (A && B && C) D f))

-- ---- `root_s` meets the rule

four_square : (j : ℕ) → 4 ^ j ≡ 2 ^ j * 2 ^ j
four_square zero = refl
four_square (suc j) = pow-suc 4 j ∙ ap (λ (x : ℕ). x * 4) (four_square j) ∙ doubled (2 ^ j) ∙ sym (ap (λ (x : ℕ). x * x) (pow-suc 2 j))
  where
    doubled : (p : ℕ) → p * p * 4 ≡ p * 2 * (p * 2)
    doubled p = omega arith

-- from n units of 1 / P, and S * 4 ^ j square units, to S * 4 ^ k: J is 2 ^ j, and u / D is J / P
by_units : (A n d S P J u D : ℕ) → 0 < P → A * P ≡ n * d → n * P ≡ S * (J * J) → u * P ≡ J * D → A * (D * D) ≡ S * (u * u) * d
by_units A n d S P J u D p a b c =
    eq_of_mul-eq-mul_right (P * P) (mul-pos p p) (A * (D * D)) (S * (u * u) * d)
    (first A D P
    ∙ ap (λ (x : ℕ). x * P * (D * D)) a
    ∙ second n d P D
    ∙ ap (λ (x : ℕ). x * (d * (D * D))) b
    ∙ third S J d D
    ∙ ap (λ (x : ℕ). x * x * (S * d)) (sym c)
    ∙ fourth u P S d)
  where
    first : (A D P : ℕ) → A * (D * D) * (P * P) ≡ A * P * P * (D * D)
    first A D P = omega arith

    second : (n d P D : ℕ) → n * d * P * (D * D) ≡ n * P * (d * (D * D))
    second n d P D = omega arith

    third : (S J d D : ℕ) → S * (J * J) * (d * (D * D)) ≡ J * D * (J * D) * (S * d)
    third S J d D = omega arith

    fourth : (u P S d : ℕ) → u * P * (u * P) * (S * d) ≡ S * (u * u) * d * (P * P)
    fourth u P S d = omega arith

-- j - 1074 as an exponent
exponent_is : (j : ℕ) → up (minus j 1074) * 2 ^ 1074 ≡ 2 ^ j * down (minus j 1074)
exponent_is j = ap (λ (x : ℕ). x * 2 ^ 1074) (sym (one-mul (up (minus j 1074)))) ∙ minus_val 1 j 1074 ∙ ap (λ (x : ℕ). x * down (minus j 1074)) (one-mul (2 ^ j))

root_fits : (q j : ℕ) → q < 2 ^ 53 → j < 2046 → T (fits binary64 (odd 53 false q j 1074))
root_fits q j l h = odd-fits binary64 53 false q j l (le_of_lt l) (lt_of_lt_of_le (shl_lt 53 j l) (pow_mono {i = 53 + j} {j = 2098} (omega arith)))

answer_is : (q j : ℕ) → HasValue (odd 53 false q j 1074) false (q * up (minus j 1074)) (down (minus j 1074))
answer_is q j =
    as_fraction (odd 53 false q j 1074) false (q * 2 ^ j) (2 ^ 1074) (q * up (minus j 1074)) (down (minus j 1074)) (pow_pos 1074)
    (group q (2 ^ j) (down (minus j 1074)) ∙ ap (λ (x : ℕ). q * x) (sym (exponent_is j)) ∙ sym (group q (up (minus j 1074)) (2 ^ 1074)))
    (odd_sign 53 false q j 1074)
  where
    group : (x y z : ℕ) → x * y * z ≡ x * (y * z)
    group x y z = omega arith

rounded : (m : ℕ) (e : ℤ) → T (fits binary64 (fin false (suc m) e)) → Rounded (fin false (suc m) e) (root_s (fin false (suc m) e))
unfolding Read
rounded m e f =
    let x = fin false (suc m) e in
    let b = to_bits binary64 x in
    let r = finite_reads (suc m) e f in
    let n = units_of (suc m) e in
    let p = some_pattern x (zero-lt-suc m) f in
    let g = normed_of b p r.0 in
    let d = digits_of (magnitude b) g.0 g.1 g.2 in
    let s : scaled n ≡ d.0 * 2 ^ 52 = ap scaled r.1 ∙ d.1 in
    let lo : 2 ^ 104 ≤ scaled n = omega (arith, s, d.2) in
    let hi : scaled n < 2 ^ 106 = omega (arith, s, d.3) in
    let w : Room n = subst Room (sym r.1) (room b p r.0) in
    let j = half_exp n in
    let q = near_root (scaled n) in
    let c = near_closest (scaled n) (omega arith) hi in
    let t : n * 2 ^ 1074 ≡ scaled n * (2 ^ j * 2 ^ j) =
    subst (λ (y : ℕ). y * 2 ^ 1074 ≡ scaled y * 4 ^ half_exp y) (sym r.1) (scaled_whole (magnitude b) g.0 g.1 g.2) ∙ ap (λ (y : ℕ). scaled n * y) (four_square j) in
    record {
      S = scaled n;
      k = minus j 1074;
      q = q;
      argument = (refl, by_units (suc m * up e) n (down e) (scaled n) (2 ^ 1074) (2 ^ j) (up (minus j 1074)) (down (minus j 1074)) (pow_pos 1074) (exact (suc m) e (not_too_low m e f)) t (exponent_is j));
      low = lo;
      high = hi;
      answer = subst (λ (y : Float). HasValue y false (q * up (minus j 1074)) (down (minus j 1074))) (sym (root_s_is m e)) (answer_is q j);
      above = c.0;
      below = c.1;
      held = subst (λ (y : Float). T (fits binary64 y)) (sym (root_s_is m e)) (root_fits q j w.high w.exponent);
    }

zero_root : (s : Bool) (e : ℤ) → root_s (fin s 0 e) ≡ fin s 0 e
unfolding root_s
zero_root s e = refl

nan_root : root_s nan ≡ nan
unfolding root_s
nan_root = refl

infinity_root : root_s (inf false) ≡ inf false
unfolding root_s
infinity_root = refl

pub sqrt_meets : (x : Float) → T (fits binary64 x) → IsRoot x (root_s x)
sqrt_meets x f = record {
  of_zero = λ s e h. subst (λ (y : Float). root_s y ≡ y) (sym h) (zero_root s e);
  of_below = λ h. sym (below_zero x h);
  of_nan = λ h. ap root_s h ∙ nan_root;
  of_infinity = λ h. subst (λ (y : Float). root_s y ≡ y) (sym h) infinity_root;
  of_else = λ m e h. subst (λ (y : Float). Rounded y (root_s y)) (sym h) (rounded m e (subst (λ (y : Float). T (fits binary64 y)) h f));
}

-- ---- nothing else does

four_pos : (j : ℕ) → 0 < 4 ^ j
four_pos j = pow-le-pow_right {n = 4} (zero-lt-suc 3) {i = 0} {j = j} (omega arith)

-- of two ways to write a number, the exponent of the one is at most that of the other
exps_le : (S T i j : ℕ) → S * 4 ^ i ≡ T * 4 ^ j → 2 ^ 104 ≤ S → T < 2 ^ 106 → i ≤ j
exps_le S T i j e l h = le_of_suc-le-suc (lt_of_not-le (λ (g : suc j ≤ i). no g (big g)))
  where
    big : suc j ≤ i → S * 4 ^ (i - suc j) * 4 ≡ T
    big g = eq_of_mul-eq-mul_right (4 ^ j) (four_pos j) (S * 4 ^ (i - suc j) * 4) T (regroup (4 ^ (i - suc j)) (4 ^ j) ∙ ap (λ (x : ℕ). S * x) (sym (pow-add 4 (i - suc j) (suc j) ∙ ap (λ (x : ℕ). 4 ^ (i - suc j) * x) (next j)) ∙ ap (λ (x : ℕ). 4 ^ x) (back g)) ∙ e)
      where
        regroup : (a b : ℕ) → S * a * 4 * b ≡ S * (a * (b * 4))
        regroup a b = omega arith

        next : (j : ℕ) → 4 ^ suc j ≡ 4 ^ j * 4
        next j = omega arith

        back : suc j ≤ i → i - suc j + suc j ≡ i
        back g = omega arith

    no : suc j ≤ i → S * 4 ^ (i - suc j) * 4 ≡ T → ⊥
    no g q = at_least (4 ^ (i - suc j)) (four_pos (i - suc j)) q
      where
        at_least : (p : ℕ) → 0 < p → S * p * 4 ≡ T → ⊥
        at_least p k q = omega (arith, mul-le-mul_left S k)

-- two ways to write x, with the powers of two set across
across_is : (A d S T u D v E : ℕ) → 0 < d → A * (D * D) ≡ S * (u * u) * d → A * (E * E) ≡ T * (v * v) * d → S * (u * E * (u * E)) ≡ T * (v * D * (v * D))
across_is A d S T u D v E p a b =
    eq_of_mul-eq-mul_right d p (S * (u * E * (u * E))) (T * (v * D * (v * D)))
    (first S u E d ∙ ap (λ (x : ℕ). x * (E * E)) (sym a) ∙ second A D E ∙ ap (λ (x : ℕ). x * (D * D)) b ∙ sym (first T v D d))
  where
    first : (S u E d : ℕ) → S * (u * E * (u * E)) * d ≡ S * (u * u) * d * (E * E)
    first S u E d = omega arith

    second : (A D E : ℕ) → A * (D * D) * (E * E) ≡ A * (E * E) * (D * D)
    second A D E = omega arith

-- so both have one S and one power of two
one_way : (S T : ℕ) (k l : ℤ) → 2 ^ 104 ≤ S → 2 ^ 104 ≤ T → S < 2 ^ 106 → T < 2 ^ 106 → S * (up k * down l * (up k * down l)) ≡ T * (up l * down k * (up l * down k))
    → (S ≡ T) × (up k * down l ≡ up l * down k)
one_way S T k l a b c d h =
    let i = raised_by k + lowered_by l in
    let j = raised_by l + lowered_by k in
    let w : S * 4 ^ i ≡ T * 4 ^ j = ap (λ (x : ℕ). S * x) (four_square i ∙ sym (ap (λ (x : ℕ). x * x) (across k l))) ∙ h ∙ ap (λ (x : ℕ). T * x) (ap (λ (x : ℕ). x * x) (across l k) ∙ sym (four_square j)) in
    let e : i ≡ j = le_antisymm (exps_le S T i j w a d) (exps_le T S j i (sym w) b c) in
    (eq_of_mul-eq-mul_right (4 ^ j) (four_pos j) S T (ap (λ (y : ℕ). S * 4 ^ y) (sym e) ∙ w), across k l ∙ ap (λ (x : ℕ). 2 ^ x) e ∙ sym (across l k))

rounded_unique : (m : ℕ) (e : ℤ) (r t : Float) → Rounded (fin false (suc m) e) r → Rounded (fin false (suc m) e) t → r ≡ t
rounded_unique m e r t a b =
    let h = across_is (suc m * up e) (down e) a.S b.S (up a.k) (down a.k) (up b.k) (down b.k) (down_pos e) a.argument.1 b.argument.1 in
    let w = one_way a.S b.S a.k b.k a.low b.low a.high b.high h in
    let q : a.q ≡ b.q = closest_unique a.q b.q b.S (subst (λ (y : ℕ). Closest y a.q) w.0 (a.above, a.below)) (b.above, b.below) in
    let some : 0 < a.q * up a.k = mul-pos (some_root a.q a.S a.low a.below) (up_pos a.k) in
    same_value r t false (a.q * up a.k) (down a.k) some (down_pos a.k) a.held b.held a.answer
    (as_fraction t false (b.q * up b.k) (down b.k) (a.q * up a.k) (down a.k) (down_pos b.k)
    (group b.q (up b.k) (down a.k) ∙ ap (λ (x : ℕ). x * (up b.k * down a.k)) (sym q) ∙ ap (λ (x : ℕ). a.q * x) (sym w.1) ∙ sym (group a.q (up a.k) (down b.k)))
    b.answer)
  where
    group : (x y z : ℕ) → x * y * z ≡ x * (y * z)
    group x y z = omega arith

    some_root : (q S : ℕ) → 2 ^ 104 ≤ S → 4 * S < (2 * q + 1) * (2 * q + 1) → 0 < q
    some_root zero S l h = omega arith
    some_root (suc q) S l h = zero-lt-suc q

pub sqrt_unique : (x r t : Float) → IsRoot x r → IsRoot x t → r ≡ t
sqrt_unique nan r t a b = a.of_nan refl ∙ sym (b.of_nan refl)
sqrt_unique (inf true) r t a b = let l : lt (inf true) plus_zero ≡ true = unfold lt in refl in a.of_below l ∙ sym (b.of_below l)
sqrt_unique (inf false) r t a b = a.of_infinity refl ∙ sym (b.of_infinity refl)
sqrt_unique (fin s zero e) r t a b = a.of_zero s e refl ∙ sym (b.of_zero s e refl)
sqrt_unique (fin true (suc m) e) r t a b = let l = negative_below m e in a.of_below l ∙ sym (b.of_below l)
sqrt_unique (fin false (suc m) e) r t a b = rounded_unique m e r t (a.of_else m e refl) (b.of_else m e refl)
