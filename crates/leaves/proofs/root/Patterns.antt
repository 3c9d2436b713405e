-- A finite value above zero and its pattern, and the pattern of the root: why the code may work on patterns alone. Assumes nothing.
use mathlib.Core.Path.{◌≡◌, refl, sym, ap, ◌∙◌, subst}
use mathlib.Core.Bool.{Bool, true, false, not, cond}
use mathlib.Core.Logic.{◌⊎◌, inl, inr}
use Prim.Native.Nat.{ℕ, zero, suc, ◌+◌, ◌-◌, ◌*◌, ◌/◌, ◌%◌, ◌^◌, ◌≤◌, ◌<◌}
use native.Mathlib.Nat.{mul-div_cancel, mul-one, zero-lt-suc}
use native.Mathlib.Omega.{arith}
use lib.IntN.{ℤ}
use lib.Dec.{T, leb, eqb, eqb→eq, nleb→lt, not_T}
use lib.Arith.{lt→nleb}
use lib.Ieee.{Float, nan, inf, fin, binary64, down, odd, fits, is_nan, of_fields, of_bits, nan_bits, to_bits}
use lib.Ieee.Fits.{down_pos, eq→eqb}
use lib.Ieee.Exact.{HasValue, odd_sign}
use lib.Ieee.Bits.{is_false, cond_no, of_bits-to_bits, to_bits-lt, nan_bits_is}
use Rattle.leaves.specs.Root.{root_s, near_root, scaled, half_exp, units_of}
use Rattle.leaves.specs.inner.Parts.{magnitude, packed}
use Rattle.leaves.proofs.root.Scaled.{magnitude_low, magnitude_high}
use Rattle.leaves.proofs.root.Bounds.{Room, room}
use Rattle.leaves.proofs.root.Floats.{Above}

-- ---- reading a pattern

odd_units : (s : Bool) (q k m : ℕ) (e : ℤ) → odd 53 s q k 1074 ≡ fin false m e → (s ≡ false) × (units_of m e ≡ q * 2 ^ k)
odd_units s q k m e p =
    let v : HasValue (fin false m e) s (q * 2 ^ k) (2 ^ 1074) = subst (λ (x : Float). HasValue x s (q * 2 ^ k) (2 ^ 1074)) p (odd_sign 53 s q k 1074) in
    (sym v.0, ap (λ (x : ℕ). x / down e) v.1 ∙ mul-div_cancel (q * 2 ^ k) (down_pos e))

no_special : (b s : Bool) (m : ℕ) (e : ℤ) → cond b (inf s) nan ≡ fin false m e → ⊥
no_special true s m e p = let z : ◌≡◌ {A = ℕ} 0 1 = cc in omega arith
no_special false s m e p = let z : ◌≡◌ {A = ℕ} 0 1 = cc in omega arith

-- the fields of a finite value above zero: the sign is clear, the exponent's field is below the last, and the two give the magnitude
abbrev Says : Bool → ℕ → ℕ → ℕ → ℤ → Type 0
Says s x t m e = (s ≡ false) × (x < 2047) × (((x ≡ 0) × (units_of m e ≡ t)) ⊎ ((0 < x) × (units_of m e ≡ (2 ^ 52 + t) * 2 ^ (x - 1))))

fields_say : (s : Bool) (x t m : ℕ) (e : ℤ) → x < 2048 → of_fields binary64 s x t ≡ fin false m e → Says s x t m e
unfolding of_fields
fields_say s zero t m e h p =
    let r = odd_units s t 0 m e p in
    (r.0, zero-lt-suc 2046, inl (refl, r.1 ∙ mul-one t))
fields_say s (suc x) t m e h p = go (eqb (suc x) 2047) (eqb→eq (suc x) 2047) (λ (l : suc x ≡ 2047). eq→eqb l) p
  where
    pred_is : suc x - 1 ≡ x
    pred_is = omega arith

    low_enough : (suc x ≡ 2047 → ⊥) → suc x < 2047
    low_enough n = omega arith

    go : (b : Bool) → (T b → suc x ≡ 2047) → (suc x ≡ 2047 → T b) → cond b (cond (eqb t 0) (inf s) nan) (odd 53 s (2 ^ 52 + t) x 1074) ≡ fin false m e → Says s (suc x) t m e
    go true y n q = absurd (no_special (eqb t 0) s m e q)
    go false y n q =
        let r = odd_units s (2 ^ 52 + t) x m e q in
        (r.0, low_enough n, inr (zero-lt-suc x, r.1 ∙ ap (λ (z : ℕ). (2 ^ 52 + t) * 2 ^ z) (sym pred_is)))

-- what its pattern b says of a finite value above zero
unfoldable pub Read : ℕ → ℕ → ℤ → Type 0
Read b m e = (b < 2047 * 2 ^ 52) × (units_of m e ≡ magnitude b)

pub of_pattern : (b m : ℕ) (e : ℤ) → b < 2 ^ 64 → of_bits binary64 b ≡ fin false m e → Read b m e
unfolding Read of_bits
of_pattern b m e h p = read (fields_say (leb (2 ^ 63) b) (b % 2 ^ 63 / 2 ^ 52) (b % 2 ^ 52) m e (omega arith) p)
  where
    clear : leb (2 ^ 63) b ≡ false → b < 2 ^ 63
    clear q = nleb→lt (2 ^ 63) b (subst (λ (c : Bool). T (not c)) (sym q) tt)

    read : Says (leb (2 ^ 63) b) (b % 2 ^ 63 / 2 ^ 52) (b % 2 ^ 52) m e → Read b m e
    read s =
        let c = clear s.0 in
        let k : b < 2047 * 2 ^ 52 = omega (arith, s.1) in
        (k, either c s.2)
      where
        field : b < 2 ^ 63 → b % 2 ^ 63 / 2 ^ 52 ≡ b / 2 ^ 52
        field c = omega arith

        either : b < 2 ^ 63 → ((b % 2 ^ 63 / 2 ^ 52 ≡ 0) × (units_of m e ≡ b % 2 ^ 52)) ⊎ ((0 < b % 2 ^ 63 / 2 ^ 52) × (units_of m e ≡ (2 ^ 52 + b % 2 ^ 52) * 2 ^ (b % 2 ^ 63 / 2 ^ 52 - 1))) → units_of m e ≡ magnitude b
        either c (inl u) = u.1 ∙ low c u.0 ∙ sym (magnitude_low b (under c u.0))
          where
            low : b < 2 ^ 63 → b % 2 ^ 63 / 2 ^ 52 ≡ 0 → b % 2 ^ 52 ≡ b
            low c z = omega arith

            under : b < 2 ^ 63 → b % 2 ^ 63 / 2 ^ 52 ≡ 0 → b < 2 ^ 52
            under c z = omega arith
        either c (inr u) = u.1 ∙ ap (λ (x : ℕ). (2 ^ 52 + b % 2 ^ 52) * 2 ^ (x - 1)) (field c) ∙ sym (magnitude_high b (over c u.0))
          where
            over : b < 2 ^ 63 → 0 < b % 2 ^ 63 / 2 ^ 52 → 2 ^ 52 ≤ b
            over c z = omega arith

-- ---- writing a pattern

pub to_pattern : (j q : ℕ) → j < 2046 → 2 ^ 52 ≤ q → q < 2 ^ 53 → of_bits binary64 (j * 2 ^ 52 + q) ≡ odd 53 false q j 1074
unfolding of_bits
to_pattern j q h l k =
    ap (λ (s : Bool). of_fields binary64 s (b % 2 ^ 63 / 2 ^ 52) (b % 2 ^ 52)) (is_false (leb (2 ^ 63) b) (lt→nleb (2 ^ 63) b (omega arith)))
    ∙ ap (λ (x : ℕ). of_fields binary64 false x (b % 2 ^ 52)) field
    ∙ ap (λ (x : ℕ). of_fields binary64 false (suc j) x) digits
    ∙ normal
  where
    b : ℕ
    b = j * 2 ^ 52 + q

    field : b % 2 ^ 63 / 2 ^ 52 ≡ suc j
    field = omega arith

    digits : b % 2 ^ 52 ≡ q - 2 ^ 52
    digits = omega arith

    last : suc j ≡ 2047 → ⊥
    last e = omega arith

    lead : 2 ^ 52 + (q - 2 ^ 52) ≡ q
    lead = omega arith

    normal : of_fields binary64 false (suc j) (q - 2 ^ 52) ≡ odd 53 false q j 1074
    normal = unfold of_fields in
        cond_no (eqb (suc j) 2047) (cond (eqb (q - 2 ^ 52) 0) (inf false) nan) (odd 53 false (2 ^ 52 + (q - 2 ^ 52)) j 1074) (not_T (eqb (suc j) 2047) (λ u. last (eqb→eq (suc j) 2047 u)))
        ∙ ap (λ (x : ℕ). odd 53 false x j 1074) lead

odd_no_nan : (q j : ℕ) → T (not (is_nan (odd 53 false q j 1074)))
unfolding odd is_nan
odd_no_nan zero j = tt
odd_no_nan (suc q) j = tt

pub no_nan_pattern : (j q : ℕ) → j < 2046 → 2 ^ 52 ≤ q → q < 2 ^ 53 → T (not (nan_bits binary64 (j * 2 ^ 52 + q)))
no_nan_pattern j q h l k =
    subst (λ (b : Bool). T (not b)) (sym (nan_bits_is binary64 (j * 2 ^ 52 + q)))
    (subst (λ (x : Float). T (not (is_nan x))) (sym (to_pattern j q h l k)) (odd_no_nan q j))

-- ---- the root, by its pattern

pub root_s_is : (m : ℕ) (e : ℤ) → root_s (fin false (suc m) e) ≡ odd 53 false (near_root (scaled (units_of (suc m) e))) (half_exp (units_of (suc m) e)) 1074
unfolding root_s
root_s_is m e = refl

packed_is : (n : ℕ) → packed n ≡ half_exp n * 2 ^ 52 + near_root (scaled n)
unfolding packed
packed_is n = refl

pub packed_root : (n m : ℕ) (e : ℤ) → units_of (suc m) e ≡ n → Room n → of_bits binary64 (packed n) ≡ root_s (fin false (suc m) e)
packed_root n m e u r =
    ap (λ (b : ℕ). of_bits binary64 b) (packed_is n)
    ∙ to_pattern (half_exp n) (near_root (scaled n)) r.exponent r.low r.high
    ∙ sym (root_s_is m e ∙ ap (λ (x : ℕ). odd 53 false (near_root (scaled x)) (half_exp x) 1074) u)

pub packed_no_nan : (n : ℕ) → Room n → T (not (nan_bits binary64 (packed n)))
packed_no_nan n r = rw (packed_is n) (no_nan_pattern (half_exp n) (near_root (scaled n)) r.exponent r.low r.high)

-- ---- x, with its pattern b

to_bits_inf : to_bits binary64 (inf false) ≡ 2047 * 2 ^ 52
unfolding to_bits
to_bits_inf = refl

zero_pattern : (m : ℕ) (e : ℤ) → of_bits binary64 0 ≡ fin false (suc m) e → ⊥
unfolding of_bits
zero_pattern m e p = let z : 0 ≡ suc m = cc in omega arith

none_below : (m : ℕ) → 0 < 0 → ⊥
none_below m h = omega arith

pub finite_reads : (m : ℕ) (e : ℤ) → T (fits binary64 (fin false m e)) → Read (to_bits binary64 (fin false m e)) m e
finite_reads m e f = of_pattern (to_bits binary64 (fin false m e)) m e (to_bits-lt binary64 (fin false m e) f) (of_bits-to_bits binary64 (fin false m e) f)

pub top_root : (x : Float) → Above x → T (fits binary64 x) → 2047 * 2 ^ 52 ≤ to_bits binary64 x → x ≡ root_s x
unfolding Read root_s
top_root nan a f h = absurd a
top_root (inf true) a f h = absurd a
top_root (inf false) a f h = refl
top_root (fin true m e) a f h = absurd a
top_root (fin false m e) a f h = absurd (no (to_bits binary64 (fin false m e)) (finite_reads m e f).0 h)
  where
    no : (b : ℕ) → b < 2047 * 2 ^ 52 → 2047 * 2 ^ 52 ≤ b → ⊥
    no b l k = omega arith

pub some_pattern : (x : Float) → Above x → T (fits binary64 x) → 0 < to_bits binary64 x
some_pattern nan a f = absurd a
some_pattern (inf true) a f = absurd a
some_pattern (inf false) a f = rw to_bits_inf (zero-lt-suc _)
some_pattern (fin true m e) a f = absurd a
some_pattern (fin false zero e) a f = absurd (none_below 0 a)
some_pattern (fin false (suc m) e) a f = go (to_bits binary64 (fin false (suc m) e)) (of_bits-to_bits binary64 (fin false (suc m) e) f)
  where
    go : (b : ℕ) → of_bits binary64 b ≡ fin false (suc m) e → 0 < b
    go zero p = absurd (zero_pattern m e p)
    go (suc b) p = zero-lt-suc b

pub finite_root : (x : Float) → Above x → T (fits binary64 x) → to_bits binary64 x < 2047 * 2 ^ 52 → of_bits binary64 (packed (magnitude (to_bits binary64 x))) ≡ root_s x
unfolding Read
finite_root nan a f h = absurd a
finite_root (inf true) a f h = absurd a
finite_root (inf false) a f h = absurd (no (to_bits binary64 (inf false)) to_bits_inf h)
  where
    no : (b : ℕ) → b ≡ 2047 * 2 ^ 52 → b < 2047 * 2 ^ 52 → ⊥
    no b e l = omega arith
finite_root (fin true m e) a f h = absurd a
finite_root (fin false zero e) a f h = absurd (none_below 0 a)
finite_root (fin false (suc m) e) a f h =
    let b = to_bits binary64 (fin false (suc m) e) in
    packed_root (magnitude b) m e (finite_reads (suc m) e f).1 (room b (some_pattern (fin false (suc m) e) a f) h)

pub pattern_no_nan : (x : Float) → Above x → T (fits binary64 x) → to_bits binary64 x < 2047 * 2 ^ 52 → T (not (nan_bits binary64 (packed (magnitude (to_bits binary64 x)))))
pattern_no_nan x a f h = packed_no_nan (magnitude (to_bits binary64 x)) (room (to_bits binary64 x) (some_pattern x a f) h)
