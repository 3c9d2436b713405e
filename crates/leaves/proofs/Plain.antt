-- 02, #106: with neither flag the norm is the root of s2 alone (`no_flag_plain`): the other sums are +0, and what they add to s2 is a factor of 1.
-- Assumes nothing.
use mathlib.Core.Path.{◌≡◌, refl, sym, ap, ◌∙◌, subst}
use mathlib.Core.Bool.{Bool, true, false, cond, not, ◌&&◌, true≢false}
use mathlib.Core.List.{List, [], ◌∷◌}
use Prim.Native.Nat.{ℕ, zero, suc, ◌+◌, ◌-◌, ◌*◌, ◌%◌, ◌^◌, ◌<◌, ◌≤◌}
use native.Mathlib.Nat.{mul-pos, lt_irrefl, lt_of_le_of_lt, lt_of_mul-lt-mul_right, mul-lt-mul_of_pos_right, one-mul, pow-suc, mul-one as nat-mul-one}
use native.Mathlib.Omega.{arith}
use lib.Dec.{T, ltb, leb, eqb, ltb→lt, leb→le, eqb→eq}
use lib.Pow.{pow-add, pow-lt, pow_pos}
use borrow.Author.Tests.{lt-ltb, ne_eqb, ltb-true, ltb-false}
use lib.IntN.{ℤ, pos, negsuc}
use lib.ListN.{length}
use lib.Ieee.{Float, nan, inf, fin, binary64, fits, up, down, add, mul, div, lt, le, eq, ne, sum, odd, units, round}
use lib.Ieee.Exact.{round_exact}
use lib.Ieee.Fits.{and_l, and_r, up_pos, down_pos, round_is, round-fits, add-fits}
use Rattle.leaves.specs.Number.{plus_zero, one, abs_of, square_of}
use Rattle.leaves.specs.Norm.{agiant, sums, middle, small, large, step, accumulate, none, finish_middle, finish_small, finish, norm, neither, ranges}
use Rattle.leaves.specs.Root.{root_s}
use Rattle.leaves.specs.declared.norm.Sums.{Sums}
use Rattle.leaves.specs.declared.norm.Ranges.{Ranges}
use Rattle.leaves.proofs.Signs.{not_zero}
use Rattle.leaves.proofs.Normed.{arms, in_one, round_zero}
use Rattle.leaves.proofs.Flags.{plain_sums}
use Rattle.leaves.proofs.root.Same.{same_value}

-- ---- s2 is a number that binary64 holds, not below zero
data Plus : Float → Type 0 where
  lost : Plus nan
  endless : Plus (inf false)
  some : {m : ℕ} {e : ℤ} → Plus (fin false m e)

odd_plus : (d q k l : ℕ) → Plus (odd d false q k l)
unfolding odd
odd_plus d zero k l = some
odd_plus d (suc q) k l = some

units_plus : (q k : ℕ) → Plus (units binary64 false q k)
unfolding units
units_plus q k = arms Plus (ltb (q * 2 ^ k) (2 ^ 2098)) (odd_plus 54 q k 1074) endless

round_plus : (a b : ℕ) → Plus (round binary64 false a b)
round_plus a b = rw (round_is binary64 false a b) (units_plus _ _)

square_plus : (x : Float) → Plus (square_of x)
unfolding square_of mul
square_plus nan = lost
square_plus (inf true) = endless
square_plus (inf false) = endless
square_plus (fin true m e) = round_plus (m * up e * (m * up e)) (down e * down e)
square_plus (fin false m e) = round_plus (m * up e * (m * up e)) (down e * down e)

add_plus : {x y : Float} → Plus x → Plus y → Plus (add binary64 x y)
unfolding add sum
add_plus lost q = lost
add_plus endless lost = lost
add_plus endless endless = endless
add_plus endless some = endless
add_plus some lost = lost
add_plus some endless = endless
add_plus (some {m} {e}) (some {m = n} {e = d}) = round_plus (m * up e * down d + n * up d * down e) (down e * down d)

abbrev Holds : Sums → Type 0
Holds t = Plus t.s2 × T (fits binary64 t.s2)

holds_step : (g : Float) (t : Sums) (x : Float) → Holds t → Holds (step g t x)
unfolding middle small large
holds_step g t x h =
    let v = abs_of x in
    in_one Holds g t v (add_plus h.0 (square_plus v), add-fits binary64 t.s2 (square_of v)) (arms Holds (lt t.x3max v) h (arms Holds (eq v plus_zero) h h)) (arms Holds (lt t.x1max v) h h)

holds_all : (g : Float) (t : Sums) (xs : List Float) → Holds t → Holds (accumulate g t xs)
unfolding accumulate
holds_all g t [] h = h
holds_all g t (x ∷ xs) h = holds_all g (step g t x) xs (holds_step g t x h)

-- ---- times 1 it is itself
record Fitting (m : ℕ) (e : ℤ) : Type 0 where
  few : m < 2 ^ 53
  low : down e ≤ 2 ^ 1074
  high : m * up e < 2 ^ 1024 * down e

fitting : (m : ℕ) (e : ℤ) → T (fits binary64 (fin false (suc m) e)) → Fitting (suc m) e
unfolding fits
fitting m e f =
    let A = eqb (suc m % 2) 1 in
    let B = ltb (suc m) (2 ^ 53) in
    let C = leb (down e) (2 ^ 1074) in
    let D = ltb (suc m * up e) (2 ^ 1024 * down e) in
    record {
      few = ltb→lt (suc m) (2 ^ 53) (and_r A B (and_l (A && B) C (and_l (A && B && C) D f)));
      low = leb→le (down e) (2 ^ 1074) (and_r (A && B) C (and_l (A && B && C) D f));
      high = ltb→lt (suc m * up e) (2 ^ 1024 * down e) (and_r (A && B && C) D f);
    }

-- 2^e in units of 2^-1074
exponent : ℤ → ℕ
exponent (pos k) = k + 1074
exponent (negsuc k) = 1074 - suc k

under : (k l : ℕ) → 2 ^ k ≤ 2 ^ l → k ≤ l
under k l h = go (ltb l k) refl
  where
    go : (b : Bool) → ltb l k ≡ b → k ≤ l
    go true e = absurd (lt_irrefl (2 ^ k) (lt_of_le_of_lt h (pow-lt (ltb-true l k e))))
    go false e = ltb-false l k e

exponent_is : (e : ℤ) → down e ≤ 2 ^ 1074 → up e * 2 ^ 1074 ≡ 2 ^ exponent e * down e
unfolding exponent
exponent_is (pos k) h = sym (pow-add 2 k 1074) ∙ sym (nat-mul-one (2 ^ (k + 1074)))
exponent_is (negsuc k) h =
    let l : suc k ≤ 1074 = under (suc k) 1074 h in
    let e : 1074 - suc k + suc k ≡ 1074 = omega arith in
    one-mul (2 ^ 1074) ∙ sym (ap (λ (x : ℕ). 2 ^ x) e) ∙ pow-add 2 (1074 - suc k) (suc k)

-- m·u/d is m·p units of 1/L
in_units : (m u p d L : ℕ) → u * L ≡ p * d → m * u * 1 * L ≡ m * p * (d * 1)
in_units m u p d L h = first ∙ ap (λ (x : ℕ). m * x) h ∙ last
  where
    first : m * u * 1 * L ≡ m * (u * L)
    first = omega arith

    last : m * (p * d) ≡ m * p * (d * 1)
    last = omega arith

few_units : (m u p d L H : ℕ) → 0 < d → 0 < L → u * L ≡ p * d → m * u < H * d → m * p < L * H
few_units m u p d L H a b h k = lt_of_mul-lt-mul_right d (subst (λ (x : ℕ). x < L * H * d) (turned ∙ ap (λ (x : ℕ). m * x) h ∙ last) (subst (λ (x : ℕ). m * u * L < x) over (mul-lt-mul_of_pos_right k b)))
  where
    turned : m * u * L ≡ m * (u * L)
    turned = omega arith

    last : m * (p * d) ≡ m * p * d
    last = omega arith

    over : H * d * L ≡ L * H * d
    over = omega arith

mul_one : (m : ℕ) (e : ℤ) → T (fits binary64 (fin false (suc m) e)) → mul binary64 (fin false (suc m) e) one ≡ fin false (suc m) e
unfolding mul
mul_one m e f =
    let g = fitting m e f in
    let num = suc m * up e * 1 in
    let den = down e * 1 in
    let p : 0 < den = mul-pos (down_pos e) (omega arith) in
    let q : 0 < num = mul-pos (mul-pos (omega arith) (up_pos e)) (omega arith) in
    let h = exponent_is e g.low in
    let fine = subst (λ (x : ℕ). suc m * 2 ^ exponent e < x) (sym (pow-add 2 1074 1024)) (few_units (suc m) (up e) (2 ^ exponent e) (down e) (2 ^ 1074) (2 ^ 1024) (down_pos e) (pow_pos 1074) h g.high) in
    let v = round_exact binary64 false num den (suc m) (exponent e) p g.few fine (in_units (suc m) (up e) (2 ^ exponent e) (down e) (2 ^ 1074) h) in
    same_value (round binary64 false num den) (fin false (suc m) e) false num den q p (round-fits binary64 false num den) f v (refl, own (suc m * up e) (down e))
  where
    own : (x d : ℕ) → x * (d * 1) ≡ x * 1 * d
    own x d = omega arith

even_one : (x : ℕ) → x * 2 ≡ 1 → ⊥
even_one x h = omega arith

zero_exponent : (e : ℤ) → T (fits binary64 (fin false 0 e)) → fin false 0 e ≡ plus_zero
unfolding fits
zero_exponent (pos zero) f = refl
zero_exponent (pos (suc k)) f = absurd (even_one (2 ^ k) (sym (pow-suc 2 k) ∙ sym (nat-mul-one (2 ^ suc k)) ∙ eqb→eq (2 ^ suc k * 1) 1 f))
zero_exponent (negsuc k) f = absurd (even_one (2 ^ k) (sym (pow-suc 2 k) ∙ sym (one-mul (2 ^ suc k)) ∙ eqb→eq (1 * 2 ^ suc k) 1 f))

-- ---- the norm
none_more : (x : Float) → div binary64 plus_zero x ≡ plus_zero → add binary64 one (mul binary64 (div binary64 plus_zero x) (mul binary64 plus_zero plus_zero)) ≡ one
unfolding mul round add sum
none_more x d = rw d refl

over_some : (m : ℕ) (e : ℤ) → div binary64 plus_zero (fin false (suc m) e) ≡ plus_zero
unfolding div
over_some m e =
    rw (ne_eqb (suc m) 0 (λ (z : suc m ≡ 0). omega arith))
    (round_zero false (0 * 1 * down e) (suc m * up e * 1) (mul-pos (mul-pos (omega arith) (up_pos e)) (omega arith)) (omega arith))

some-least : (m : ℕ) (e : ℤ) → le plus_zero (fin false (suc m) e) ≡ true
unfolding le lt
some-least m e = let p : 0 < suc m * up e = mul-pos (omega arith) (up_pos e) in rw (lt-ltb (0 * 1 * down e) (suc m * up e * 1) (omega arith))

middle_is : (x y : Float) → le plus_zero x ≡ true → div binary64 plus_zero x ≡ plus_zero → mul binary64 x one ≡ x → finish_middle (sums plus_zero x plus_zero y plus_zero) ≡ root_s x
unfolding finish_middle
middle_is x y l d o = rw (l, none_more x d, o, finish_middle)

by_middle : (x y : Float) → eq x plus_zero ≡ false → finish_middle (sums plus_zero x plus_zero y plus_zero) ≡ root_s x → finish (sums plus_zero x plus_zero y plus_zero) ≡ root_s x
unfolding finish ne eq
by_middle x y e h = test (ne x plus_zero) (ap not e)
  where
    test : (b : Bool) → b ≡ true → cond b (finish_middle (sums plus_zero x plus_zero y plus_zero)) (finish_small (sums plus_zero x plus_zero y plus_zero)) ≡ root_s x
    test true k = h
    test false k = absurd (true≢false (sym k))

nan_by : (y : Float) → finish (sums plus_zero nan plus_zero y plus_zero) ≡ root_s nan
unfolding finish finish_middle ne eq le lt root_s div mul add
nan_by y = refl

infinity_by : (y : Float) → finish (sums plus_zero (inf false) plus_zero y plus_zero) ≡ root_s (inf false)
unfolding finish finish_middle ne eq le lt root_s div mul add sum round
infinity_by y = refl

zero_by : (y : Float) → finish (sums plus_zero plus_zero plus_zero y plus_zero) ≡ root_s plus_zero
unfolding finish finish_small ne eq root_s mul round
zero_by y = refl

plain_by : (x y : Float) → Plus x → T (fits binary64 x) → finish (sums plus_zero x plus_zero y plus_zero) ≡ root_s x
plain_by nan y lost f = nan_by y
plain_by (inf false) y endless f = infinity_by y
plain_by (inf true) y x f = elim x [ ]
plain_by (fin true _ e) y x f = elim x [ ]
plain_by (fin false zero e) y some f = rw (zero_exponent e f) (zero_by y)
plain_by (fin false (suc m) e) y some f = by_middle (fin false (suc m) e) y (not_zero false m e) (middle_is (fin false (suc m) e) y (some-least m e) (over_some m e) (mul_one m e f))

-- LAW
pub no_flag_plain : (xs : List Float) → ranges xs ≡ neither → norm xs ≡ root_s (accumulate (agiant (length xs)) none xs).s2
unfolding norm ranges fits
no_flag_plain xs e =
    let g = agiant (length xs) in
    let t = accumulate g none xs in
    let p = plain_sums g xs (ap (λ (r : Ranges). r.small) e) (ap (λ (r : Ranges). r.large) e) in
    let h = holds_all g none xs (some, tt) in
    let same : t ≡ sums plus_zero t.s2 plus_zero t.x1max plus_zero =
    ap (λ (x : Float). sums x t.s2 t.s3 t.x1max t.x3max) p.no_large ∙ ap (λ (x : Float). sums plus_zero t.s2 x t.x1max t.x3max) p.no_sum
    ∙ ap (λ (x : Float). sums plus_zero t.s2 plus_zero t.x1max x) p.no_small in
    ap finish same ∙ plain_by t.s2 t.x1max h.0 h.1
