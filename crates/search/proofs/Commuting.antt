-- Rounded products and sums do not depend on the order of their operands, and a difference is a sum with the negated operand; for every
-- float, infinities and NaN too. Assumes nothing.
use mathlib.Core.Path.{◌≡◌, refl, sym, ap, ◌∙◌}
use mathlib.Core.Bool.{Bool, true, false, cond, not}
use Prim.Native.Nat.{ℕ, zero, suc, ◌+◌, ◌-◌, ◌*◌, ◌^◌}
use native.Mathlib.Nat.{mul_comm, add_comm}
use native.Mathlib.Omega.{arith}
use lib.Dec.{ltb, eqb}
use lib.Ieee.{Float, Format, nan, inf, fin, up, down, unlike, prec, emax, low, odd, units, round, neg, sum, add, sub, mul}
use borrow.Author.Tests.{ltb-true, ltb-false}

-- ---- signs
unlike_comm : (s t : Bool) → unlike s t ≡ unlike t s
unlike_comm true true = refl
unlike_comm true false = refl
unlike_comm false true = refl
unlike_comm false false = refl

unlike_not : (s t : Bool) → unlike (not t) s ≡ not (unlike s t)
unlike_not true true = refl
unlike_not true false = refl
unlike_not false true = refl
unlike_not false false = refl

-- the sign goes through a rounding as it is
odd_neg : (d : ℕ) (s : Bool) (q k l : ℕ) → neg (odd d s q k l) ≡ odd d (not s) q k l
unfolding odd neg
odd_neg d s zero k l = refl
odd_neg d s (suc q) k l = refl

units_neg : (f : Format) (s : Bool) (q k : ℕ) → neg (units f s q k) ≡ units f (not s) q k
unfolding units neg
units_neg f s q k = by (ltb (q * 2 ^ k) (2 ^ (low f + suc (emax f))))
  where
    by : (z : Bool) → neg (cond z (odd (suc (prec f)) s q k (low f)) (inf s)) ≡ cond z (odd (suc (prec f)) (not s) q k (low f)) (inf (not s))
    by true = odd_neg (suc (prec f)) s q k (low f)
    by false = refl

pub round_neg : (f : Format) (s : Bool) (a b : ℕ) → neg (round f s a b) ≡ round f (not s) a b
unfolding round
round_neg f s a b = units_neg f s _ _

-- of a product or a quotient with an infinity
infinite_neg : (z s : Bool) → neg (cond z nan (inf s)) ≡ cond z nan (inf (not s))
unfolding neg
infinite_neg true s = refl
infinite_neg false s = refl

-- ---- products
pub times_comm : (f : Format) (x y : Float) → mul f x y ≡ mul f y x
unfolding mul
times_comm f nan nan = refl
times_comm f nan (inf t) = refl
times_comm f nan (fin t n d) = refl
times_comm f (inf s) nan = refl
times_comm f (inf s) (inf t) = ap inf (unlike_comm s t)
times_comm f (inf s) (fin t n d) = rw (unlike_comm s t)
times_comm f (fin s m e) nan = refl
times_comm f (fin s m e) (inf t) = rw (unlike_comm s t)
times_comm f (fin s m e) (fin t n d) = rw (unlike_comm s t, mul_comm (m * up e) (n * up d), mul_comm (down e) (down d))

pub times_neg : (f : Format) (x y : Float) → neg (mul f x y) ≡ mul f (neg y) x
unfolding mul neg
times_neg f nan nan = refl
times_neg f nan (inf t) = refl
times_neg f nan (fin t n d) = refl
times_neg f (inf s) nan = refl
times_neg f (inf s) (inf t) = ap inf (sym (unlike_not s t))
times_neg f (inf s) (fin t n d) = rw (unlike_not s t) (infinite_neg (eqb n 0) (unlike s t))
times_neg f (fin s m e) nan = refl
times_neg f (fin s m e) (inf t) = rw (unlike_not s t) (infinite_neg (eqb m 0) (unlike s t))
times_neg f (fin s m e) (fin t n d) =
    round_neg f (unlike s t) (m * up e * (n * up d)) (down e * down d)
    ∙ rw (unlike_not s t, mul_comm (m * up e) (n * up d), mul_comm (down e) (down d))

-- ---- sums
unlike_signs : (f : Format) (a b c : ℕ) → cond (ltb a b) (round f false (b - a) c) (round f (ltb b a) (a - b) c) ≡ cond (ltb b a) (round f true (a - b) c) (round f false (b - a) c)
unlike_signs f a b c = by (ltb a b) (ltb b a) refl refl
  where
    by : (x y : Bool) → ltb a b ≡ x → ltb b a ≡ y → cond x (round f false (b - a) c) (round f y (a - b) c) ≡ cond y (round f true (a - b) c) (round f false (b - a) c)
    by true true p q = absurd (omega (arith, ltb-true a b p, ltb-true b a q))
    by true false p q = refl
    by false true p q = refl
    by false false p q = let e : a ≡ b = omega (arith, ltb-false a b p, ltb-false b a q) in rw e

sum_comm : (f : Format) (s : Bool) (a : ℕ) (t : Bool) (b c : ℕ) → sum f s a t b c ≡ sum f t b s a c
unfolding sum
sum_comm f true a true b c = rw (add_comm a b)
sum_comm f false a false b c = rw (add_comm a b)
sum_comm f true a false b c = unlike_signs f a b c
sum_comm f false a true b c = sym (unlike_signs f b a c)

pub plus_comm : (f : Format) (x y : Float) → add f x y ≡ add f y x
unfolding add
plus_comm f nan nan = refl
plus_comm f nan (inf t) = refl
plus_comm f nan (fin t n d) = refl
plus_comm f (inf s) nan = refl
plus_comm f (inf true) (inf true) = refl
plus_comm f (inf true) (inf false) = refl
plus_comm f (inf false) (inf true) = refl
plus_comm f (inf false) (inf false) = refl
plus_comm f (inf s) (fin t n d) = refl
plus_comm f (fin s m e) nan = refl
plus_comm f (fin s m e) (inf t) = refl
plus_comm f (fin s m e) (fin t n d) = sum_comm f s _ t _ _ ∙ rw (mul_comm (down e) (down d))

-- LAW: y - r·t is (-t)·r + y
pub less_is : (f : Format) (y r t : Float) → sub f y (mul f r t) ≡ add f (mul f (neg t) r) y
unfolding sub
less_is f y r t = plus_comm f y (neg (mul f r t)) ∙ ap (λ (z : Float). add f z y) (times_neg f r t)
