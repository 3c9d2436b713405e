-- The rotation of MINPACK-1's QRSOLV (`specs/Qrsolv.antt`) is document 01's, infinities and NaN too: it is chosen by .ge. where document 01 has
-- |r| < |l|, and takes the minus of a product where the base negates a factor. Assumes nothing.
use mathlib.Core.Path.{◌≡◌, refl, sym, ◌∙◌}
use mathlib.Core.Bool.{Bool, true, false, cond, not, ◌&&◌, ◌||◌, true≢false}
use Prim.Native.Nat.{ℕ, ◌*◌}
use native.Mathlib.Omega.{arith}
use lib.Dec.{ltb, eqb}
use lib.Ieee.{Float, nan, inf, fin, binary64, up, down, add, mul, div, lt, le, eq, is_nan}
use borrow.Author.Tests.{lt-ltb, le-ltb, ltb-true, ltb-false, ne_eqb, eqb-false}
use Rattle.leaves.specs.Number.{abs_of}
use Rattle.leaves.specs.Root.{root_s}
use Rattle.eliminate.specs.Eliminate.{lesser, by_cot, givens, turned, left}
use Rattle.eliminate.specs.Eliminate as elimination
use Rattle.eliminate.specs.declared.eliminate.Rotation.{Rotation}
use Rattle.search.specs.Qrsolv.{Turn, by_cotan, by_tan, turn_of, stays, passes}
use Rattle.search.proofs.Commuting.{times_comm, times_neg}

-- ---- .ge. of absolute values, of two numbers
whole_ge : (a b : ℕ) → (ltb b a || (eqb b a && true)) ≡ not (ltb a b)
whole_ge a b = by (ltb a b) (eqb b a) refl refl
  where
    by : (z w : Bool) → ltb a b ≡ z → eqb b a ≡ w → (ltb b a || (w && true)) ≡ not z
    by true w h k = let l = ltb-true a b h in let d : w ≡ false = sym k ∙ ne_eqb b a (omega arith) in rw (le-ltb b a (omega arith), d)
    by false true h k = or_true (ltb b a)
      where
        or_true : (x : Bool) → (x || true) ≡ true
        or_true true = refl
        or_true false = refl
    by false false h k = let l = ltb-false a b h in let d = eqb-false b a k in rw (lt-ltb b a (omega arith))

ge_is : (x y : Float) → is_nan x ≡ false → is_nan y ≡ false → le (abs_of y) (abs_of x) ≡ not (lt (abs_of x) (abs_of y))
unfolding is_nan le lt eq abs_of
ge_is nan y h k = absurd (true≢false h)
ge_is (inf s) nan h k = absurd (true≢false k)
ge_is (fin s m e) nan h k = absurd (true≢false k)
ge_is (inf s) (inf t) h k = refl
ge_is (inf s) (fin t n d) h k = refl
ge_is (fin s m e) (inf t) h k = refl
ge_is (fin s m e) (fin t n d) h k = whole_ge (m * up e * down d) (n * up d * down e)

-- ---- the rotation
abbrev pub turn_by : Rotation → Turn
turn_by g = record { cos = g.cos; sin = g.sin }

cotan_is : (r s : Float) → by_cotan r s ≡ turn_by (by_cot r s)
unfolding by_cotan by_cot lesser
cotan_is r s = refl

tan_is : (r s : Float) → by_tan r s ≡ turn_by (elimination.by_tan r s)
unfolding by_tan elimination.by_tan lesser
tan_is r s = refl

-- where one of the two is NaN, so are both numbers of the rotation, whichever way it is worked out
abbrev nowhere : Turn
nowhere = record { cos = nan; sin = nan }

cotan_nan : (r s : Float) → div binary64 r s ≡ nan → by_cotan r s ≡ nowhere
unfolding by_cotan root_s add mul div
cotan_nan r s e = rw e

tan_nan : (r s : Float) → div binary64 s r ≡ nan → by_tan r s ≡ nowhere
unfolding by_tan root_s add mul div
tan_nan r s e = rw e

over_nan : (x : Float) → div binary64 x nan ≡ nan
unfolding div
over_nan nan = refl
over_nan (inf s) = refl
over_nan (fin s m e) = refl

nan_over : (x : Float) → div binary64 nan x ≡ nan
unfolding div
nan_over x = refl

numbers : (r s : Float) → is_nan r ≡ false → is_nan s ≡ false → cond (le (abs_of s) (abs_of r)) (by_tan r s) (by_cotan r s) ≡ turn_by (cond (lt (abs_of r) (abs_of s)) (by_cot r s) (elimination.by_tan r s))
numbers r s h k = rw (ge_is r s h k) (by (lt (abs_of r) (abs_of s)))
  where
    by : (z : Bool) → cond (not z) (by_tan r s) (by_cotan r s) ≡ turn_by (cond z (by_cot r s) (elimination.by_tan r s))
    by true = cotan_is r s
    by false = tan_is r s

either : (r s : Float) (z w : Bool) → by_tan r s ≡ nowhere → by_cotan r s ≡ nowhere → cond z (by_tan r s) (by_cotan r s) ≡ turn_by (cond w (by_cot r s) (elimination.by_tan r s))
either r s true true a b = a ∙ sym b ∙ cotan_is r s
either r s true false a b = tan_is r s
either r s false true a b = cotan_is r s
either r s false false a b = b ∙ sym a ∙ tan_is r s

-- LAW: the rotation that QRSOLV chooses by .ge. is document 01's
pub turn_is : (r s : Float) → turn_of r s ≡ turn_by (givens r s)
unfolding turn_of givens is_nan
turn_is nan s = either nan s (le (abs_of s) (abs_of nan)) (lt (abs_of nan) (abs_of s)) (tan_nan nan s (over_nan s)) (cotan_nan nan s (nan_over s))
turn_is (inf t) nan = either (inf t) nan (le (abs_of nan) (abs_of (inf t))) (lt (abs_of (inf t)) (abs_of nan)) (tan_nan (inf t) nan (nan_over (inf t))) (cotan_nan (inf t) nan (over_nan (inf t)))
turn_is (fin t m e) nan = either (fin t m e) nan (le (abs_of nan) (abs_of (fin t m e))) (lt (abs_of (fin t m e)) (abs_of nan)) (tan_nan (fin t m e) nan (nan_over (fin t m e))) (cotan_nan (fin t m e) nan (over_nan (fin t m e)))
turn_is (inf t) (inf u) = numbers (inf t) (inf u) refl refl
turn_is (inf t) (fin u n d) = numbers (inf t) (fin u n d) refl refl
turn_is (fin t m e) (inf u) = numbers (fin t m e) (inf u) refl refl
turn_is (fin t m e) (fin u n d) = numbers (fin t m e) (fin u n d) refl refl

pub stays_is : (g : Rotation) (a b : Float) → stays (turn_by g) a b ≡ turned g a b
unfolding stays turned
stays_is g a b = refl

pub passes_is : (g : Rotation) (a b : Float) → passes (turn_by g) a b ≡ left g a b
unfolding passes left
passes_is g a b = rw (times_comm binary64 g.sin a, times_neg binary64 a g.sin)
