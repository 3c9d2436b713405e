-- A number of middle size on either side of zero. Assumes nothing.
use mathlib.Core.Path.{◌≡◌, refl, sym, ap, subst}
use mathlib.Core.Bool.{Bool, true, false, ◌&&◌, ◌||◌}
use Prim.Native.Nat.{ℕ, ◌*◌, ◌<◌, ◌≤◌}
use native.Mathlib.Nat.{add_comm}
use native.Mathlib.Omega.{arith}
use lib.Dec.{T, ltb, eqb}
use lib.IntN.{ℤ}
use lib.Ieee.{Float, nan, inf, fin, binary64, up, down, eq, ne, lt, le, mul, neg}
use borrow.Author.Tests.{le-ltb, eq-eqb, ne_eqb, ltb-true, ltb-false}
use Rattle.leaves.specs.Number.{abs_of}

no : false ≡ true → ⊥
no h = subst T (sym h) tt

no' : true ≡ false → ⊥
no' h = subst T h tt

-- above r
pub up_abs : (a : ℕ) (d : ℤ) (x : Float) → lt (fin false a d) x ≡ true → abs_of x ≡ x
unfolding lt abs_of
up_abs a d nan h = refl
up_abs a d (inf true) h = absurd (no h)
up_abs a d (inf false) h = refl
up_abs a d (fin true m e) h = absurd (no h)
up_abs a d (fin false m e) h = refl

over : (x y : ℕ) (b : Bool) → ltb y x ≡ true → (ltb x y || (eqb x y && b)) ≡ false
over x y b h = let l : y < x = ltb-true y x h in rw (le-ltb x y (omega arith), ne_eqb x y (λ (e : x ≡ y). omega arith))

pub up_le : (a : ℕ) (d : ℤ) (x : Float) → lt (fin false a d) x ≡ true → le x (fin false a d) ≡ false
unfolding lt le eq
up_le a d nan h = refl
up_le a d (inf true) h = absurd (no h)
up_le a d (inf false) h = refl
up_le a d (fin true m e) h = absurd (no h)
up_le a d (fin false m e) h = over (m * up e * down d) (a * up d * down e) _ h

-- below minus r
pub down_abs : (a : ℕ) (d : ℤ) (x : Float) → lt x (fin true a d) ≡ true → abs_of x ≡ neg x
unfolding lt abs_of neg
down_abs a d nan h = absurd (no h)
down_abs a d (inf true) h = refl
down_abs a d (inf false) h = absurd (no h)
down_abs a d (fin true m e) h = refl
down_abs a d (fin false m e) h = absurd (no h)

pub down_lt : (a : ℕ) (d : ℤ) (x : Float) → lt (fin false a d) (neg x) ≡ lt x (fin true a d)
unfolding lt neg
down_lt a d nan = refl
down_lt a d (inf true) = refl
down_lt a d (inf false) = refl
down_lt a d (fin true m e) = refl
down_lt a d (fin false m e) = refl

pub mirror_lt : (g x : Float) → lt (neg x) g ≡ lt (neg g) x
unfolding lt neg
mirror_lt nan nan = refl
mirror_lt nan (inf s) = refl
mirror_lt nan (fin s m e) = refl
mirror_lt (inf true) nan = refl
mirror_lt (inf false) nan = refl
mirror_lt (inf true) (inf true) = refl
mirror_lt (inf true) (inf false) = refl
mirror_lt (inf false) (inf true) = refl
mirror_lt (inf false) (inf false) = refl
mirror_lt (inf true) (fin s m e) = refl
mirror_lt (inf false) (fin s m e) = refl
mirror_lt (fin s m e) nan = refl
mirror_lt (fin s m e) (inf true) = refl
mirror_lt (fin s m e) (inf false) = refl
mirror_lt (fin true a d) (fin true m e) = refl
mirror_lt (fin true a d) (fin false m e) = refl
mirror_lt (fin false a d) (fin true m e) = refl
mirror_lt (fin false a d) (fin false m e) = ap (λ (k : ℕ). ltb 0 k) (add_comm (m * up e * down d) (a * up d * down e))

pub square_neg : (x : Float) → mul binary64 (neg x) (neg x) ≡ mul binary64 x x
unfolding mul neg
square_neg nan = refl
square_neg (inf true) = refl
square_neg (inf false) = refl
square_neg (fin true m e) = refl
square_neg (fin false m e) = refl

-- between the two
under : (x y : ℕ) → ltb y x ≡ false → (ltb x y || (eqb x y && true)) ≡ true
under x y h = go (ltb x y) refl
  where
    go : (b : Bool) → ltb x y ≡ b → (b || (eqb x y && true)) ≡ true
    go true e = refl
    go false e =
        let p : x ≤ y = ltb-false y x h in
        let q : y ≤ x = ltb-false x y e in
        rw (eq-eqb x y (omega arith))

pub between_le : (a : ℕ) (d : ℤ) (x : Float) → lt (fin false a d) x ≡ false → lt x (fin true a d) ≡ false → ne x x ≡ false → le (abs_of x) (fin false a d) ≡ true
unfolding lt le eq ne abs_of
between_le a d nan h k n = absurd (no' n)
between_le a d (inf true) h k n = absurd (no' k)
between_le a d (inf false) h k n = absurd (no' h)
between_le a d (fin true m e) h k n = under (m * up e * down d) (a * up d * down e) k
between_le a d (fin false m e) h k n = under (m * up e * down d) (a * up d * down e) h

pub between_not : (a : ℕ) (d : ℤ) (x : Float) → lt (fin false a d) x ≡ false → lt x (fin true a d) ≡ false → lt (fin false a d) (abs_of x) ≡ false
unfolding lt abs_of
between_not a d nan h k = refl
between_not a d (inf true) h k = absurd (no' k)
between_not a d (inf false) h k = absurd (no' h)
between_not a d (fin true m e) h k = k
between_not a d (fin false m e) h k = h
