-- An absolute value is below a number, or at most that number, where what it is taken of lies between the number and its opposite: of every two floats. Assumes nothing.
use mathlib.Core.Path.{◌≡◌, refl, sym, ap, ◌∙◌}
use mathlib.Core.Bool.{Bool, true, false, ◌&&◌, ◌||◌}
use Prim.Native.Nat.{ℕ, ◌+◌, ◌*◌, ◌<◌, ◌≤◌}
use native.Mathlib.Omega.{arith}
use lib.Dec.{ltb, eqb}
use lib.Ieee.{Float, nan, inf, fin, up, down, eq, lt, le, neg}
use borrow.Author.Tests.{lt-ltb, le-ltb, eq-eqb, ne_eqb, ltb-true, ltb-false, eqb-false}
use Rattle.leaves.specs.Number.{abs_of}

and_false : (b : Bool) → (b && false) ≡ false
and_false true = refl
and_false false = refl

and_true : (b : Bool) → (b && true) ≡ b
and_true true = refl
and_true false = refl

or_true : (b : Bool) → (b || true) ≡ true
or_true true = refl
or_true false = refl

three : (P : Type 0) (x a : ℕ) → (x < a → P) → (x ≡ a → P) → (a < x → P) → P
three P x a l e m = go (ltb x a) refl (ltb a x) refl
  where
    go : (b : Bool) → ltb x a ≡ b → (c : Bool) → ltb a x ≡ c → P
    go true h c k = l (ltb-true x a h)
    go false h true k = m (ltb-true a x k)
    go false h false k =
        let p : a ≤ x = ltb-false x a h in
        let q : x ≤ a = ltb-false a x k in
        e (omega arith)

-- ---- below, by the magnitudes x and a: x before a minus, then without
lt_minus : (x a : ℕ) → ltb x a ≡ (ltb x a && ltb 0 (x + a))
lt_minus x a = go (ltb x a) refl
  where
    go : (b : Bool) → ltb x a ≡ b → b ≡ (b && ltb 0 (x + a))
    go true h = let l : x < a = ltb-true x a h in sym (lt-ltb 0 (x + a) (omega arith))
    go false h = refl

lt_plus : (x a : ℕ) → ltb x a ≡ (ltb 0 (a + x) && ltb x a)
lt_plus x a = go (ltb x a) refl
  where
    go : (b : Bool) → ltb x a ≡ b → b ≡ (ltb 0 (a + x) && b)
    go true h = let l : x < a = ltb-true x a h in rw (lt-ltb 0 (a + x) (omega arith))
    go false h = sym (and_false (ltb 0 (a + x)))

abs_lt : (x a : Float) → lt (abs_of x) a ≡ (lt (neg a) x && lt x a)
unfolding lt abs_of neg
abs_lt nan nan = refl
abs_lt nan (inf t) = refl
abs_lt nan (fin t n d) = refl
abs_lt (inf s) nan = refl
abs_lt (inf true) (inf true) = refl
abs_lt (inf true) (inf false) = refl
abs_lt (inf false) (inf true) = refl
abs_lt (inf false) (inf false) = refl
abs_lt (inf true) (fin t n d) = refl
abs_lt (inf false) (fin t n d) = refl
abs_lt (fin s m e) nan = refl
abs_lt (fin s m e) (inf true) = refl
abs_lt (fin s m e) (inf false) = refl
abs_lt (fin true m e) (fin true n d) = refl
abs_lt (fin false m e) (fin true n d) = sym (and_false (ltb (n * up d * down e) (m * up e * down d)))
abs_lt (fin true m e) (fin false n d) = lt_minus (m * up e * down d) (n * up d * down e)
abs_lt (fin false m e) (fin false n d) = lt_plus (m * up e * down d) (n * up d * down e)

-- ---- at most: the same, first under a minus
none_or_some : (x a : ℕ) → (ltb 0 (x + a) || eqb x 0) ≡ true
none_or_some x a = go (eqb x 0) refl
  where
    go : (b : Bool) → eqb x 0 ≡ b → (ltb 0 (x + a) || b) ≡ true
    go true h = or_true (ltb 0 (x + a))
    go false h = let p : x ≡ 0 → ⊥ = eqb-false x 0 h in rw (lt-ltb 0 (x + a) (omega arith))

apart_lt : (x a : ℕ) → x < a → eqb x a ≡ false
apart_lt x a l = ne_eqb x a (λ (p : x ≡ a). omega arith)

apart_gt : (x a : ℕ) → a < x → eqb x a ≡ false
apart_gt x a l = ne_eqb x a (λ (p : x ≡ a). omega arith)

le_minus_minus : (x a : ℕ) → (eqb x a && eqb x 0) ≡ ((eqb a x && eqb a 0) && (ltb a x || (eqb x a && true)))
le_minus_minus x a =
    three
    _
    x
    a
    (λ (l : x < a). rw (apart_lt x a l, apart_gt a x l))
    (λ (p : x ≡ a). rw (eq-eqb x a p, eq-eqb a x (sym p), le-ltb a x (omega arith)) (rw p (sym (and_true (eqb a 0)))))
    (λ (l : a < x). rw (apart_gt x a l, apart_lt a x l))

le_plus_minus : (x a : ℕ) → (eqb x a && eqb x 0) ≡ ((ltb a x || (eqb a x && true)) && (eqb x a && eqb x 0))
le_plus_minus x a =
    three
    _
    x
    a
    (λ (l : x < a). rw (apart_lt x a l, apart_gt a x l, le-ltb a x (omega arith)))
    (λ (p : x ≡ a). rw (eq-eqb x a p, eq-eqb a x (sym p), le-ltb a x (omega arith)))
    (λ (l : a < x). rw (apart_gt x a l, lt-ltb a x l))

le_minus_plus : (x a : ℕ) → (ltb x a || (eqb x a && true)) ≡ ((ltb x a || (eqb a x && true)) && (ltb 0 (x + a) || (eqb x a && eqb x 0)))
le_minus_plus x a =
    three
    _
    x
    a
    (λ (l : x < a). rw (lt-ltb x a l, lt-ltb 0 (x + a) (omega arith)))
    (λ (p : x ≡ a). rw (eq-eqb x a p, eq-eqb a x (sym p), le-ltb x a (omega arith)) (sym (none_or_some x a)))
    (λ (l : a < x). rw (apart_gt x a l, apart_lt a x l, le-ltb x a (omega arith)))

le_plus_plus : (x a : ℕ) → (ltb x a || (eqb x a && true)) ≡ ((ltb 0 (a + x) || (eqb a x && eqb a 0)) && (ltb x a || (eqb x a && true)))
le_plus_plus x a =
    three
    _
    x
    a
    (λ (l : x < a). rw (lt-ltb x a l, lt-ltb 0 (a + x) (omega arith)))
    (λ (p : x ≡ a). rw (eq-eqb x a p, eq-eqb a x (sym p), le-ltb x a (omega arith)) (rw (none_or_some a x)))
    (λ (l : a < x). rw (apart_gt x a l, le-ltb x a (omega arith)) (sym (and_false (ltb 0 (a + x) || (eqb a x && eqb a 0)))))

abs_le : (x a : Float) → le (abs_of x) a ≡ (le (neg a) x && le x a)
unfolding lt le eq abs_of neg
abs_le nan nan = refl
abs_le nan (inf t) = refl
abs_le nan (fin t n d) = refl
abs_le (inf s) nan = refl
abs_le (inf true) (inf true) = refl
abs_le (inf true) (inf false) = refl
abs_le (inf false) (inf true) = refl
abs_le (inf false) (inf false) = refl
abs_le (inf true) (fin t n d) = refl
abs_le (inf false) (fin t n d) = refl
abs_le (fin s m e) nan = refl
abs_le (fin s m e) (inf true) = refl
abs_le (fin s m e) (inf false) = refl
abs_le (fin true m e) (fin true n d) = le_minus_minus (m * up e * down d) (n * up d * down e)
abs_le (fin false m e) (fin true n d) = le_plus_minus (m * up e * down d) (n * up d * down e)
abs_le (fin true m e) (fin false n d) = le_minus_plus (m * up e * down d) (n * up d * down e)
abs_le (fin false m e) (fin false n d) = le_plus_plus (m * up e * down d) (n * up d * down e)

-- ---- by the first of the two tests
pub below_if : (x a : Float) → lt (neg a) x ≡ true → lt x a ≡ lt (abs_of x) a
below_if x a h = sym (abs_lt x a ∙ ap (λ (b : Bool). b && lt x a) h)

pub below_not : (x a : Float) → lt (neg a) x ≡ false → false ≡ lt (abs_of x) a
below_not x a h = sym (abs_lt x a ∙ ap (λ (b : Bool). b && lt x a) h)

pub within_if : (x a : Float) → le (neg a) x ≡ true → le x a ≡ le (abs_of x) a
within_if x a h = sym (abs_le x a ∙ ap (λ (b : Bool). b && le x a) h)

pub within_not : (x a : Float) → le (neg a) x ≡ false → false ≡ le (abs_of x) a
within_not x a h = sym (abs_le x a ∙ ap (λ (b : Bool). b && le x a) h)
