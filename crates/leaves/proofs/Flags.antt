-- 02, #106: the flags that the norm reads off its sums are those of the rule's words, for any numbers, NaN too (`flags_of-sums`). Where
-- neither is set the norm is the root of s2 alone: `proofs/Plain.antt`. Assumes nothing.
use mathlib.Core.Path.{◌≡◌, refl, sym, ap, subst, ◌∙◌}
use mathlib.Core.Bool.{Bool, true, false, cond, not, ◌&&◌, ◌||◌, true≢false}
use mathlib.Core.List.{List, [], ◌∷◌}
use Prim.Native.Nat.{ℕ, zero, suc, ◌+◌, ◌-◌, ◌*◌, ◌<◌, ◌≤◌}
use native.Mathlib.Nat.{mul-pos, mul-le-mul_right}
use native.Mathlib.Omega.{arith}
use lib.Dec.{T, ltb, eqb}
use lib.IntN.{ℤ, pos}
use lib.ListN.{length}
use lib.Ieee.{Float, nan, inf, fin, binary64, up, down, add, mul, div, lt, le, eq, ne, sum, round}
use lib.Ieee.Fits.{up_pos, down_pos}
use lib.Ieee.Order.{round_mono}
use borrow.Author.Tests.{lt-ltb, le-ltb, ne_eqb, ltb-true, eqb-true}
use Rattle.leaves.specs.Number.{plus_zero, one, abs_of, square_of}
use Rattle.leaves.specs.Norm.{rdwarf, agiant, middle, small, large, add_in, step, accumulate, none, is_small, is_large, any, flags, ranges}
use Rattle.leaves.specs.inner.Flags.{flags_of}
use Rattle.leaves.specs.declared.norm.Sums.{Sums}
use Rattle.leaves.proofs.Signs.{zero_equal, not_zero}
use Rattle.leaves.proofs.norm.Sides.{up_le}
use Rattle.leaves.proofs.Normed.{arms, add_nan, round_side, mul_side}
use Rattle.leaves.proofs.root.Signs.{Side, no_number, endless, minus_zero, plain}

no : {X : Type 0} → false ≡ true → X
no h = absurd (true≢false (sym h))

pub or_false : (b : Bool) → (b || false) ≡ b
or_false true = refl
or_false false = refl

or_true : (b : Bool) → (b || true) ≡ true
or_true true = refl
or_true false = refl

pub or-more : (a b c : Bool) → ((a || b) || c) ≡ (a || (b || c))
or-more true b c = refl
or-more false b c = refl

-- ---- which sum an entry goes to, and the flags it sets
one_of : (g : Float) (t : Sums) (x : Float) (P : Sums → Bool → Bool → Type 0)
    → (lt rdwarf (abs_of x) ≡ true → P (middle t (abs_of x)) false false)
    → (le (abs_of x) rdwarf ≡ true → P (small t (abs_of x)) (ne x plus_zero) false)
    → (le (abs_of x) rdwarf ≡ false → P (large t (abs_of x)) false true)
    → P (step g t x) (is_small x) (is_large g x)
unfolding add_in is_small is_large rdwarf round
one_of g t x P m s l = go (lt rdwarf (abs_of x)) (lt (abs_of x) g) (le (abs_of x) rdwarf) refl refl refl
  where
    go : (a b c : Bool) → lt rdwarf (abs_of x) ≡ a → lt (abs_of x) g ≡ b → le (abs_of x) rdwarf ≡ c
        → P (cond (lt rdwarf (abs_of x) && lt (abs_of x) g) (middle t (abs_of x)) (cond (le (abs_of x) rdwarf) (small t (abs_of x)) (large t (abs_of x))))
        (le (abs_of x) rdwarf && ne x plus_zero) (not (lt rdwarf (abs_of x) && lt (abs_of x) g) && not (le (abs_of x) rdwarf))
    go true true true p q r = absurd (true≢false (sym r ∙ up_le _ _ (abs_of x) p))
    go true true false p q r = rw (p, q, r) (m p)
    go true false true p q r = rw (p, q, r) (s r)
    go true false false p q r = rw (p, q, r) (l r)
    go false true true p q r = rw (p, r) (s r)
    go false true false p q r = rw (p, r) (l r)
    go false false true p q r = rw (p, r) (s r)
    go false false false p q r = rw (p, r) (l r)

-- ---- small: the largest small entry and their sum are +0 as long as there was none, and the largest is above zero from the first on
data SmallSeen : Float → Float → Bool → Type 0 where
  nothing : SmallSeen plus_zero plus_zero false
  something : {x s : Float} → lt plus_zero x ≡ true → SmallSeen x s true

above_zero : (m : ℕ) (e : ℤ) → lt plus_zero (fin false (suc m) e) ≡ true
unfolding lt
above_zero m e =
    let p : 0 < suc m * up e = mul-pos (omega arith) (up_pos e) in
    lt-ltb (0 * down e) (suc m * up e * 1) (omega arith)

-- nothing that is not below zero is below a zero
side_zero : (x : Float) (e : ℤ) → lt plus_zero x ≡ true → lt x (fin false 0 e) ≡ false
unfolding lt
side_zero nan e h = refl
side_zero (inf true) e h = no h
side_zero (inf false) e h = refl
side_zero (fin true m d) e h = no h
side_zero (fin false m d) e h = le-ltb (m * up d * down e) (0 * up e * down d) (omega arith)

zero-zero : (e : ℤ) → lt plus_zero (fin false 0 e) ≡ false
unfolding lt
zero-zero e = le-ltb (0 * down e) (0 * up e * 1) (omega arith)

-- a zero changes nothing; another small entry is seen
small_zero : (t : Sums) (p : Bool) (e : ℤ) → SmallSeen t.x3max t.s3 p → small t (fin false 0 e) ≡ t
unfolding small
small_zero t p e h = rw (under t.x3max t.s3 p h, zero_equal false e)
  where
    under : (y s : Float) (q : Bool) → SmallSeen y s q → lt y (fin false 0 e) ≡ false
    under y s q nothing = zero-zero e
    under y s q (something k) = side_zero y e k

small_more : (t : Sums) (p : Bool) (m : ℕ) (e : ℤ) → SmallSeen t.x3max t.s3 p → SmallSeen (small t (fin false (suc m) e)).x3max (small t (fin false (suc m) e)).s3 true
unfolding small
small_more t p m e h = go (lt t.x3max (fin false (suc m) e)) refl
  where
    left : (y s z : Float) (q : Bool) → SmallSeen y s q → lt y (fin false (suc m) e) ≡ false → SmallSeen y z true
    left y s z q nothing k = absurd (true≢false (sym (above_zero m e) ∙ k))
    left y s z q (something u) k = something u

    go : (b : Bool) → lt t.x3max (fin false (suc m) e) ≡ b → SmallSeen (small t (fin false (suc m) e)).x3max (small t (fin false (suc m) e)).s3 true
    go true k = rw (k, small) (something (above_zero m e))
    go false k = rw (k, not_zero false m e, small) (left t.x3max t.s3 _ p h k)

small_in : (t : Sums) (p : Bool) (x : Float) → le (abs_of x) rdwarf ≡ true → SmallSeen t.x3max t.s3 p → SmallSeen (small t (abs_of x)).x3max (small t (abs_of x)).s3 (p || ne x plus_zero)
unfolding abs_of ne rdwarf round le lt eq
small_in t p nan l h = no l
small_in t p (inf s) l h = no l
small_in t p (fin s zero e) l h = rw (small_zero t p e h, zero_equal s e, or_false p) h
small_in t p (fin s (suc m) e) l h = rw (not_zero s m e, or_true p) (small_more t p m e h)

small_left : (t : Sums) (v : Float) (P : Float → Float → Type 0) → P t.s1 t.x1max → P (small t v).s1 (small t v).x1max
unfolding small
small_left t v P h = arms (λ (u : Sums). P u.s1 u.x1max) (lt t.x3max v) h (arms (λ (u : Sums). P u.s1 u.x1max) (eq v plus_zero) h h)

-- ---- large: the sum is +0 as long as there was none, and at least 1, or NaN, from the first on
data Over : Float → Type 0 where
  lost : Over nan
  endless_over : Over (inf false)
  more : {m : ℕ} {e : ℤ} → down e ≤ m * up e → Over (fin false m e)

over_side : {x : Float} → Over x → Side x
over_side lost = no_number
over_side endless_over = endless
over_side (more h) = plain

-- what is at least 1
at_most : (x y : ℕ) → T (ltb x y || (eqb x y && true)) → x ≤ y
at_most x y h = go (ltb x y) (eqb x y) refl refl h
  where
    go : (a b : Bool) → ltb x y ≡ a → eqb x y ≡ b → T (a || (b && true)) → x ≤ y
    go true b p q h = let l : x < y = ltb-true x y p in omega arith
    go false true p q h = let l : x ≡ y = eqb-true x y q in omega arith
    go false false p q h = absurd h

not_level : (x y : ℕ) → 0 < x → y ≡ 0 → T (eqb x y && eqb x 0) → ⊥
not_level x y p e h = absurd (rw (ne_eqb x y (λ (q : x ≡ y). omega arith)) at h)

at_least : {x : Float} → Side x → T (le one x) → Over x
unfolding le lt eq
at_least no_number h = absurd h
at_least endless h = endless_over
at_least (minus_zero {e}) h = absurd (not_level (1 * down e) (0 * up e * 1) (omega (arith, down_pos e)) (omega arith) h)
at_least (plain {m} {e}) h = more {m = m} {e = e} (let l : 1 * down e ≤ m * up e * 1 = at_most (1 * down e) (m * up e * 1) h in omega arith)

round_over : (a c : ℕ) → 0 < c → c ≤ a → Over (round binary64 false a c)
unfolding round
round_over a c p h = at_least (round_side a c) (round_mono binary64 1 1 a c (omega arith) p (omega arith))

-- more of something that is not below zero
add_over : {x y : Float} → Over x → Side y → Over (add binary64 x y)
unfolding add sum
add_over lost q = lost
add_over endless_over no_number = lost
add_over endless_over endless = endless_over
add_over endless_over minus_zero = endless_over
add_over endless_over plain = endless_over
add_over (more h) no_number = lost
add_over (more h) endless = endless_over
add_over (more {m} {e} h) (minus_zero {e = d}) =
    let l : down e * down d ≤ m * up e * down d = mul-le-mul_right (down d) h in
    rw (le-ltb (m * up e * down d) (0 * up d * down e) (omega arith))
    (round_over (m * up e * down d - 0 * up d * down e) (down e * down d) (mul-pos (down_pos e) (down_pos d)) (omega arith))
add_over (more {m} {e} h) (plain {m = n} {e = d}) =
    let l : down e * down d ≤ m * up e * down d = mul-le-mul_right (down d) h in
    round_over (m * up e * down d + n * up d * down e) (down e * down d) (mul-pos (down_pos e) (down_pos d)) (omega arith)

square_side : (x : Float) → Side (square_of x)
unfolding square_of mul
square_side nan = no_number
square_side (inf true) = endless
square_side (inf false) = endless
square_side (fin true m e) = round_side (m * up e * (m * up e)) (down e * down e)
square_side (fin false m e) = round_side (m * up e * (m * up e)) (down e * down e)

data LargeSeen : Float → Float → Bool → Type 0 where
  none_large : LargeSeen plus_zero plus_zero false
  some_large : {s x : Float} → Over s → LargeSeen s x true

seen_side : {s x : Float} {q : Bool} → LargeSeen s x q → Side s
seen_side none_large = plain
seen_side (some_large o) = over_side o

one_over : Over one
one_over = more {m = 1} {e = pos 0} (omega arith)

-- the first large entry is above zero, or NaN
zero_under : (a : ℕ) (d e : ℤ) → 0 < a → le (fin false 0 e) (fin false a d) ≡ true
unfolding le lt
zero_under a d e h = let p : 0 < a * up d * down e = mul-pos (mul-pos h (up_pos d)) (down_pos e) in rw (lt-ltb (0 * up e * down d) (a * up d * down e) (omega arith))

first_large : (x : Float) → le (abs_of x) rdwarf ≡ false → lt plus_zero (abs_of x) ≡ false → Over (add binary64 plus_zero (square_of (div binary64 (abs_of x) plus_zero)))
unfolding abs_of rdwarf round square_of div mul lt
first_large nan l h = subst Over (sym (add_nan plus_zero)) lost
first_large (inf s) l h = absurd (true≢false h)
first_large (fin s zero e) l h = absurd (true≢false (sym (zero_under _ _ e (omega arith)) ∙ l))
first_large (fin s (suc m) e) l h = absurd (true≢false (sym (above_zero m e) ∙ h))

not_larger : {s y : Float} {q : Bool} (x : Float) → le (abs_of x) rdwarf ≡ false → LargeSeen s y q → lt y (abs_of x) ≡ false → Over (add binary64 s (square_of (div binary64 (abs_of x) y)))
not_larger x l none_large h = first_large x l h
not_larger x l (some_large o) h = add_over o (square_side _)

large_in : (t : Sums) (x : Float) (q : Bool) → le (abs_of x) rdwarf ≡ false → LargeSeen t.s1 t.x1max q → LargeSeen (large t (abs_of x)).s1 (large t (abs_of x)).x1max true
unfolding large
large_in t x q l h = go (lt t.x1max (abs_of x)) refl
  where
    go : (b : Bool) → lt t.x1max (abs_of x) ≡ b → LargeSeen (large t (abs_of x)).s1 (large t (abs_of x)).x1max true
    go true k = rw (k, large) (some_large (add_over one_over (mul_side (seen_side h) (square_side _))))
    go false k = rw (k, large) (some_large (not_larger x l h k))

large_left : (t : Sums) (v : Float) (P : Float → Float → Type 0) → P t.x3max t.s3 → P (large t v).x3max (large t v).s3
unfolding large
large_left t v P h = arms (λ (u : Sums). P u.x3max u.s3) (lt t.x1max v) h h

-- ---- both, over all entries
abbrev Seen : Sums → Bool → Bool → Type 0
Seen t p q = SmallSeen t.x3max t.s3 p × LargeSeen t.s1 t.x1max q

seen_step : (g : Float) (t : Sums) (p q : Bool) (x : Float) → Seen t p q → Seen (step g t x) (p || is_small x) (q || is_large g x)
unfolding middle
seen_step g t p q x h =
    one_of g t x (λ u s l. Seen u (p || s) (q || l))
    (λ k. rw (or_false p, or_false q) h)
    (λ k. rw (or_false q) (small_in t p x k h.0, small_left t (abs_of x) (λ s y. LargeSeen s y q) h.1))
    (λ k. rw (or_false p, or_true q) (large_left t (abs_of x) (λ y s. SmallSeen y s p) h.0, large_in t x q k h.1))

seen_all : (g : Float) (t : Sums) (p q : Bool) (xs : List Float) → Seen t p q → Seen (accumulate g t xs) (p || any is_small xs) (q || any (is_large g) xs)
unfolding accumulate any
seen_all g t p q [] h = rw (or_false p, or_false q) h
seen_all g t p q (x ∷ xs) h =
    rw (← or-more p (is_small x) (any is_small xs), ← or-more q (is_large g x) (any (is_large g) xs))
    (seen_all g (step g t x) (p || is_small x) (q || is_large g x) xs (seen_step g t p q x h))

-- ---- the code's reading
small_told : {x s : Float} {p : Bool} → SmallSeen x s p → ne x plus_zero ≡ p
unfolding ne eq lt
small_told nothing = refl
small_told (something {x} h) = ap not (above x h)
  where
    above : (y : Float) → lt plus_zero y ≡ true → eq y plus_zero ≡ false
    above nan h = no h
    above (inf s) h = refl
    above (fin true zero e) h = no h
    above (fin false zero e) h = no (sym (zero-zero e) ∙ h)
    above (fin s (suc m) e) h = not_zero s m e

large_told : {s x : Float} {q : Bool} → LargeSeen s x q → ne s plus_zero ≡ q
unfolding ne eq
large_told none_large = refl
large_told (some_large lost) = refl
large_told (some_large endless_over) = refl
large_told (some_large (more {m = zero} {e} h)) = absurd (let p : 0 < down e = down_pos e in omega arith)
large_told (some_large (more {m = suc m} {e} h)) = ap not (not_zero false m e)

-- LAW: the largest small entry is not zero exactly where a small entry took part, and the sum of the large ones exactly where a large one did
pub flags_of-sums : (g : Float) (xs : List Float) → flags_of (accumulate g none xs) ≡ flags (any is_small xs) (any (is_large g) xs)
flags_of-sums g xs =
    let h = seen_all g none false false xs (nothing, none_large) in
    rw (small_told h.0, large_told h.1) refl

pub ranges_are : (v : List Float) (g : Float) (t : Sums) → g ≡ agiant (length v) → t ≡ accumulate g none v → flags_of t ≡ ranges v
unfolding ranges
ranges_are v g t e h = ap flags_of h ∙ flags_of-sums g v ∙ ap (λ (x : Float). flags (any is_small v) (any (is_large x) v)) e

-- ---- and where neither is set: nothing went to the small or to the large sums
pub record Plain (t : Sums) : Type 0 where
  pub no_large : t.s1 ≡ plus_zero
  pub no_small : t.x3max ≡ plus_zero
  pub no_sum : t.s3 ≡ plus_zero

small_none : {x s : Float} {p : Bool} → SmallSeen x s p → p ≡ false → (x ≡ plus_zero) × (s ≡ plus_zero)
small_none nothing e = (refl, refl)
small_none (something h) e = absurd (true≢false e)

large_none : {s x : Float} {q : Bool} → LargeSeen s x q → q ≡ false → s ≡ plus_zero
large_none none_large e = refl
large_none (some_large o) e = absurd (true≢false e)

pub plain_sums : (g : Float) (xs : List Float) → any is_small xs ≡ false → any (is_large g) xs ≡ false → Plain (accumulate g none xs)
plain_sums g xs s l =
    let h = seen_all g none false false xs (nothing, none_large) in
    let a = small_none h.0 s in
    record { no_large = large_none h.1 l; no_small = a.0; no_sum = a.1 }
