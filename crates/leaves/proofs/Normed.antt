-- What a norm says of the numbers it is taken of (01, 'Leaf rules', enorm): a norm is finite only where every entry is, it is NaN where an entry is, and it is
-- never below zero. So refusal 8 for a norm that is not finite covers its entries too, and the tests against zero that follow a norm need no sign. Assumes nothing.
use mathlib.Core.Path.{◌≡◌, refl, sym, ap, subst, ◌∙◌}
use mathlib.Core.Bool.{Bool, true, false, cond, ◌&&◌, true≢false}
use mathlib.Core.List.{List, [], ◌∷◌}
use mathlib.Core.Logic.{◌⊎◌, inl, inr, ⊎_map}
use Prim.Native.Nat.{ℕ, zero, suc, ◌*◌, ◌^◌, ◌<◌}
use native.Mathlib.Nat.{not-suc-le-zero, le_of_suc-le-suc, mul-pos}
use native.Mathlib.Omega.{arith}
use lib.Dec.{eqb, ltb}
use lib.IntN.{ℤ, pos}
use lib.ListN.{length, get_or}
use lib.Ieee.{Float, nan, inf, fin, binary64, up, down, add, mul, div, lt, le, eq, ne, is_nan, units, round}
use lib.Ieee.Compare.{nan_differs}
use lib.Ieee.Fits.{down_pos, round_is}
use lib.Ieee.Scale.{round_same}
use Rattle.leaves.specs.Number.{plus_zero, one, abs_of, square_of, is_finite}
use Rattle.leaves.specs.Norm.{rdwarf, agiant, sums, middle, small, large, add_in, step, accumulate, none, finish_large, finish_middle, finish_small, finish, norm}
use Rattle.leaves.specs.Root.{root_s}
use Rattle.leaves.specs.Product.{product_all}
use Rattle.leaves.specs.declared.norm.Sums.{Sums}
use Rattle.leaves.proofs.Products.{product-length}
use Rattle.leaves.proofs.Norms.{nan_step}
use Rattle.leaves.proofs.root.Signs.{Side, no_number, endless, minus_zero, plain, odd_side, root_side, side_not_negative}

-- what holds of both arms of a test
pub arms : {A : Type 0} (P : A → Type 0) (b : Bool) {x y : A} → P x → P y → P (cond b x y)
arms P true p q = p
arms P false p q = q

-- an entry is added to one of the three sums
pub in_one : (P : Sums → Type 0) (g : Float) (t : Sums) (v : Float) → P (middle t v) → P (small t v) → P (large t v) → P (add_in g t v)
unfolding add_in
in_one P g t v m s l = arms P (lt rdwarf v && lt v g) m (arms P (le v rdwarf) s l)

-- ---- a zero, rounded
zero_over_one : (s : Bool) → round binary64 s 0 1 ≡ fin s 0 (pos 0)
unfolding round
zero_over_one true = refl
zero_over_one false = refl

pub round_zero : (s : Bool) (a b : ℕ) → 0 < b → a ≡ 0 → round binary64 s a b ≡ fin s 0 (pos 0)
round_zero s a b h e = round_same binary64 s a b 0 1 h (omega arith) (omega arith) ∙ zero_over_one s

-- ---- a NaN goes through every operation
pub add_nan : (x : Float) → add binary64 x nan ≡ nan
unfolding add
add_nan nan = refl
add_nan (inf s) = refl
add_nan (fin s m e) = refl

pub mul_nan : (x : Float) → mul binary64 x nan ≡ nan
unfolding mul
mul_nan nan = refl
mul_nan (inf s) = refl
mul_nan (fin s m e) = refl

-- ---- what an entry that is not finite leaves, whatever the sums were before: no norm that is finite can come of it
abbrev Spoiled : Sums → Type 0
Spoiled t = (t.s1 ≡ nan) ⊎ ((t.s1 ≡ one) × (t.x1max ≡ inf false))

square_zero : (s : Bool) → square_of (fin s 0 (pos 0)) ≡ plus_zero
unfolding square_of mul round
square_zero true = refl
square_zero false = refl

one_and_zero : (s : Bool) → add binary64 one (fin s 0 (pos 0)) ≡ one
unfolding add round
one_and_zero true = refl
one_and_zero false = refl

-- 1 + x·(+0) is 1, and NaN where x is not finite
one_more : (x : Float) → (add binary64 one (mul binary64 x plus_zero) ≡ nan) ⊎ (add binary64 one (mul binary64 x plus_zero) ≡ one)
unfolding mul
one_more nan = inl (add_nan one)
one_more (inf s) = inl (add_nan one)
one_more (fin s m e) =
    inr (ap (λ (y : Float). add binary64 one y) (round_zero _ (m * up e * (0 * 1)) (down e * 1) (omega (arith, down_pos e)) (omega arith)) ∙ one_and_zero _)

-- an infinity is large, whatever the limit
infinity_large : (g : Float) (t : Sums) → add_in g t (inf false) ≡ large t (inf false)
unfolding add_in rdwarf round lt le eq
infinity_large nan t = refl
infinity_large (inf s) t = refl
infinity_large (fin s m e) t = refl

infinity_spoils : (s1 s2 s3 x1 x3 : Float) → Spoiled (large (sums s1 s2 s3 x1 x3) (inf false))
unfolding large lt div mul square_of
infinity_spoils s1 s2 s3 nan x3 = inl (add_nan s1)
infinity_spoils s1 s2 s3 (inf true) x3 = inl (ap (λ (y : Float). add binary64 one y) (mul_nan s1) ∙ add_nan one)
infinity_spoils s1 s2 s3 (inf false) x3 = inl (add_nan s1)
infinity_spoils s1 s2 s3 (fin s m e) x3 = rw (square_zero _) (⊎_map (λ q. q) (λ q. (q, refl)) (one_more s1))

-- a NaN leaves no number in s1
abbrev Lost : Sums → Type 0
Lost t = t.s1 ≡ nan

nan_large : (s1 s2 s3 x1 x3 : Float) → Lost (large (sums s1 s2 s3 x1 x3) nan)
unfolding large lt div mul square_of
nan_large s1 s2 s3 nan x3 = add_nan s1
nan_large s1 s2 s3 (inf s) x3 = add_nan s1
nan_large s1 s2 s3 (fin s m e) x3 = add_nan s1

nan_loses : (g : Float) (t : Sums) → Lost (step g t nan)
nan_loses g t = subst Lost (nan_step g t nan nan_differs refl) (nan_large t.s1 t.s2 t.s3 t.x1max t.x3max)

spoils : (g : Float) (t : Sums) (x : Float) → is_finite x ≡ false → Spoiled (step g t x)
unfolding is_finite abs_of
spoils g t nan h = inl (nan_loses g t)
spoils g t (inf s) h = rw (infinity_large g t) (infinity_spoils t.s1 t.s2 t.s3 t.x1max t.x3max)
spoils g t (fin s m e) h = absurd (true≢false h)

-- a further entry leaves it so: a finite one over an infinity is a zero
stays_one : (s2 s3 x3 x : Float) → Spoiled (large (sums one s2 s3 (inf false) x3) (abs_of x))
unfolding abs_of large lt div mul square_of
stays_one s2 s3 x3 nan = inl (add_nan one)
stays_one s2 s3 x3 (inf s) = inl (add_nan one)
stays_one s2 s3 x3 (fin s m e) = inr (rw (square_zero false) (one_and_zero false), refl)

lost_large : (t : Sums) (x : Float) → Lost t → Lost (large t (abs_of x))
unfolding large add mul
lost_large t x e = arms Lost (lt t.x1max (abs_of x)) (rw e) (rw e)

stays_large : (t : Sums) (x : Float) → Spoiled t → Spoiled (large t (abs_of x))
stays_large t x (inl e) = inl (lost_large t x e)
stays_large t x (inr q) =
    let e : t ≡ sums one t.s2 t.s3 (inf false) t.x3max =
    ap (λ (y : Float). sums y t.s2 t.s3 t.x1max t.x3max) q.0 ∙ ap (λ (y : Float). sums one t.s2 t.s3 y t.x3max) q.1 in
    subst (λ (u : Sums). Spoiled (large u (abs_of x))) (sym e) (stays_one t.s2 t.s3 t.x3max x)

stays : (g : Float) (t : Sums) (x : Float) → Spoiled t → Spoiled (step g t x)
unfolding middle small
stays g t x h =
    in_one Spoiled g t (abs_of x) h (arms Spoiled (lt t.x3max (abs_of x)) h (arms Spoiled (eq (abs_of x) plus_zero) h h)) (stays_large t x h)

stays_all : (g : Float) (t : Sums) (xs : List Float) → Spoiled t → Spoiled (accumulate g t xs)
unfolding accumulate
stays_all g t [] h = h
stays_all g t (x ∷ xs) h = stays_all g (step g t x) xs (stays g t x h)

spoils_all : (g : Float) (t : Sums) (xs : List Float) (i : ℕ) → i < length xs → is_finite (get_or xs i nan) ≡ false → Spoiled (accumulate g t xs)
unfolding accumulate
spoils_all g t [] i h k = absurd (not-suc-le-zero h)
spoils_all g t (x ∷ xs) zero h k = stays_all g (step g t x) xs (spoils g t x k)
spoils_all g t (x ∷ xs) (suc i) h k = spoils_all g (step g t x) xs i (le_of_suc-le-suc h) k

-- and the result is not finite: NaN, or an infinity times something
infinity_times : (s : Bool) (y : Float) → is_finite (mul binary64 (inf s) y) ≡ false
unfolding is_finite mul
infinity_times s nan = refl
infinity_times s (inf t) = refl
infinity_times s (fin t m e) = arms (λ (z : Float). is_finite z ≡ false) (eqb m 0) refl refl

finish_spoiled : (t : Sums) → Spoiled t → is_finite (finish t) ≡ false
unfolding finish finish_large ne root_s add is_finite
finish_spoiled t (inl e) = rw (e, mul_nan t.x1max)
finish_spoiled t (inr q) = rw (q.0, q.1) (infinity_times false _)

pub norm_nonfinite : (xs : List Float) (i : ℕ) → i < length xs → is_finite (get_or xs i nan) ≡ false → is_finite (norm xs) ≡ false
unfolding norm
norm_nonfinite xs i h k = finish_spoiled (accumulate (agiant (length xs)) none xs) (spoils_all (agiant (length xs)) none xs i h k)

pub norm_entries : (xs : List Float) → is_finite (norm xs) ≡ true → (i : ℕ) → i < length xs → is_finite (get_or xs i nan) ≡ true
norm_entries xs h i k = go (is_finite (get_or xs i nan)) refl
  where
    go : (b : Bool) → is_finite (get_or xs i nan) ≡ b → b ≡ true
    go true e = refl
    go false e = absurd (true≢false (sym h ∙ norm_nonfinite xs i k e))

-- ---- and of numbers with a NaN among them it is NaN
lost_step : (g : Float) (t : Sums) (x : Float) → Lost t → Lost (step g t x)
unfolding middle small
lost_step g t x h = in_one Lost g t (abs_of x) h (arms Lost (lt t.x3max (abs_of x)) h (arms Lost (eq (abs_of x) plus_zero) h h)) (lost_large t x h)

lost_all : (g : Float) (t : Sums) (xs : List Float) → Lost t → Lost (accumulate g t xs)
unfolding accumulate
lost_all g t [] h = h
lost_all g t (x ∷ xs) h = lost_all g (step g t x) xs (lost_step g t x h)

nan_loses_all : (g : Float) (t : Sums) (xs : List Float) (i : ℕ) → i < length xs → is_nan (get_or xs i nan) ≡ true → Lost (accumulate g t xs)
unfolding accumulate is_nan
nan_loses_all g t [] i h k = absurd (not-suc-le-zero h)
nan_loses_all g t (nan ∷ xs) zero h k = lost_all g (step g t nan) xs (nan_loses g t)
nan_loses_all g t (inf s ∷ xs) zero h k = absurd (true≢false (sym k))
nan_loses_all g t (fin s m e ∷ xs) zero h k = absurd (true≢false (sym k))
nan_loses_all g t (x ∷ xs) (suc i) h k = nan_loses_all g (step g t x) xs i (le_of_suc-le-suc h) k

finish_lost : (t : Sums) → Lost t → finish t ≡ nan
unfolding finish finish_large ne root_s add
finish_lost t e = rw (e, mul_nan t.x1max)

pub nan_entry : (xs : List Float) (i : ℕ) → i < length xs → is_nan (get_or xs i nan) ≡ true → norm xs ≡ nan
unfolding norm
nan_entry xs i h k = finish_lost (accumulate (agiant (length xs)) none xs) (nan_loses_all (agiant (length xs)) none xs i h k)

-- ---- products: one with a factor that is not finite is not finite, whatever the other factor
times_nonfinite : (x y : Float) → is_finite x ≡ false → is_finite (mul binary64 x y) ≡ false
unfolding is_finite mul
times_nonfinite nan y h = refl
times_nonfinite (inf s) y h = infinity_times s y
times_nonfinite (fin s m e) y h = absurd (true≢false h)

product_nonfinite : (xs ys : List Float) (i : ℕ) → is_finite (get_or xs i nan) ≡ false → is_finite (get_or (product_all xs ys) i nan) ≡ false
unfolding product_all is_finite
product_nonfinite [] ys i h = refl
product_nonfinite (x ∷ xs) [] i h = refl
product_nonfinite (x ∷ xs) (y ∷ ys) zero h = times_nonfinite x y h
product_nonfinite (x ∷ xs) (y ∷ ys) (suc i) h = product_nonfinite xs ys i h

-- An infinity times a zero is a NaN, so that nothing is asked of the factors ds: a scaling entry may be zero.
pub norm_products : (ds ps : List Float) → length ps ≡ length ds → is_finite (norm (product_all ps ds)) ≡ true → (i : ℕ) → i < length ps → is_finite (get_or ps i nan) ≡ true
norm_products ds ps e h i k = go (is_finite (get_or ps i nan)) refl
  where
    go : (b : Bool) → is_finite (get_or ps i nan) ≡ b → b ≡ true
    go true q = refl
    go false q = absurd (true≢false (sym h ∙ norm_nonfinite (product_all ps ds) i (rw (product-length ps ds e) k) (product_nonfinite ps ds i q)))

-- ---- not below zero: NaN, +infinity, a zero of either sign, or finite with a clear sign
pub abs_side : (x : Float) → Side (abs_of x)
unfolding abs_of
abs_side nan = no_number
abs_side (inf s) = endless
abs_side (fin s m e) = plain

units_side : (q k : ℕ) → Side (units binary64 false q k)
unfolding units
units_side q k = arms Side (ltb (q * 2 ^ k) (2 ^ 2098)) (odd_side 54 q k 1074) endless

pub round_side : (a b : ℕ) → Side (round binary64 false a b)
round_side a b = rw (round_is binary64 false a b) (units_side _ _)

-- a product with a zero whose sign is set is a zero again
zero_side : (a : ℕ) (d e : ℤ) → a ≡ 0 → Side (round binary64 true a (down d * down e))
zero_side a d e q = rw (round_zero true a (down d * down e) (mul-pos (down_pos d) (down_pos e)) q) minus_zero

pub mul_side : {x y : Float} → Side x → Side y → Side (mul binary64 x y)
unfolding mul
mul_side no_number q = no_number
mul_side endless no_number = no_number
mul_side endless endless = endless
mul_side endless minus_zero = no_number
mul_side endless (plain {m}) = arms Side (eqb m 0) no_number endless
mul_side minus_zero no_number = no_number
mul_side minus_zero endless = no_number
mul_side (minus_zero {e = d}) (minus_zero {e}) = round_side (0 * up d * (0 * up e)) (down d * down e)
mul_side (minus_zero {e = d}) (plain {m = n} {e}) = zero_side (0 * up d * (n * up e)) d e (omega arith)
mul_side plain no_number = no_number
mul_side (plain {m}) endless = arms Side (eqb m 0) no_number endless
mul_side (plain {m} {e = d}) (minus_zero {e}) = zero_side (m * up d * (0 * up e)) d e (omega arith)
mul_side (plain {m} {e = d}) (plain {m = n} {e}) = round_side (m * up d * (n * up e)) (down d * down e)

-- The largest of the large and of the small entries are absolute values; the sums that go under a root may be anything.
abbrev Signs : Sums → Type 0
Signs t = Side t.x1max × Side t.x3max

signs_step : (g : Float) (t : Sums) (x : Float) → Signs t → Signs (step g t x)
unfolding middle small large
signs_step g t x h =
    let v = abs_of x in
    in_one Signs g t v h (arms Signs (lt t.x3max v) (h.0, abs_side x) (arms Signs (eq v plus_zero) h h)) (arms Signs (lt t.x1max v) (abs_side x, h.1) h)

signs_all : (g : Float) (t : Sums) (xs : List Float) → Signs t → Signs (accumulate g t xs)
unfolding accumulate
signs_all g t [] h = h
signs_all g t (x ∷ xs) h = signs_all g (step g t x) xs (signs_step g t x h)

finish_side : (t : Sums) → Signs t → Side (finish t)
unfolding finish finish_large finish_middle finish_small
finish_side t h =
    arms Side (ne t.s1 plus_zero) (mul_side h.0 (root_side _))
    (arms Side (ne t.s2 plus_zero) (arms Side (le t.x3max t.s2) (root_side _) (root_side _)) (mul_side h.1 (root_side _)))

pub norm_not_negative : (xs : List Float) → lt (norm xs) plus_zero ≡ false
unfolding norm
norm_not_negative xs = side_not_negative (finish_side (accumulate (agiant (length xs)) none xs) (signs_all (agiant (length xs)) none xs (plain, plain)))
