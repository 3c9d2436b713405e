-- Columns of a flat matrix, and one place of the upper triangular solve, as laws. Assumes nothing.
use mathlib.Core.Path.{◌≡◌, refl, ap, ◌∙◌}
use mathlib.Core.List.{List, [], ◌++◌}
use Prim.Native.Nat.{ℕ, zero, suc, ◌+◌, ◌-◌, ◌*◌, ◌/◌, ◌<◌, ◌≤◌}
use native.Mathlib.Nat.{le_refl, not-suc-le-zero, le_of_suc-le-suc, suc-mul, zero-mul, add_comm, mul-le-mul_right, div-lt_iff_lt-mul, le-div_iff_mul-le}
use native.Mathlib.Omega.{arith}
use lib.ListN.{length, get_or, take, drop, set, length-set, length-take, length-drop}
use lib.Seq.{drop-cons, drop-drop, take-take, take-set-le, drop-set-lt, get_or-set_same, get_or-take, get_or-drop, length_front}
use lib.Ieee.{Float, nan, binary64, div, neg}
use borrow.Author.Tests.{eq-eqb, lt-ltb, le-ltb}
use Rattle.leaves.specs.Reply.{Reply, answered, refused}
use Rattle.leaves.specs.Vector.{axpy_all, axpy}
use Rattle.leaves.specs.Triangle.{columns, solve_place, solve_down, solve_upper}

-- column k of n columns ends within them
pub column_fits : (k n apart : ℕ) → k < n → k * apart + apart ≤ n * apart
column_fits k n apart h = let e : suc k * apart ≡ k * apart + apart = suc-mul k apart in omega (arith, mul-le-mul_right apart h)

pub column_at : (apart n i : ℕ) (r : List Float) → i < n → get_or (columns apart n r) i [] ≡ take apart (drop (i * apart) r)
unfolding columns
column_at apart zero i r h = absurd (not-suc-le-zero h)
column_at apart (suc n) zero r h = let e : 0 * apart ≡ 0 = zero-mul apart in rw e
column_at apart (suc n) (suc i) r h =
    let e : suc i * apart ≡ apart + i * apart = suc-mul i apart ∙ add_comm (i * apart) apart in
    column_at apart n i (drop apart r) (le_of_suc-le-suc h) ∙ rw (e, drop-drop (i * apart) apart r)

-- what `axpy` leaves of slices of one length
pub axpy_leaves : (a : Float) (xs ys l : List Float) {d : Reply (Unit {0})} → length xs ≡ length ys → (d, l) ≡ axpy a xs ys → l ≡ axpy_all a xs ys
unfolding axpy
axpy_leaves a xs ys l h e =
    let is : axpy a xs ys ≡ (answered tt, axpy_all a xs ys) = rw (eq-eqb (length xs) (length ys) h, axpy) in
    ap (λ (p : Reply (Unit {0}) × List Float). p.1) (e ∙ is)

-- what is left after the store of q at place i and axpy on the places before it
pub place_law : (r x : List Float) (apart n i : ℕ) (l : List Float) {d : Reply (Unit {0})} → i < n → n ≤ apart → i * apart + apart ≤ length r → n ≤ length x
    → (let q = div binary64 (get_or x i nan) (get_or r (i * apart + i) nan) in
    (d, l) ≡ axpy (neg q) (take (i * apart + i - i * apart) (drop (i * apart) r)) (take i (set x i q)) → l ++ drop i (set x i q) ≡ solve_place (columns apart n r) i x)
unfolding solve_place
place_law r x apart n i l h k f g e =
    let q = div binary64 (get_or x i nan) (get_or r (i * apart + i) nan) in
    let w : i * apart + i - i * apart ≡ i = omega arith in
    let j : i < length x = omega arith in
    let t : i < length (set x i q) = simp length-set j in
    let u : i < apart = omega arith in
    let xs = take (i * apart + i - i * apart) (drop (i * apart) r) in
    let same : length xs ≡ length (take i (set x i q)) = simp (length-take, length-drop, length-set) (omega arith) in
    let c : get_or (columns apart n r) i [] ≡ take apart (drop (i * apart) r) = column_at apart n i r h in
    let b : get_or (take apart (drop (i * apart) r)) i nan ≡ get_or r (i * apart + i) nan = get_or-take apart (drop (i * apart) r) i nan u ∙ get_or-drop (i * apart) r i nan in
    rw (axpy_leaves (neg q) xs (take i (set x i q)) l same e, w, take-set-le i x i q (le_refl i), drop-cons (set x i q) i nan t, get_or-set_same x i q nan j, drop-set-lt (suc i) x i q (le_refl (suc i)))
    (rw (c, b, take-take i apart (drop (i * apart) r) (omega arith)))

pub place_length : (x : List Float) (i : ℕ) (q : Float) (l : List Float) → length l ≡ length (take i (set x i q)) → length (l ++ drop i (set x i q)) ≡ length x
place_length x i q l e = length_front (set x i q) l i e ∙ length-set x i q

pub down_step : (cols : List (List Float)) (i : ℕ) (x : List Float) → 0 < i → solve_down cols (i - 1) (solve_place cols (i - 1) x) ≡ solve_down cols i x
unfolding solve_down
down_step cols zero x h = absurd (omega arith)
down_step cols (suc i) x h = let e : suc i - 1 ≡ i = omega arith in rw e

pub down_end : (cols : List (List Float)) (i : ℕ) (x : List Float) → i ≤ 0 → solve_down cols i x ≡ x
unfolding solve_down
down_end cols zero x h = refl
down_end cols (suc i) x h = absurd (omega arith)

-- ---- the tests in order
module _ (apart n : ℕ) (r x : List Float) where
  pub narrow : apart < n → (refused 3, x) ≡ solve_upper apart n r x
  unfolding solve_upper
  narrow h = rw (lt-ltb apart n h, solve_upper)

  pub short : n ≤ apart → length x < n → (refused 3, x) ≡ solve_upper apart n r x
  unfolding solve_upper
  short h k = rw (le-ltb apart n h, lt-ltb (length x) n k, solve_upper)

  pub few : n ≤ apart → n ≤ length x → length r < n * apart → (refused 3, x) ≡ solve_upper apart n r x
  unfolding solve_upper
  few h k l = rw (le-ltb apart n h, le-ltb (length x) n k, lt-ltb (length r) (n * apart) l, solve_upper)

  pub solved : (y : List Float) → n ≤ apart → n ≤ length x → n * apart ≤ length r → y ≡ solve_down (columns apart n r) n x → (answered tt, y) ≡ solve_upper apart n r x
  unfolding solve_upper
  solved y h k l e = rw (e, le-ltb apart n h, le-ltb (length x) n k, le-ltb (length r) (n * apart) l, solve_upper)

pub empty-solved : (apart n : ℕ) (r x : List Float) → n ≡ 0 → (answered tt, x) ≡ solve_upper apart n r x
unfolding solve_down columns
empty-solved apart n r x e = rw e (solved apart 0 r x x (omega arith) (omega arith) (let z : 0 * apart ≡ 0 = zero-mul apart in omega arith) refl)

-- the number of whole columns below n, and not
pub few_by : (a n apart : ℕ) → 0 < apart → a / apart < n → a < n * apart
few_by a n apart p h = (div-lt_iff_lt-mul p).0 h

pub enough_by : (a n apart : ℕ) → 0 < apart → n ≤ a / apart → n * apart ≤ a
enough_by a n apart p h = (le-div_iff_mul-le p).0 h
