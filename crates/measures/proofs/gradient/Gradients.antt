-- One turn of the loops over R's columns, and their ends, as laws. Assumes nothing.
use mathlib.Core.Path.{◌≡◌, refl, sym, ap, ◌∙◌}
use mathlib.Core.Bool.{true, false}
use mathlib.Core.List.{List, [], ◌∷◌, ◌++◌}
use Prim.Native.Nat.{ℕ, suc, ◌+◌, ◌-◌, ◌*◌, ◌<◌, ◌≤◌}
use native.Mathlib.Numerals.{add-one}
use native.Mathlib.Omega.{arith}
use lib.ListN.{length, get_or, take, drop, replicate, drop_of_length-le}
use lib.Seq.{drop-cons, get_or-take, take-take, length-take-le}
use lib.Ieee.{Float, nan, binary64, add, mul, div, eq, ne, lt}
use borrow.Author.Tests.{not-true, not-false}
use Rattle.leaves.specs.Reply.{answered, refused}
use Rattle.leaves.specs.Number.{plus_zero, abs_of, max_of, is_finite}
use Rattle.leaves.specs.Vector.{dot_of, axpy_all}
use Rattle.leaves.specs.Norm.{norm, ranges}
use Rattle.leaves.proofs.Folds.{front}
use Rattle.leaves.proofs.Signs.{is_nan_lem}
use Rattle.leaves.proofs.Fronts.{front_old, map_at}
use Rattle.leaves.proofs.Products.{divided-length}
use Rattle.leaves.specs.Square.{zeros}
use Rattle.leaves.proofs.Splices.{drop-take}
use Rattle.factor.specs.Room.{load}
use Rattle.factor.specs.inner.Rooms.{Sized}
use Rattle.factor.proofs.Layouts.{square_upper, square_of_lem, load_shaped}
use Rattle.leaves.specs.Product.{divided_by}
use Rattle.factor.specs.Solve.{gather}
use Rattle.factor.proofs.Solves.{gather_at, gather-length}
use Rattle.measures.specs.Gradient.{measures, largest, above, combined, jx_norm_of, jx_ranges}
use Rattle.leaves.proofs.Squares.{upper_at, column_end, uppers_of-length}

-- what a test by `!=` says
pub ne_true : (x y : Float) → ne x y ≡ true → eq x y ≡ false
unfolding ne
ne_true x y h = not-true (eq x y) h

pub ne_false : (x y : Float) → ne x y ≡ false → eq x y ≡ true
unfolding ne
ne_false x y h = not-false (eq x y) h

-- ---- R's columns, as the store has them
pub upper_wide : (n : ℕ) (s : List Float) → length (load n s).upper ≡ n
upper_wide n s = ap length (sym (square_upper n s)) ∙ uppers_of-length n (take (n * n) s)

module _ (n : ℕ) (s : List Float) (z : Sized n s) (k : ℕ) (h : k < n) where
  pub ends_in : k * n + n ≤ length s
  ends_in = let q = square_of_lem n s z in omega (arith, column_end n (take (n * n) s) q k h, q.whole, z.fits)

  pub column_in : get_or (load n s).upper k [] ≡ take (suc k) (drop (k * n) s)
  column_in =
      let q = square_of_lem n s z in
      let e = column_end n (take (n * n) s) q k h in
      let f : drop (k * n) (take (n * n) s) ≡ take (n * n - k * n) (drop (k * n) s) = drop-take (k * n) (n * n) s in
      ap (λ (us : List (List Float)). get_or us k []) (sym (square_upper n s)) ∙ upper_at n (take (n * n) s) q k h
      ∙ ap (take (suc k)) f ∙ take-take (suc k) (n * n - k * n) (drop (k * n) s) (omega (arith, q.whole))

-- ---- qt_b divided by the residual norm
pub divided_turn : (x : Float) (qs v : List Float) (i : ℕ) → i < length qs → v ≡ front i (divided_by x qs) qs → div binary64 (get_or v i nan) x ≡ get_or (divided_by x qs) i nan
divided_turn x qs v i h e =
    let l = divided-length x qs in
    ap (λ (q : Float). div binary64 q x) (front_old (divided_by x qs) qs v i (omega arith) h e) ∙ map_at (λ q. div binary64 q x) qs i nan nan h

-- ---- the entry at the column that the order list names, among the entries in pivot order
pub picked : (n : ℕ) (order : List ℕ) (xs : List Float) (k : ℕ) → k < n → n ≤ length order → get_or xs (get_or order k 0) nan ≡ get_or (gather (take n order) xs) k nan
picked n order xs k h l =
    let e : length (take n order) ≡ n = length-take-le n order l in
    ap (λ (o : ℕ). get_or xs o nan) (sym (get_or-take n order k 0 h)) ∙ gather_at (take n order) xs k (omega arith)

pub picked_length : (n : ℕ) (order : List ℕ) (xs : List Float) → n ≤ length order → length (gather (take n order) xs) ≡ n
picked_length n order xs l = gather-length (take n order) xs ∙ length-take-le n order l

-- ---- the gradient
-- the measure of a column, given its norm
abbrev measured : List Float → List (List Float) → ℕ → Float → Float
measured b us j s = abs_of (div binary64 (dot_of (get_or us j []) (take (suc j) b)) s)

module _ (b : List Float) (n : ℕ) (s ss : List Float) (q : Sized n s) (j : ℕ) (h : j < n) (k : length ss ≡ n) where
  abbrev us : List (List Float)
  us = (load n s).upper

  -- from column j on, with that column taken apart
  from_column : measures b (drop j us) (drop j ss) ≡ measures b (get_or us j [] ∷ drop (suc j) us) (get_or ss j nan ∷ drop (suc j) ss)
  from_column =
      let l : length us ≡ n = upper_wide n s in
      let e : j < length us = omega arith in
      rw (drop-cons us j [] e, drop-cons ss j nan (omega arith))

  measures_skip : eq (get_or ss j nan) plus_zero ≡ true → measures b (drop (j + 1) us) (drop (j + 1) ss) ≡ measures b (drop j us) (drop j ss)
  unfolding measures
  measures_skip t = rw (from_column, add-one, t, measures)

  measures-more : eq (get_or ss j nan) plus_zero ≡ false
      → measures b (drop j us) (drop j ss) ≡ measured b us j (get_or ss j nan) ∷ measures b (drop (j + 1) us) (drop (j + 1) ss)
  unfolding measures
  measures-more t = rw (from_column, add-one, t, (load_shaped n s q).upper_tall j h, measures)

-- the measure of column j from its product with the first j + 1 of b
pub measure_is : (n : ℕ) (s b : List Float) (x : Float) (q : Sized n s) (j : ℕ) (h : j < n) {d : Float}
    → d ≡ dot_of (take (j * n + (j + 1) - j * n) (drop (j * n) s)) (take (j + 1) b)
    → abs_of (div binary64 d x) ≡ abs_of (div binary64 (dot_of (get_or (load n s).upper j []) (take (suc j) b)) x)
measure_is n s b x q j h e = let d : j * n + (j + 1) - j * n ≡ suc j = omega arith in rw (e, d, column_in n s q j h, add-one)

largest_nan : (top x : Float) (xs : List Float) → ne x x ≡ true → refused 8 ≡ largest top (x ∷ xs)
unfolding largest
largest_nan top x xs h = rw (sym (is_nan_lem x) ∙ h, largest)

pub largest-more : (top x : Float) (xs : List Float) → ne x x ≡ false → largest (max_of top x) xs ≡ largest top (x ∷ xs)
unfolding largest
largest-more top x xs h = rw (sym (is_nan_lem x) ∙ h, largest)

pub largest_is : (top : Float) → is_finite top ≡ true → answered top ≡ largest top []
unfolding largest
largest_is top h = rw (h, largest)

pub largest_not : (top : Float) → is_finite top ≡ false → refused 8 ≡ largest top []
unfolding largest
largest_not top h = rw (h, largest)

-- the question, by its tests (02, #105)
pub above_not : (limit x : Float) (xs : List Float) → is_finite x ≡ false → refused 8 ≡ above limit (x ∷ xs)
unfolding above
above_not limit x xs h = rw (h, above)

pub above_is : (limit x : Float) (xs : List Float) → is_finite x ≡ true → lt limit x ≡ true → answered true ≡ above limit (x ∷ xs)
unfolding above
above_is limit x xs h k = rw (h, k, above)

pub above_on : (limit x : Float) (xs : List Float) → is_finite x ≡ true → lt limit x ≡ false → above limit xs ≡ above limit (x ∷ xs)
unfolding above
above_on limit x xs h k = rw (h, k, above)

-- ---- a turn of the gradient's loop and of the question's, by their tests; v is the column's norm
module _ (b : List Float) (n : ℕ) (s : List Float) (order : List ℕ) (norms : List Float) (q : Sized n s) (j : ℕ) (h : j < n) (l : n ≤ length order) where
  abbrev ss : List Float
  ss = gather (take n order) norms

  abbrev v : Float
  v = get_or norms (get_or order j 0) nan

  abbrev from : ℕ → List Float
  from i = measures b (drop i (load n s).upper) (drop i ss)

  here : v ≡ get_or ss j nan
  here = picked n order norms j h l

  gathered : length ss ≡ n
  gathered = picked_length n order norms l

  more : ne v plus_zero ≡ true → from j ≡ measured b (load n s).upper j v ∷ from (j + 1)
  more t =
      measures-more b n s ss q j h gathered (ap (λ (x : Float). eq x plus_zero) (sym here) ∙ ne_true _ _ t)
      ∙ ap (λ (x : Float). measured b (load n s).upper j x ∷ from (j + 1)) (sym here)

  skipped : ne v plus_zero ≡ false → from (j + 1) ≡ from j
  skipped t = measures_skip b n s ss q j h gathered (ap (λ (x : Float). eq x plus_zero) (sym here) ∙ ne_false _ _ t)

  pub gradient_skip : (top : Float) → ne v plus_zero ≡ false → largest top (from (j + 1)) ≡ largest top (from j)
  gradient_skip top t = ap (largest top) (skipped t)

  pub gradient_nan : (top x : Float) → ne v plus_zero ≡ true → x ≡ measured b (load n s).upper j v → ne x x ≡ true → refused 8 ≡ largest top (from j)
  gradient_nan top x t e r = rw (more t, ← e) (largest_nan top x _ r)

  pub gradient-more : (top x : Float) → ne v plus_zero ≡ true → x ≡ measured b (load n s).upper j v → ne x x ≡ false → largest (max_of top x) (from (j + 1)) ≡ largest top (from j)
  gradient-more top x t e r = rw (more t, ← e) (largest-more top x _ r)

  pub above_skip : (limit : Float) → ne v plus_zero ≡ false → above limit (from (j + 1)) ≡ above limit (from j)
  above_skip limit t = ap (above limit) (skipped t)

  pub above_eight : (limit x : Float) → ne v plus_zero ≡ true → x ≡ measured b (load n s).upper j v → is_finite x ≡ false → refused 8 ≡ above limit (from j)
  above_eight limit x t e r = rw (more t, ← e) (above_not limit x _ r)

  pub above_yes : (limit x : Float) → ne v plus_zero ≡ true → x ≡ measured b (load n s).upper j v → is_finite x ≡ true → lt limit x ≡ true → answered true ≡ above limit (from j)
  above_yes limit x t e r k = rw (more t, ← e) (above_is limit x _ r k)

  pub above_more : (limit x : Float) → ne v plus_zero ≡ true → x ≡ measured b (load n s).upper j v → is_finite x ≡ true → lt limit x ≡ false
      → above limit (from (j + 1)) ≡ above limit (from j)
  above_more limit x t e r k = rw (more t, ← e) (above_on limit x _ r k)

pub measures-end : (b : List Float) (n : ℕ) (s ss : List Float) (j : ℕ) → n ≤ j → measures b (drop j (load n s).upper) (drop j ss) ≡ []
unfolding measures
measures-end b n s ss j h = let l = upper_wide n s in rw (drop_of_length-le (load n s).upper {i = j} (omega arith))

pub above_none : (limit : Float) → answered false ≡ above limit []
unfolding above
above_none limit = refl

-- ---- the norm of Jx
pub axpy_front : (a : Float) (xs ys : List Float) → axpy_all a xs (take (length xs) ys) ++ drop (length xs) ys ≡ axpy_all a xs ys
unfolding axpy_all
axpy_front a [] ys = refl
axpy_front a (x ∷ xs) [] = refl
axpy_front a (x ∷ xs) (y ∷ ys) = ap (λ (l : List Float). add binary64 (mul binary64 a x) y ∷ l) (axpy_front a xs ys)

-- column i of R added to the first i + 1 of w
pub column_added : (n : ℕ) (s w l : List Float) (a : Float) (q : Sized n s) (i : ℕ) (h : i < n)
    → l ≡ axpy_all a (take (i * n + (i + 1) - i * n) (drop (i * n) s)) (take (i + 1) w) → l ++ drop (i + 1) w ≡ axpy_all a (get_or (load n s).upper i []) w
column_added n s w l a q i h e =
    let d : i * n + (i + 1) - i * n ≡ suc i = omega arith in
    let long : length (get_or (load n s).upper i []) ≡ suc i = (load_shaped n s q).upper_tall i h in
    let is : l ≡ axpy_all a (get_or (load n s).upper i []) (take (suc i) w) = e ∙ rw (d, column_in n s q i h, add-one) in
    rw (is, add-one, ← long) (axpy_front a (get_or (load n s).upper i []) w)

combined_step : (w : List Float) (us : List (List Float)) (xs : List Float) (i : ℕ) → i < length us → i < length xs
    → combined (axpy_all (get_or xs i nan) (get_or us i []) w) (drop (i + 1) us) (drop (i + 1) xs) ≡ combined w (drop i us) (drop i xs)
unfolding combined
combined_step w us xs i h k = rw (add-one, drop-cons us i [] h, drop-cons xs i nan k)

-- a turn, by the order list
pub combined_turn : (n : ℕ) (s : List Float) (order : List ℕ) (x w : List Float) (i : ℕ) → i < n → n ≤ length order → {w' : List Float}
    → w' ≡ axpy_all (get_or x (get_or order i 0) nan) (get_or (load n s).upper i []) w
    → combined w' (drop (i + 1) (load n s).upper) (drop (i + 1) (gather (take n order) x)) ≡ combined w (drop i (load n s).upper) (drop i (gather (take n order) x))
combined_turn n s order x w i h l e =
    let us = (load n s).upper in
    let xs = gather (take n order) x in
    let j : i < length us = omega (arith, upper_wide n s) in
    let k : i < length xs = omega (arith, picked_length n order x l) in
    ap (λ (y : List Float). combined y (drop (i + 1) us) (drop (i + 1) xs)) (e ∙ ap (λ (a : Float). axpy_all a (get_or us i []) w) (picked n order x i h l))
    ∙ combined_step w us xs i j k

pub combined-end : (w : List Float) (us : List (List Float)) (xs : List Float) (i : ℕ) → length us ≤ i → combined w (drop i us) (drop i xs) ≡ w
unfolding combined
combined-end w us xs i h = rw (drop_of_length-le us {i = i} h)

module _ (n : ℕ) (s xs w : List Float) {w₁ w₂ : List Float} (h : length w ≡ n) (e : w₁ ≡ replicate (length w) plus_zero) (f : w₂ ≡ combined w₁ (load n s).upper xs) where
  product : w₂ ≡ combined (zeros (length (load n s).upper)) (load n s).upper xs
  product = rw (f, e, h, upper_wide n s)

  pub jx_is : norm w₂ ≡ jx_norm_of xs (load n s).upper
  unfolding jx_norm_of
  jx_is = ap norm product

  pub jx_seen : ranges w₂ ≡ jx_ranges xs (load n s).upper
  unfolding jx_ranges
  jx_seen = ap ranges product
