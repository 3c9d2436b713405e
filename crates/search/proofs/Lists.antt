-- Vectors place by place. Assumes nothing.
use mathlib.Core.Path.{◌≡◌, refl, sym, ap, ◌∙◌}
use mathlib.Core.List.{List, [], ◌∷◌}
use Prim.Native.Nat.{ℕ, zero, suc, ◌+◌, ◌<◌, ◌≤◌}
use native.Mathlib.Nat.{not-suc-le-zero, le_of_suc-le-suc}
use native.Mathlib.Omega.{arith}
use lib.ListN.{length, get_or, take, drop, set}
use lib.Seq.{get_or-take, length-take-le, take_all}
use lib.Ieee.{Float, nan, binary64, mul, div}
use Rattle.leaves.specs.Product.{product_all, divided_by}
use Rattle.leaves.proofs.Folds.{front}
use Rattle.factor.specs.Solve.{gather, scatter}
use Rattle.leaves.proofs.Fronts.{front_old, map_at}
use Rattle.leaves.proofs.Products.{product-length, product_at, divided-length}
use Rattle.factor.proofs.Solves.{gather_at, gather-length, scatter_turn}
use Rattle.search.specs.Bounds.{quotients}
use Rattle.search.specs.inner.Read.{turned_by}

-- ---- over a number, times the scaling
pub turned-length : (s : Float) (v ds : List Float) → length v ≡ length ds → length (turned_by s v ds) ≡ length v
turned-length s v ds h = let l = divided-length s v in product-length (divided_by s v) ds (l ∙ h) ∙ l

pub turned_at_lem : (s : Float) (v ds : List Float) (i : ℕ) → i < length v → i < length ds → mul binary64 (div binary64 (get_or v i nan) s) (get_or ds i nan) ≡ get_or (turned_by s v ds) i nan
turned_at_lem s v ds i h k =
    let d = divided-length s v in
    ap (λ (x : Float). mul binary64 x (get_or ds i nan)) (map_at (λ x. div binary64 x s) v i nan nan h) ∙ product_at (divided_by s v) ds i (omega arith) k

-- ---- in pivot order
pub gathered_at : (n : ℕ) (order : List ℕ) (xs : List Float) (k : ℕ) → k < n → n ≤ length order → get_or xs (get_or order k 0) nan ≡ get_or (gather (take n order) xs) k nan
gathered_at n order xs k h long =
    let t = length-take-le n order long in
    ap (λ (o : ℕ). get_or xs o nan) (sym (get_or-take n order k 0 h)) ∙ gather_at (take n order) xs k (omega arith)

pub scaled_place : (n : ℕ) (order : List ℕ) (w ds : List Float) (k : ℕ) → k < n → n ≤ length order → length w ≡ n
    → mul binary64 (get_or w k nan) (get_or ds (get_or order k 0) nan) ≡ get_or (product_all w (gather (take n order) ds)) k nan
scaled_place n order w ds k h long e =
    let t = length-take-le n order long in
    let l = gather-length (take n order) ds in
    ap (mul binary64 (get_or w k nan)) (gathered_at n order ds k h long) ∙ product_at w (gather (take n order) ds) k (omega arith) (omega arith)

pub placed_turn : (os : List ℕ) (xs out : List Float) (k o : ℕ) (x : Float) → k < length os → k < length xs → o ≡ get_or os k 0 → x ≡ get_or xs k nan
    → scatter (drop (k + 1) os) (drop (k + 1) xs) (set out o x) ≡ scatter (drop k os) (drop k xs) out
placed_turn os xs out k o x h g e q =
    ap (λ (y : Float). scatter (drop (k + 1) os) (drop (k + 1) xs) (set out o y)) q ∙ scatter_turn os xs out k o h g e

-- ---- each place over another vector's
pub quotients-length : (xs ds : List Float) → length xs ≡ length ds → length (quotients xs ds) ≡ length xs
unfolding quotients
quotients-length [] ds h = refl
quotients-length (x ∷ xs) [] h = absurd (omega arith)
quotients-length (x ∷ xs) (d ∷ ds) h = ap suc (quotients-length xs ds (omega arith))

quotients_at : (xs ds : List Float) (i : ℕ) → i < length xs → i < length ds → div binary64 (get_or xs i nan) (get_or ds i nan) ≡ get_or (quotients xs ds) i nan
unfolding quotients
quotients_at [] ds i h k = absurd (not-suc-le-zero h)
quotients_at (x ∷ xs) [] i h k = absurd (not-suc-le-zero k)
quotients_at (x ∷ xs) (d ∷ ds) zero h k = refl
quotients_at (x ∷ xs) (d ∷ ds) (suc i) h k = quotients_at xs ds i (le_of_suc-le-suc h) (le_of_suc-le-suc k)

module _ (n : ℕ) (xs : List Float) (order : List ℕ) (ds : List Float) (e : length xs ≡ n) (h : n ≤ length order) where
  abbrev gathered : List Float
  gathered = gather (take n order) ds

  pub gathered_length : length gathered ≡ length xs
  gathered_length = gather-length (take n order) ds ∙ length-take-le n order h ∙ sym e

  pub quotient_length : length (quotients xs gathered) ≡ length xs
  quotient_length = quotients-length xs gathered (sym gathered_length)

  pub quotient_turn : (w : List Float) (i : ℕ) → i < n → w ≡ front i (quotients xs gathered) xs
      → div binary64 (get_or w i nan) (get_or ds (get_or order i 0) nan) ≡ get_or (quotients xs gathered) i nan
  quotient_turn w i k f =
      let l = quotient_length in
      let z = gathered_length in
      ap (λ (x : Float). div binary64 x (get_or ds (get_or order i 0) nan)) (front_old (quotients xs gathered) xs w i (omega arith) (omega arith) f)
      ∙ ap (div binary64 (get_or xs i nan)) (gathered_at n order ds i k h)
      ∙ quotients_at xs gathered i (omega arith) (omega arith)

-- ---- products with a scaling of exactly n numbers
pub by_scaling_lem : (n : ℕ) (xs ds : List Float) {v : List Float} → length ds ≡ n → v ≡ product_all xs ds → v ≡ product_all xs (take n ds)
by_scaling_lem n xs ds h e = e ∙ ap (product_all xs) (sym (take_all n ds (omega arith)))
