-- The order list of a factoring is a permutation from its first column to its last: two places exchanged keep it one, and nothing else
-- touches it. Assumes nothing.
use mathlib.Core.Path.{◌≡◌, refl, sym, ap, ◌∙◌}
use mathlib.Core.Bool.{Bool, true, false, cond}
use mathlib.Core.List.{List, [], ◌∷◌}
use Prim.Native.Nat.{ℕ, zero, suc, ◌+◌, ◌*◌, ◌<◌, ◌≤◌, min}
use native.Mathlib.Nat.{not-suc-le-zero, le_of_suc-le-suc}
use native.Mathlib.Omega.{arith}
use lib.Dec.{eqb}
use lib.ListN.{length, get_or, drop, set, length-set}
use lib.Seq.{get_or-set_same, get_or-set_other}
use lib.Ieee.{Float, nan, neg, eq}
use borrow.Author.Tests.{lt-ltb, eq-eqb, ne_eqb, eqb-true, eqb-false}
use Rattle.leaves.specs.Number.{plus_zero}
use Rattle.leaves.specs.Norm.{norm}
use Rattle.leaves.specs.Vector.{imax_of}
use Rattle.leaves.specs.Triangle.{columns}
use Rattle.leaves.specs.Loop.{count_from}
use Rattle.factor.specs.Tests.{absent, distinct_below}
use Rattle.reduce.specs.Reduction.{Reduction, reduction, swap, pivoted, axis_by, later, with_diag, signed, reflected, reduced, start, reduction_of}
use Rattle.leaves.proofs.Loops.{upto_keeps, between_keeps}
use Rattle.leaves.proofs.Squares.{columns-length}
use Rattle.factor.proofs.Orders.{both-absent, other, three, first_alone, entry_below}
use Rattle.leaves.proofs.Overs.{count-length, count_at}
use Rattle.reduce.proofs.Fitting.{Fits, pivot-below, reduced-fits, start_fits}

-- ---- distinct, by places
absent_entry : (v : ℕ) (xs : List ℕ) → absent v xs ≡ true → (k : ℕ) → k < length xs → v ≡ get_or xs k 0 → ⊥
absent_entry v [] h k l e = not-suc-le-zero l
absent_entry v (x ∷ xs) h zero l e = other v x xs h e
absent_entry v (x ∷ xs) h (suc k) l e = absent_entry v xs (both-absent v x xs h).1 k (le_of_suc-le-suc l) e

absent_from : (v : ℕ) (xs : List ℕ) → ((k : ℕ) → k < length xs → v ≡ get_or xs k 0 → ⊥) → absent v xs ≡ true
unfolding absent
absent_from v [] f = refl
absent_from v (x ∷ xs) f = rw (ne_eqb v x (f 0 (omega arith))) (absent_from v xs (λ k l. f (suc k) (omega arith)))

-- no two places hold the same
abbrev Apart : List ℕ → Type 0
Apart xs = (i k : ℕ) → i < length xs → k < length xs → get_or xs i 0 ≡ get_or xs k 0 → i ≡ k

distinct_apart : (n : ℕ) (xs : List ℕ) → distinct_below n xs ≡ true → Apart xs
distinct_apart n [] h i k li lk e = absurd (not-suc-le-zero li)
distinct_apart n (x ∷ xs) h zero zero li lk e = refl
distinct_apart n (x ∷ xs) h zero (suc k) li lk e = absurd (absent_entry x xs (first_alone n x xs h) k (le_of_suc-le-suc lk) e)
distinct_apart n (x ∷ xs) h (suc i) zero li lk e = absurd (absent_entry x xs (first_alone n x xs h) i (le_of_suc-le-suc li) (sym e))
distinct_apart n (x ∷ xs) h (suc i) (suc k) li lk e = ap suc (distinct_apart n xs (three n x xs h).1 i k (le_of_suc-le-suc li) (le_of_suc-le-suc lk) e)

distinct_from : (n : ℕ) (xs : List ℕ) → ((k : ℕ) → k < length xs → get_or xs k 0 < n) → Apart xs → distinct_below n xs ≡ true
unfolding distinct_below
distinct_from n [] b a = refl
distinct_from n (x ∷ xs) b a =
    let alone : absent x xs ≡ true = absent_from x xs (λ k l e. let z : 0 ≡ suc k = a 0 (suc k) (omega arith) (omega arith) e in omega arith) in
    let rest : Apart xs = λ i k li lk e. let z : suc i ≡ suc k = a (suc i) (suc k) (omega arith) (omega arith) e in omega arith in
    rw (lt-ltb x n (b 0 (omega arith)), alone) (distinct_from n xs (λ k l. b (suc k) (omega arith)) rest)

pub count_distinct : (n : ℕ) → distinct_below n (count_from n 0) ≡ true
count_distinct n =
    let l = count-length n 0 in
    distinct_from n (count_from n 0) (λ k h. let e = count_at n 0 k (omega arith) in omega arith)
    (λ i k hi hk e. let a = count_at n 0 i (omega arith) in let b = count_at n 0 k (omega arith) in omega arith)

-- ---- two places exchanged
-- where the entry at i stood before
abbrev place : ℕ → ℕ → ℕ → ℕ
place j k i = cond (eqb i k) j (cond (eqb i j) k i)

module _ (j k : ℕ) where
  place_below : (l i : ℕ) → j < l → k < l → i < l → place j k i < l
  place_below l i hj hk hi = go (eqb i k) (eqb i j)
    where
      go : (a b : Bool) → cond a j (cond b k i) < l
      go true b = hj
      go false true = hk
      go false false = hi

  place_twice : (j ≡ k → ⊥) → (i : ℕ) → place j k (place j k i) ≡ i
  place_twice ne i = go (eqb i k) (eqb i j) refl refl
    where
      go : (a b : Bool) → eqb i k ≡ a → eqb i j ≡ b → place j k (cond a j (cond b k i)) ≡ i
      go true b e f = rw (ne_eqb j k ne, eq-eqb j j refl) (sym (eqb-true i k e))
      go false true e f = rw (eq-eqb k k refl) (sym (eqb-true i j f))
      go false false e f = rw (e, f)

  module _ (xs : List ℕ) (hj : j < length xs) (hk : k < length xs) where
    swap_at : (i : ℕ) → get_or (swap 0 j k xs) i 0 ≡ get_or xs (place j k i) 0
    unfolding swap
    swap_at i = go (eqb i k) (eqb i j) refl refl
      where
        one : List ℕ
        one = set xs j (get_or xs k 0)

        go : (a b : Bool) → eqb i k ≡ a → eqb i j ≡ b → get_or (set one k (get_or xs j 0)) i 0 ≡ get_or xs (cond a j (cond b k i)) 0
        go true b e f =
            let q : i ≡ k = eqb-true i k e in
            rw q (get_or-set_same one k (get_or xs j 0) 0 (let l = length-set xs j (get_or xs k 0) in omega arith))
        go false true e f =
            let q : i ≡ j = eqb-true i j f in
            get_or-set_other one k i (get_or xs j 0) 0 (eqb-false i k e) ∙ rw q (get_or-set_same xs j (get_or xs k 0) 0 hj)
        go false false e f = get_or-set_other one k i (get_or xs j 0) 0 (eqb-false i k e) ∙ get_or-set_other xs j i (get_or xs k 0) 0 (eqb-false i j f)

    pub swap_distinct : (n : ℕ) → (j ≡ k → ⊥) → distinct_below n xs ≡ true → distinct_below n (swap 0 j k xs) ≡ true
    unfolding swap
    swap_distinct n ne d =
        let l : length (swap 0 j k xs) ≡ length xs = length-set (set xs j (get_or xs k 0)) k (get_or xs j 0) ∙ length-set xs j (get_or xs k 0) in
        distinct_from n (swap 0 j k xs)
        (λ i h. rw (swap_at i) (entry_below n xs d (place j k i) (place_below (length xs) i hj hk (omega arith))))
        (λ a b ha hb e.
        let p : place j k a ≡ place j k b =
        distinct_apart n xs d (place j k a) (place j k b) (place_below (length xs) a hj hk (omega arith)) (place_below (length xs) b hj hk (omega arith)) (sym (swap_at a) ∙ e ∙ swap_at b) in
        sym (place_twice ne a) ∙ ap (place j k) p ∙ place_twice ne b)

-- ---- the order list of a factoring
module _ (m n : ℕ) where
  pivot_permutes : (j : ℕ) (r : Reduction) → j < n → Fits m n r → distinct_below n r.order ≡ true → distinct_below n (pivoted j r).order ≡ true
  unfolding pivoted
  pivot_permutes j r h f d = go (eqb (j + imax_of (drop j r.diag)) j) refl
    where
      k : ℕ
      k = j + imax_of (drop j r.diag)

      go : (b : Bool) → eqb k j ≡ b
          → distinct_below n (cond b r (reduction (swap [] j k r.cols) (set r.diag k (get_or r.diag j nan)) (set r.work k (get_or r.work j nan)) (swap 0 j k r.order) r.rhs)).order ≡ true
      go true e = d
      go false e =
          let hk : k < n = pivot-below n j r.diag f.diag_long h in
          let o = f.order_long in
          swap_distinct j k r.order (omega arith) (omega arith) n (λ (z : j ≡ k). eqb-false k j e (sym z)) d

  reflected-order : (j : ℕ) (s : Float) (r : Reduction) → j < n → (reflected n j s r).order ≡ r.order
  unfolding reflected later
  reflected-order j s r h =
      let c : List Float = drop j (get_or r.cols j []) in
      between_keeps (λ (i : ℕ) (t : Reduction). t.order ≡ r.order) (later j (axis_by (signed s c) c)) (suc j) n (with_diag j (neg (signed s c)) r) h refl (λ i t a b p. p)

  -- a column's reduction exchanges two places at most
  reduced-order : (j : ℕ) (r : Reduction) → j < n → (reduced n j r).order ≡ (pivoted j r).order
  unfolding reduced
  reduced-order j r h = go (eq s plus_zero)
    where
      s : Float
      s = norm (drop j (get_or (pivoted j r).cols j []))

      go : (b : Bool) → (cond b (with_diag j plus_zero (pivoted j r)) (reflected n j s (pivoted j r))).order ≡ (pivoted j r).order
      go true = refl
      go false = reflected-order j s (pivoted j r) h

  pub reduction_permutes : (jac res : List Float) → m * n ≤ length jac → length res ≡ m → distinct_below n (reduction_of m n (columns m n jac) res).order ≡ true
  unfolding reduction_of start
  reduction_permutes jac res h l =
      (upto_keeps (λ (i : ℕ) (t : Reduction). Fits m n t × (distinct_below n t.order ≡ true)) (reduced n) (min m n) (start (columns m n jac) res)
      (start_fits m n jac res h l, rw (columns-length m n jac) (count_distinct n))
      (λ i t b p. (reduced-fits m n i t (omega arith) p.0, ap (distinct_below n) (reduced-order i t (omega arith)) ∙ pivot_permutes i t (omega arith) p.0 p.1))
      ).1
