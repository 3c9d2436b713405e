-- A factoring keeps its sizes from its first column to its last, so that what it leaves is n columns of m rows and m residuals. Assumes nothing.
use mathlib.Core.Path.{◌≡◌, refl, ◌∙◌}
use mathlib.Core.Bool.{Bool, true, false, cond}
use mathlib.Core.List.{List, []}
use Prim.Native.Nat.{ℕ, suc, ◌+◌, ◌-◌, ◌*◌, ◌<◌, ◌≤◌, min}
use native.Mathlib.Nat.{mul_comm}
use native.Mathlib.Omega.{arith}
use lib.Dec.{eqb}
use lib.ListN.{length, get_or, take, drop, set, length-set, length-append, length-take, length-drop}
use lib.Seq.{get_or-set_same, get_or-set_other}
use lib.Ieee.{Float, nan, neg, div, eq, binary64}
use borrow.Author.Tests.{eqb-true, eqb-false}
use Rattle.leaves.specs.Number.{plus_zero}
use Rattle.leaves.specs.Norm.{norm}
use Rattle.leaves.specs.Vector.{dot_of, axpy_all, imax_of}
use Rattle.leaves.specs.Triangle.{columns}
use Rattle.leaves.proofs.Folds.{axpy-length}
use Rattle.leaves.specs.Loop.{between}
use Rattle.reduce.specs.Reduction.{Reduction, reduction, swap, pivoted, axis_by, reflect, reflect_from, later, with_diag, with_rhs, signed, reflected, reduced, start, reduction_of}
use Rattle.leaves.proofs.Loops.{upto_keeps, between_keeps}
use Rattle.leaves.proofs.Squares.{columns-length}
use Rattle.leaves.proofs.Grids.{column_long}
use Rattle.reduce.proofs.Pivots.{imax_place}
use Rattle.leaves.proofs.Overs.{count-length}
use Rattle.reduce.proofs.Begins.{norms-length}

-- a factoring under way of m rows and n columns
pub record Fits (m n : ℕ) (r : Reduction) : Type 0 where
  pub cols_wide : length r.cols ≡ n
  pub cols_tall : (k : ℕ) → k < n → length (get_or r.cols k []) ≡ m
  pub diag_long : length r.diag ≡ n
  pub order_long : length r.order ≡ n
  pub rhs_long : length r.rhs ≡ m

-- ---- columns
set_tall : (m n k : ℕ) (cs : List (List Float)) (c : List Float) → length cs ≡ n → ((i : ℕ) → i < n → length (get_or cs i []) ≡ m) → length c ≡ m
    → (i : ℕ) → i < n → length (get_or (set cs k c) i []) ≡ m
set_tall m n k cs c w t l i h = go (eqb i k) refl
  where
    go : (b : Bool) → eqb i k ≡ b → length (get_or (set cs k c) i []) ≡ m
    go true e =
        let q : i ≡ k = eqb-true i k e in
        rw (← q, get_or-set_same cs i c [] (omega arith)) l
    go false e = rw (get_or-set_other cs k i c [] (eqb-false i k e)) (t i h)

reflect_long : (j : ℕ) (axis c : List Float) → length (reflect_from j axis c) ≡ length c
unfolding reflect_from reflect
reflect_long j axis c =
    let a : Float = neg (div binary64 (dot_of (drop j c) axis) (get_or axis 0 nan)) in
    let e : length (axpy_all a axis (drop j c)) ≡ length (drop j c) = axpy-length a axis (drop j c) in
    length-append (take j c) (axpy_all a axis (drop j c)) ∙ rw e (simp (length-take, length-drop) (omega arith))

-- ---- each step
-- the pivot of a column stands at a place of the diagonal
pub pivot-below : (n j : ℕ) (d : List Float) → length d ≡ n → j < n → j + imax_of (drop j d) < n
pivot-below n j d l h =
    let e : length (drop j d) ≡ length d - j = length-drop j d in
    let p = imax_place (drop j d) (omega arith) in
    omega arith

module _ (m n : ℕ) where
  diag_fits : (j : ℕ) (d : Float) (r : Reduction) → Fits m n r → Fits m n (with_diag j d r)
  diag_fits j d r f = record { cols_wide = f.cols_wide; cols_tall = f.cols_tall; diag_long = length-set r.diag j d ∙ f.diag_long; order_long = f.order_long; rhs_long = f.rhs_long }

  rhs_fits : (b : List Float) (r : Reduction) → length b ≡ m → Fits m n r → Fits m n (with_rhs b r)
  rhs_fits b r l f = record { cols_wide = f.cols_wide; cols_tall = f.cols_tall; diag_long = f.diag_long; order_long = f.order_long; rhs_long = l }

  pub pivot-fits : (j : ℕ) (r : Reduction) → j < n → Fits m n r → Fits m n (pivoted j r)
  unfolding pivoted swap
  pivot-fits j r h f = go (eqb (j + imax_of (drop j r.diag)) j)
    where
      k : ℕ
      k = j + imax_of (drop j r.diag)

      go : (b : Bool) → Fits m n (cond b r (reduction (swap [] j k r.cols) (set r.diag k (get_or r.diag j nan)) (set r.work k (get_or r.work j nan)) (swap 0 j k r.order) r.rhs))
      go true = f
      go false =
          let hk : k < n = pivot-below n j r.diag f.diag_long h in
          let one : List (List Float) = set r.cols j (get_or r.cols k []) in
          let wide : length one ≡ n = length-set r.cols j (get_or r.cols k []) ∙ f.cols_wide in
          record {
            cols_wide = length-set one k (get_or r.cols j []) ∙ wide;
            cols_tall = set_tall m n k one (get_or r.cols j []) wide (set_tall m n j r.cols (get_or r.cols k []) f.cols_wide f.cols_tall (f.cols_tall k hk)) (f.cols_tall j h);
            diag_long = length-set r.diag k (get_or r.diag j nan) ∙ f.diag_long;
            order_long = length-set (set r.order j (get_or r.order k 0)) k (get_or r.order j 0) ∙ length-set r.order j (get_or r.order k 0) ∙ f.order_long;
            rhs_long = f.rhs_long;
          }

  later-fits : (j : ℕ) (axis : List Float) (k : ℕ) (r : Reduction) → k < n → Fits m n r → Fits m n (later j axis k r)
  unfolding later
  later-fits j axis k r h f =
      let c : List Float = reflect_from j axis (get_or r.cols k []) in
      record {
        cols_wide = length-set r.cols k c ∙ f.cols_wide;
        cols_tall = set_tall m n k r.cols c f.cols_wide f.cols_tall (reflect_long j axis (get_or r.cols k []) ∙ f.cols_tall k h);
        diag_long = length-set r.diag k _ ∙ f.diag_long;
        order_long = f.order_long;
        rhs_long = f.rhs_long;
      }

  reflected-fits : (j : ℕ) (s : Float) (r : Reduction) → j < n → Fits m n r → Fits m n (reflected n j s r)
  unfolding reflected
  reflected-fits j s r h f =
      let c : List Float = drop j (get_or r.cols j []) in
      let axis : List Float = axis_by (signed s c) c in
      rhs_fits (reflect_from j axis r.rhs) (between (later j axis) (suc j) n (with_diag j (neg (signed s c)) r)) (reflect_long j axis r.rhs ∙ f.rhs_long)
      (between_keeps (λ (i : ℕ) (t : Reduction). Fits m n t) (later j axis) (suc j) n (with_diag j (neg (signed s c)) r) h (diag_fits j (neg (signed s c)) r f)
      (λ i t a b p. later-fits j axis i t b p))

  pub reduced-fits : (j : ℕ) (r : Reduction) → j < n → Fits m n r → Fits m n (reduced n j r)
  unfolding reduced
  reduced-fits j r h f = go (eq (norm (drop j (get_or (pivoted j r).cols j []))) plus_zero)
    where
      p : Fits m n (pivoted j r)
      p = pivot-fits j r h f

      go : (b : Bool) → Fits m n (cond b (with_diag j plus_zero (pivoted j r)) (reflected n j (norm (drop j (get_or (pivoted j r).cols j []))) (pivoted j r)))
      go true = diag_fits j plus_zero (pivoted j r) p
      go false = reflected-fits j (norm (drop j (get_or (pivoted j r).cols j []))) (pivoted j r) h p

  -- ---- the whole
  pub start_fits : (jac res : List Float) → m * n ≤ length jac → length res ≡ m → Fits m n (start (columns m n jac) res)
  unfolding start
  start_fits jac res h g =
      let w = columns-length m n jac in
      record {
        cols_wide = w;
        cols_tall = λ k l. column_long m n jac k l (omega (arith, mul_comm m n));
        diag_long = norms-length (columns m n jac) ∙ w;
        order_long = count-length (length (columns m n jac)) 0 ∙ w;
        rhs_long = g;
      }

  pub reduction-fits : (jac res : List Float) → m * n ≤ length jac → length res ≡ m → Fits m n (reduction_of m n (columns m n jac) res)
  unfolding reduction_of
  reduction-fits jac res h g =
      upto_keeps (λ (i : ℕ) (t : Reduction). Fits m n t) (reduced n) (min m n) (start (columns m n jac) res) (start_fits jac res h g)
      (λ i t l p. reduced-fits i t (omega arith) p)
