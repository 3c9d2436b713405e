-- What a factoring leaves is a room of n columns. Assumes nothing.
use mathlib.Core.Path.{◌≡◌, refl, ap, ◌∙◌}
use mathlib.Core.List.{List, [], ◌∷◌}
use Prim.Native.Nat.{ℕ, zero, suc, ◌+◌, ◌-◌, ◌*◌, ◌<◌, ◌≤◌}
use native.Mathlib.Nat.{not-suc-le-zero, le_of_suc-le-suc}
use native.Mathlib.Omega.{arith}
use lib.ListN.{length, get_or, length-replicate}
use lib.Ieee.{Float}
use Rattle.leaves.specs.Number.{plus_zero}
use Rattle.leaves.specs.Triangle.{columns}
use Rattle.reduce.specs.Reduction.{Reduction, reduction_of}
use Rattle.factor.specs.Factoring.{uppers, no_lower, factored_room}
use Rattle.factor.specs.inner.Worked.{SquareLong}
use Rattle.factor.proofs.Lays.{column_size, whole_long}
use Rattle.factor.proofs.Stores.{transformed_long}
use Rattle.reduce.proofs.Fitting.{Fits, reduction-fits}
use Rattle.factor.specs.inner.Rooms.{Shaped}

-- ---- the room that it leaves
uppers-wide : (m k : ℕ) (cs : List (List Float)) (ds : List Float) → length cs ≡ length ds → length (uppers m k cs ds) ≡ length cs
unfolding uppers
uppers-wide m k [] ds h = refl
uppers-wide m k (c ∷ cs) [] h = absurd (omega arith)
uppers-wide m k (c ∷ cs) (d ∷ ds) h = ap suc (uppers-wide m (suc k) cs ds (omega arith))

uppers_tall : (m k : ℕ) (cs : List (List Float)) (ds : List Float) → length cs ≡ length ds → (i : ℕ) → i < length cs → length (get_or cs i []) ≡ m
    → length (get_or (uppers m k cs ds) i []) ≡ suc (k + i)
unfolding uppers
uppers_tall m k [] ds h i l t = absurd (not-suc-le-zero l)
uppers_tall m k (c ∷ cs) [] h i l t = absurd (omega arith)
uppers_tall m k (c ∷ cs) (d ∷ ds) h zero l t = column_size m k c d t ∙ omega arith
uppers_tall m k (c ∷ cs) (d ∷ ds) h (suc i) l t = uppers_tall m (suc k) cs ds (omega arith) i (le_of_suc-le-suc l) t ∙ omega arith

pub lower-wide : (n : ℕ) → length (no_lower n) ≡ n
unfolding no_lower
lower-wide zero = refl
lower-wide (suc n) = ap suc (lower-wide n)

pub lower_tall : (n k : ℕ) → k < n → length (get_or (no_lower n) k []) ≡ n - suc k
unfolding no_lower
lower_tall zero k h = absurd (not-suc-le-zero h)
lower_tall (suc n) zero h = length-replicate n plus_zero ∙ omega arith
lower_tall (suc n) (suc k) h = lower_tall n k (le_of_suc-le-suc h) ∙ omega arith

-- LAW: what a factoring leaves is a room of n columns
pub factored_shaped : (m n : ℕ) (norms rest : List Float) (f : Reduction) → Fits m n f → length norms ≡ n → Shaped n (factored_room m n norms f rest)
unfolding factored_room
factored_shaped m n norms rest f z l =
    let w = z.cols_wide in
    let d = z.diag_long in
    record {
      upper_wide = uppers-wide m 0 f.cols f.diag (omega arith) ∙ w;
      upper_tall = λ k h. uppers_tall m 0 f.cols f.diag (omega arith) k (omega arith) (z.cols_tall k h) ∙ omega arith;
      below_wide = lower-wide n;
      below_tall = lower_tall n;
      qtb_long = transformed_long n f.rhs;
      norms_long = l;
      ldiag_long = length-replicate n plus_zero;
      work_long = length-replicate n plus_zero;
    }

-- ---- a reduction keeps the lengths of its columns and of the diagonal
module _ (m n : ℕ) (jacobian residuals : List Float) (h : m * n ≤ length jacobian) (l : length residuals ≡ m) where
  -- LAW: R fills the square
  pub square_filled : SquareLong m n (reduction_of m n (columns m n jacobian) residuals)
  square_filled =
      let z = reduction-fits m n jacobian residuals h l in
      let r = reduction_of m n (columns m n jacobian) residuals in
      whole_long m n r.cols r.diag z.cols_wide z.diag_long z.cols_tall

  -- LAW: a place in the order for each column
  pub order_listed : length (reduction_of m n (columns m n jacobian) residuals).order ≡ n
  order_listed = (reduction-fits m n jacobian residuals h l).order_long
