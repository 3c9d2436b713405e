-- 2: what is known of sizes that are not outside their ranges. Assumes nothing.
use mathlib.Core.Path.{◌≡◌, refl}
use mathlib.Core.Bool.{Bool, true, false, ◌||◌, true≢false}
use Prim.Native.Nat.{ℕ, ◌*◌, ◌<◌, ◌≤◌}
use native.Mathlib.Nat.{mul-le-mul}
use native.Mathlib.Omega.{arith}
use lib.Dec.{ltb, eqb}
use borrow.Author.Tests.{ltb-false, eqb-false, ne_eqb, le-ltb}
use Rattle.leaves.specs.Tests.{outside}
use Rattle.leaves.proofs.Folds.{nonzero}

pub neither : (a b : Bool) → (a || b) ≡ false → (a ≡ false) × (b ≡ false)
neither true b h = absurd (true≢false h)
neither false b h = (refl, h)

-- ---- 2: sizes within their ranges
pub record Inside (m n : ℕ) : Type 0 where
  pub rows_some : 0 < m
  pub rows_few : m ≤ 128
  pub cols_some : 0 < n
  pub cols_few : n ≤ 16

pub inside : (m n : ℕ) → outside m n ≡ false → Inside m n
unfolding outside
inside m n h =
    let a = neither (eqb m 0 || ltb 128 m || eqb n 0) (ltb 16 n) h in
    let b = neither (eqb m 0 || ltb 128 m) (eqb n 0) a.0 in
    let d = neither (eqb m 0) (ltb 128 m) b.0 in
    record {
      rows_some = nonzero m (eqb-false m 0 d.0);
      rows_few = ltb-false 128 m d.1;
      cols_some = nonzero n (eqb-false n 0 b.1);
      cols_few = ltb-false 16 n a.1;
    }

-- so that the needed lengths are small
pub square_small : {m n : ℕ} → Inside m n → n * n ≤ 256
square_small i = mul-le-mul i.cols_few i.cols_few

pub jacobian_small : {m n : ℕ} → Inside m n → m * n ≤ 2048
jacobian_small i = mul-le-mul i.rows_few i.cols_few

-- and back
pub within : (m n : ℕ) → Inside m n → outside m n ≡ false
unfolding outside
within m n i =
    let a = i.rows_some in
    let b = i.cols_some in
    rw (ne_eqb m 0 (λ (e : m ≡ 0). absurd (omega arith)), le-ltb 128 m i.rows_few, ne_eqb n 0 (λ (e : n ≡ 0). absurd (omega arith)), le-ltb 16 n i.cols_few)

pub one_row : {m n : ℕ} → Inside m n → Inside 1 n
one_row i = record { rows_some = omega arith; rows_few = omega arith; cols_some = i.cols_some; cols_few = i.cols_few }
