-- column k is one of n + 1, and a bench has at most 17 columns of 128
use Prim.Native.Nat.{ℕ, suc, ◌+◌, ◌*◌, ◌≤◌}
use mathlib.Core.Path.{refl}
use native.Mathlib.Omega.{arith}
use native.Mathlib.Nat.{mul-le-mul}
use Rattle.leaves.proofs.Triangles.{column_fits}
use Rattle.factor.proofs.laying.column_at.Goals as goal

within : (k n m : ℕ) → k ≤ n → k * m + m ≤ suc n * m
within k n m h = column_fits k (suc n) m (omega arith)

small : (n m : ℕ) → n ≤ 16 → m ≤ 128 → suc n * m ≤ 17 * 128
small n m h k = let w : suc n ≤ 17 = omega arith in mul-le-mul w k

pub overflow_mul-result : goal.overflow_mul-result
overflow_mul-result c = omega (arith, within c.args.k c.args.n c.args.m (omega arith), small c.args.n c.args.m (omega arith) (omega arith))

pub returns : goal.returns
returns c = record { value = refl; m_bound_2 = within c.args.k c.args.n c.args.m (omega arith) }
