-- a square of at most 16 by 16, and a part that is one of four
use Prim.Native.Nat.{ℕ, ◌<◌, ◌+◌, ◌*◌, ◌≤◌}
use mathlib.Core.Path.{refl}
use native.Mathlib.Omega.{arith}
use native.Mathlib.Nat.{mul-le-mul}
use Rattle.leaves.proofs.Triangles.{column_fits}
use Rattle.factor.proofs.room.part_at.Goals as goal

square : (a : ℕ) → a ≤ 16 → a * a ≤ 16 * 16
square a h = mul-le-mul h h

within : (k n : ℕ) → k < 4 → k * n + n ≤ 4 * n
within k n h = column_fits k 4 n h

pub overflow_mul-result : goal.overflow_mul-result
overflow_mul-result c = omega (arith, square c.args.apart (omega arith))

pub overflow_mul-result-2 : goal.overflow_mul-result-2
overflow_mul-result-2 c = omega (arith, within c.args.k c.args.n (omega arith))

pub overflow_add-result : goal.overflow_add-result
overflow_add-result c = omega (arith, square c.args.apart (omega arith), within c.args.k c.args.n (omega arith))

pub returns : goal.returns
returns c = (refl, omega (arith, within c.args.k c.args.n (omega arith)))
