-- a square has at most 16 by 16 numbers, and column k is in it
use Prim.Native.Nat.{◌+◌, ◌*◌, ◌≤◌, ◌<◌, ℕ}
use mathlib.Core.Path.{refl}
use native.Mathlib.Nat.{mul-le-mul}
use native.Mathlib.Omega.{arith}
use mathlib.Core.List.{List}
use lib.Ieee.{Float}
use Rattle.leaves.specs.inner.Squares.{Square}
use Rattle.leaves.proofs.Triangles.{column_fits}
use Rattle.leaves.proofs.Squares.{column_end}
use Rattle.calls.proofs.Widens.{column_widened}
use Rattle.calls.proofs.widen.widen_column.Goals as goal

inside : (n k : ℕ) {s : List Float} → Square n s → k < n → k * n + n ≤ 16 * 16
inside n k q h = let z = mul-le-mul q.small q.small in omega (arith, column_fits k n n h)

pub overflow_mul-p : goal.overflow_mul-p
overflow_mul-p c = omega (arith, inside c.args.part.n c.args.k c.args.part.square c.requires.k_lt_part.0)

pub overflow_add-p : goal.overflow_add-p
overflow_add-p c = omega (arith, inside c.args.part.n c.args.k c.args.part.square c.requires.k_lt_part.0)

pub overflow_add-p-2 : goal.overflow_add-p-2
overflow_add-p-2 c = omega (arith, inside c.args.part.n c.args.k c.args.part.square c.requires.k_lt_part.0)

pub overflow_mul-q : goal.overflow_mul-q
overflow_mul-q c = omega (arith, inside c.args.part.n c.args.k c.args.part.square c.requires.k_lt_part.0)

pub overflow_add-q : goal.overflow_add-q
overflow_add-q c = omega (arith, inside c.args.part.n c.args.k c.args.part.square c.requires.k_lt_part.0)

pub overflow_mul-a : goal.overflow_mul-a
overflow_mul-a c = omega (arith, inside c.args.n c.args.k c.requires.square (omega arith))

pub overflow_add-a : goal.overflow_add-a
overflow_add-a c = omega (arith, inside c.args.n c.args.k c.requires.square (omega arith))

pub overflow_add-a-2 : goal.overflow_add-a-2
overflow_add-a-2 c = omega (arith, inside c.args.n c.args.k c.requires.square (omega arith))

pub overflow_mul-e : goal.overflow_mul-e
overflow_mul-e c = omega (arith, inside c.args.n c.args.k c.requires.square (omega arith))

pub overflow_add-e : goal.overflow_add-e
overflow_add-e c = omega (arith, inside c.args.n c.args.k c.requires.square (omega arith))

pub offset_bounds-part-p : goal.offset_bounds-part-p
offset_bounds-part-p c = omega (arith, inside c.args.part.n c.args.k c.args.part.square c.requires.k_lt_part.0)

pub slice_bounds-held_into-end : goal.slice_bounds-held_into-end
slice_bounds-held_into-end c = column_end c.args.part.n c.args.part.cells.now c.args.part.square c.args.k c.requires.k_lt_part.0

pub offset_bounds-square-a : goal.offset_bounds-square-a
offset_bounds-square-a c = omega (arith, inside c.args.n c.args.k c.requires.square (omega arith))

pub slice_bounds-held_into-end-2 : goal.slice_bounds-held_into-end-2
slice_bounds-held_into-end-2 c = let h = c.requires.k_lt_part in column_end c.args.n c.args.square.now c.requires.square c.args.k (omega arith)

pub returns : goal.returns
returns c =
    let g = c.args in
    let p = c.requires in
    let e = column_widened g.n g.part.n g.k g.part.cells.now g.square.now p.square g.part.square p.k_lt_part.0 p.k_lt_part.1 _ _ _ _ _ (omega arith) refl (omega arith) refl c.held_into.ensures in
    record { square_unchanged = e.0; square_after = e.1 }
