use Prim.Native.Nat.{◌+◌, ◌*◌, ◌-◌, ◌≤◌, ◌<◌, ℕ, suc}
use mathlib.Core.Path.{◌≡◌, ap, ◌∙◌}
use native.Mathlib.Omega.{arith}
use lib.ListN.{length, set, take, drop, length-replicate}
use Rattle.leaves.proofs.Triangles.{column_fits}
use Rattle.leaves.proofs.Squares.{column_end}
use Rattle.leaves.proofs.Splices.{lent, filled}
use Rattle.factor.proofs.Lent.{end-upper, end_below}
use mathlib.Core.List.{List, ◌++◌}
use native.Mathlib.Nat.{mul-le-mul}
use lib.Ieee.{Float, of_bits}
use Rattle.leaves.specs.Number.{plus_zero}
use Rattle.leaves.specs.Square.{uppers_of, belows_of, zeros}
use Rattle.leaves.specs.inner.Squares.{Square}
use Rattle.factor.proofs.room.clear_column.Goals as goal

module _ (n k a : ℕ) (y s : List Float) (q : Square n s) (h : k < n) (e : a ≡ k * n + suc k) (f : y ≡ zeros (length (take (k * n + n - a) (drop a s)))) where
  end-zero : y ≡ zeros (n - suc k)
  end-zero = let w : k * n + n - a ≡ n - suc k = omega arith in filled a (k * n + n) y s plus_zero (column_end n s q k h) f ∙ ap zeros w

  left : (uppers_of n (take a s ++ (y ++ drop (k * n + n - a) (drop a s))) ≡ uppers_of n s)
      × (belows_of n (take a s ++ (y ++ drop (k * n + n - a) (drop a s))) ≡ set (belows_of n s) k (zeros (n - suc k)))
  left =
      let l : length y ≡ n - suc k = ap length end-zero ∙ length-replicate (n - suc k) plus_zero in
      rw (lent a (k * n + n) y s (omega arith), e)
      (end-upper n s q k h y l, end_below n s q k h y l ∙ ap (λ (x : List Float). set (belows_of n s) k x) end-zero)

-- the square has at most 16 by 16 numbers, and column k is in it
column : (n k : ℕ) {s : List Float} → Square n s → k < n → k * n + n ≤ 16 * 16
column n k q h = let z = mul-le-mul q.small q.small in omega (arith, column_fits k n n h)

pub overflow_mul-a : goal.overflow_mul-a
overflow_mul-a c = omega (arith, column c.args.n c.args.k c.requires.square c.requires.k_lt_n)

pub overflow_add-a : goal.overflow_add-a
overflow_add-a c = omega (arith, column c.args.n c.args.k c.requires.square c.requires.k_lt_n)

pub overflow_add-a-2 : goal.overflow_add-a-2
overflow_add-a-2 c = omega (arith, column c.args.n c.args.k c.requires.square c.requires.k_lt_n)

pub overflow_mul-e : goal.overflow_mul-e
overflow_mul-e c = omega (arith, column c.args.n c.args.k c.requires.square c.requires.k_lt_n)

pub overflow_add-e : goal.overflow_add-e
overflow_add-e c = omega (arith, column c.args.n c.args.k c.requires.square c.requires.k_lt_n)

pub offset_bounds-square-a : goal.offset_bounds-square-a
offset_bounds-square-a c = omega (arith, column c.args.n c.args.k c.requires.square c.requires.k_lt_n)

pub slice_bounds-fill-end : goal.slice_bounds-fill-end
slice_bounds-fill-end c = column_end c.args.n c.args.square.now c.requires.square c.args.k c.requires.k_lt_n

pub returns : goal.returns
unfolding of_bits
returns c =
    let g = c.args in
    let p = c.requires in
    let e = left g.n g.k _ _ g.square.now p.square p.k_lt_n (omega arith) c.fill.ensures in
    record { square_unchanged = e.0; square_after = e.1 }
