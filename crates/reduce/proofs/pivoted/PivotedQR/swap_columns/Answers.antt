use Prim.Native.Nat.{suc, ◌+◌}
use mathlib.Core.Path.{◌≡◌, sym, ap, ◌∙◌}
use native.Mathlib.Omega.{arith}
use native.Mathlib.Numerals.{add-one}
use lib.Ieee.{nan}
use Rattle.reduce.specs.inner.Bench.{grid}
use Rattle.reduce.specs.inner.Going.{grid_of}
use Rattle.leaves.proofs.Squares.{columns-length}
use Rattle.leaves.proofs.Grids.{column_long}
use Rattle.reduce.proofs.Pivots.{swap_place_lem, fronts_turn, fronts_all}
use Rattle.reduce.proofs.pivoted.PivotedQR.swap_columns.Goals as goal

pub loop-i-preserved : goal.loop-i-preserved
loop-i-preserved c =
    let g = c.args in
    let q = g.self.now in
    let l = c.loop-i in
    let a = c.row_at-a in
    let b = c.row_at-b in
    let h = c.loop-i-test.true in
    let e = columns-length q.m (suc q.n) q.bench.now in
    let x = column_long q.m (suc q.n) q.bench.now g.j (omega arith) (omega arith) in
    let y = column_long q.m (suc q.n) q.bench.now g.k (omega arith) (omega arith) in
    swap_place_lem q.m (suc q.n) l.bench g.j g.k l.i (a.result + l.i) (b.result + l.i) (omega arith) (omega arith) (omega arith) (omega arith) (omega arith)
    ∙ rw (l.invariant, add-one) (fronts_turn g.j g.k (grid_of q) (omega arith) (omega arith) l.i (omega arith) (omega arith))

pub returns-clause-after : goal.returns-clause-after
returns-clause-after c =
    let g = c.args in
    let q = g.self.now in
    let l = c.loop-i in
    let size = columns-length q.m (suc q.n) q.bench.now in
    let e : l.i ≡ q.m = omega arith in
    l.invariant ∙ rw e (fronts_all g.j g.k (grid_of q) (omega arith) (omega arith) q.m (column_long q.m (suc q.n) q.bench.now g.j (omega arith) (omega arith)) (column_long q.m (suc q.n) q.bench.now g.k (omega arith) (omega arith)))
