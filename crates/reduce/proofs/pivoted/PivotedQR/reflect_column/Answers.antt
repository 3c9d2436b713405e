use Prim.Native.Nat.{◌+◌, ◌-◌, suc}
use native.Mathlib.Omega.{arith}
use Rattle.reduce.specs.Reduction.{reflect as reflect_of, reflect_from}
use Rattle.leaves.proofs.Grids.{tail_lent}
use Rattle.reduce.proofs.pivoted.PivotedQR.reflect_column.Goals as goal

pub returns-clause-after : goal.returns-clause-after
unfolding reflect_from
returns-clause-after c =
    let g = c.args in
    let b = g.self.now in
    let x = c.reflect in
    let q = c.row_at-a in
    tail_lent b.m (suc b.n) g.k g.j b.bench.now (reflect_of g.axis.now) _ (q.result + (b.m - g.j) - q.result) _ q.ensures.value (omega arith) (omega arith) (omega arith) (omega arith)
    x.ensures x.auto.col
