use Prim.Native.Nat.{◌+◌, ◌-◌, suc}
use mathlib.Core.Path.{ap, ◌∙◌}
use native.Mathlib.Omega.{arith}
use Rattle.reduce.specs.Reduction.{axis_by, signed}
use Rattle.leaves.proofs.Grids.{tail_part}
use Rattle.reduce.proofs.pivoted.PivotedQR.axis_of.Goals as goal

pub returns : goal.returns
returns c =
    let g = c.args in
    let b = g.self.now in
    let q = c.row_at-a in
    let part = tail_part b.m (suc b.n) g.j g.j b.bench.now q.result (q.result + (b.m - g.j) - q.result) q.ensures.value (omega arith) (omega arith) in
    record { value = c.signed-t.ensures ∙ ap (signed g.s) part; axis_after = c.make_axis.ensures ∙ ap (axis_by c.signed-t.result) part }
