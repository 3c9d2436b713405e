use mathlib.Core.Path.{ap, ◌∙◌}
use mathlib.Core.List.{List}
use Prim.Native.Nat.{suc}
use lib.Ieee.{Float}
use Rattle.leaves.specs.Norm.{either, ranges_of}
use Rattle.leaves.proofs.Squares.{columns-length}
use Rattle.reduce.specs.inner.Bench.{renewing, measured_renewing}
use Rattle.reduce.specs.inner.Going.{grid_of}
use Rattle.reduce.proofs.Going.{beside-going}
use Rattle.reduce.proofs.reflect.Reductions.{later_law, later-measured}
use Rattle.reduce.proofs.pivoted.PivotedQR.later_column.Goals as goal

pub returns-clause-after : goal.returns-clause-after
returns-clause-after c =
    let g = c.args in
    let q = g.self.now in
    let x = c.reflect_column in
    let long = columns-length q.m (suc q.n) q.bench.now in
    c.renew.ensures.after ∙ ap (renewing g.j g.k) (beside-going x.ensures.beside)
    ∙ later_law q.n g.j g.k g.axis.now (grid_of q) (grid_of x.new.self) q.diag.now q.work.now q.order.now c.requires.k_lt_n long x.ensures.after

pub returns-clause-sees : goal.returns-clause-sees
returns-clause-sees c =
    let g = c.args in
    let q = g.self.now in
    let x = c.reflect_column in
    let b = x.ensures.beside in
    let long = columns-length q.m (suc q.n) q.bench.now in
    let m = ap (measured_renewing g.j g.k) (beside-going b) ∙ later-measured q.n g.j g.k g.axis.now (grid_of q) (grid_of x.new.self) q.diag.now q.work.now q.order.now c.requires.k_lt_n long x.ensures.after in
    c.renew.ensures.sees ∙ rw b.seen (ap (λ (v : List (List Float)). either q.seen (ranges_of v)) m)
