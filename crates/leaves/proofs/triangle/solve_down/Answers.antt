use mathlib.Core.Path.{sym, ◌∙◌}
use Rattle.leaves.specs.Triangle.{columns}
use Rattle.leaves.proofs.Triangles.{down_step, down_end}
use Rattle.leaves.proofs.triangle.solve_down.Goals as goal

pub loop-i-preserved : goal.loop-i-preserved
loop-i-preserved c =
    let l = c.loop-i in
    let g = c.args in
    rw c.solve_place.ensures (down_step (columns g.apart g.n g.r.now) l.i l.x c.loop-i-test.true ∙ l.invariant)

pub returns : goal.returns
returns c =
    let l = c.loop-i in
    let g = c.args in
    sym (down_end (columns g.apart g.n g.r.now) l.i l.x c.loop-i-test.false) ∙ l.invariant
