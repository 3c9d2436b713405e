use mathlib.Core.Path.{◌∙◌}
use Rattle.measures.proofs.Measured.{above_law}
use Rattle.measures.proofs.problem.LinearLeastSquaresDiagonalProblem.above_limit.Goals as goal

pub returns : goal.returns
returns c =
    let g = c.args in
    let p = g.self.now in
    let f = c.fill_in.ensures in
    above_law p.n p.store.now p.permutation.now g.bnorm g.limit f.b_after f.s_after c.above_of.ensures
