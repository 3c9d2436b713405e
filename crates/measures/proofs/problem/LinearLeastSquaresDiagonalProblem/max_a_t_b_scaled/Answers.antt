use mathlib.Core.Path.{◌∙◌}
use Rattle.measures.proofs.Measured.{gradient_law}
use Rattle.measures.proofs.problem.LinearLeastSquaresDiagonalProblem.max_a_t_b_scaled.Goals as goal

pub returns : goal.returns
returns c =
    let g = c.args in
    let p = g.self.now in
    let f = c.fill_in.ensures in
    gradient_law p.n p.store.now p.permutation.now g.bnorm f.b_after f.s_after c.measure_of.ensures
