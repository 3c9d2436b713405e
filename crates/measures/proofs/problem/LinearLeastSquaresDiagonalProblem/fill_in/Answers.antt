use mathlib.Core.Path.{ap, ◌∙◌}
use Rattle.leaves.specs.Product.{divided_by}
use Rattle.factor.proofs.Copied.{qtb_copied, norms-copied}
use Rattle.measures.proofs.Asked.{qtb_granted, norms-granted}
use Rattle.measures.proofs.Measured.{one_inside}
use Rattle.measures.proofs.problem.LinearLeastSquaresDiagonalProblem.fill_in.Goals as goal

pub unwrap-requires : goal.unwrap-requires
unwrap-requires c =
    let g = c.args in
    let p = g.self.now in
    qtb_granted (one_inside p.some p.sized) p.store.now g.b.now p.sized c.requires.0 c.qt_b.result c.qt_b.ensures

pub unwrap-requires-2 : goal.unwrap-requires-2
unwrap-requires-2 c =
    let g = c.args in
    let p = g.self.now in
    norms-granted (one_inside p.some p.sized) p.store.now g.s.now p.sized c.requires.1 c.norms.result c.norms.ensures

pub returns : goal.returns
returns c =
    let g = c.args in
    let p = g.self.now in
    let i = one_inside p.some p.sized in
    let b = qtb_copied i p.store.now g.b.now p.sized c.requires.0 c.qt_b.ensures in
    record { b_after = c.divide_all.ensures ∙ ap (divided_by g.bnorm) b; s_after = norms-copied i p.store.now g.s.now p.sized c.requires.1 c.norms.ensures }
