use mathlib.Core.Path.{ap, ◌∙◌}
use native.Mathlib.Omega.{arith}
use lib.ListN.{length-take, length-drop}
use Rattle.std.specs.Prelude.{is_ok}
use Rattle.leaves.proofs.Folds.{dot_fits}
use Rattle.measures.proofs.Asked.{dot_taken}
use Rattle.measures.proofs.gradient.Gradients.{ends_in, measure_is}
use Rattle.measures.proofs.problem.LinearLeastSquaresDiagonalProblem.measure.Goals as goal

pub unwrap-requires : goal.unwrap-requires
unwrap-requires c =
    let p = c.args.self.now in
    let e = ends_in p.n p.store.now p.sized c.args.j c.requires.0 in
    ap is_ok (dot_fits _ _ _ (simp (length-take, length-drop) (omega arith)) c.dot.ensures)

pub returns : goal.returns
returns c =
    let g = c.args in
    let p = g.self.now in
    let e = ends_in p.n p.store.now p.sized g.j c.requires.0 in
    let d = dot_taken _ _ c.dot.result (simp (length-take, length-drop) (omega arith)) c.dot.ensures c.unwrap.ensures in
    c.abs.ensures ∙ measure_is p.n p.store.now g.b.now g.s p.sized g.j c.requires.0 d
