use mathlib.Core.Path.{ap}
use native.Mathlib.Omega.{arith}
use lib.ListN.{length-take, length-drop}
use Rattle.std.specs.Prelude.{is_ok}
use Rattle.leaves.proofs.Folds.{axpy_fits}
use Rattle.measures.proofs.gradient.Gradients.{ends_in, column_added}
use Rattle.measures.proofs.problem.LinearLeastSquaresDiagonalProblem.add_column.Goals as goal

pub unwrap-requires : goal.unwrap-requires
unwrap-requires c =
    let p = c.args.self.now in
    let e = ends_in p.n p.store.now p.sized c.args.i c.requires.0 in
    ap is_ok (axpy_fits _ _ _ _ _ (simp (length-take, length-drop) (omega arith)) c.axpy.ensures).0

pub returns : goal.returns
returns c =
    let g = c.args in
    let p = g.self.now in
    let e = ends_in p.n p.store.now p.sized g.i c.requires.0 in
    column_added p.n p.store.now g.w.now _ g.x p.sized g.i c.requires.0
    (axpy_fits _ _ _ _ _ (simp (length-take, length-drop) (omega arith)) c.axpy.ensures).1
