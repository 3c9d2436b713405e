use mathlib.Core.Path.{ap}
use native.Mathlib.Omega.{arith}
use lib.ListN.{length-take, length-drop}
use Rattle.std.specs.Prelude.{is_ok}
use Rattle.leaves.proofs.Squares.{column_end}
use Rattle.leaves.proofs.Folds.{dot_fits}
use Rattle.factor.proofs.Answers.{unwrapped}
use Rattle.factor.proofs.Backs.{back_law}
use Rattle.factor.proofs.solve.backward_place.Goals as goal

pub unwrap-s-requires : goal.unwrap-s-requires
unwrap-s-requires c = ap is_ok (dot_fits _ _ _ (simp (length-take, length-drop) (omega (arith, column_end _ _ c.args.l.square.square c.args.j (omega arith)))) c.dot.ensures)

pub returns : goal.returns
returns c =
    let g = c.args in
    back_law g.l.square.n _ c.args.l.square.square g.j (omega arith) g.full g.w.now _ _ (omega arith)
    (unwrapped c.unwrap-s.ensures (dot_fits _ _ _ (simp (length-take, length-drop) (omega (arith, column_end _ _ c.args.l.square.square c.args.j (omega arith)))) c.dot.ensures))
