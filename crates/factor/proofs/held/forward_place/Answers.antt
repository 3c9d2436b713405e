use mathlib.Core.Path.{ap}
use native.Mathlib.Omega.{arith}
use lib.ListN.{length-take, length-drop}
use Rattle.std.specs.Prelude.{is_ok}
use Rattle.leaves.proofs.Squares.{column_end}
use Rattle.leaves.proofs.Folds.{dot_fits}
use Rattle.factor.proofs.Answers.{unwrapped}
use Rattle.factor.proofs.held.Helds.{forward_law}
use Rattle.factor.proofs.held.forward_place.Goals as goal

pub unwrap-s-requires : goal.unwrap-s-requires
unwrap-s-requires c = ap is_ok (dot_fits _ _ _ (simp (length-take, length-drop) (omega (arith, column_end _ _ c.args.square.square c.args.j c.requires.j_lt_n))) c.dot.ensures)

pub returns : goal.returns
returns c =
    let g = c.args in
    forward_law g.square.n _ c.args.square.square g.j c.requires.j_lt_n g.w.now _ (unwrapped c.unwrap-s.ensures (dot_fits _ _ _ (simp (length-take, length-drop) (omega (arith, column_end _ _ c.args.square.square c.args.j c.requires.j_lt_n))) c.dot.ensures))
