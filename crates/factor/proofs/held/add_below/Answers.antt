use mathlib.Core.Path.{ap}
use native.Mathlib.Omega.{arith}
use lib.ListN.{length-set, length-take, length-drop}
use Rattle.std.specs.Prelude.{is_ok}
use Rattle.leaves.proofs.Squares.{column_end}
use Rattle.leaves.proofs.Folds.{axpy_fits}
use Rattle.factor.proofs.held.Helds.{below_law}
use Rattle.factor.proofs.held.add_below.Goals as goal

pub unwrap-requires : goal.unwrap-requires
unwrap-requires c = ap is_ok (axpy_fits _ _ _ _ _ (simp (length-take, length-drop, length-set) (omega (arith, column_end _ _ c.args.square.square c.args.j c.requires.j_lt_n))) c.axpy.ensures).0

pub returns : goal.returns
returns c =
    let g = c.args in
    below_law g.square.n g.square.cells.now c.args.square.square g.j c.requires.j_lt_n g.w.now _ g.v g.a c.requires.w_len
    (axpy_fits _ _ _ _ _ (simp (length-take, length-drop, length-set) (omega (arith, column_end _ _ c.args.square.square c.args.j c.requires.j_lt_n))) c.axpy.ensures).1
