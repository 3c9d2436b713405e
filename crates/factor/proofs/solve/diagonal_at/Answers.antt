use mathlib.Core.Path.{sym}
use Rattle.leaves.proofs.Squares.{diagonal_at}
use Rattle.factor.proofs.solve.diagonal_at.Goals as goal

pub returns : goal.returns
returns c = sym (diagonal_at _ _ c.args.square.square _ c.requires)
