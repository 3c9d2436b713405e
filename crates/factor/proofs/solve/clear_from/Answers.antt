use lib.Ieee.{of_bits}
use Rattle.factor.proofs.Solves.{tail_cleared}
use Rattle.factor.proofs.solve.clear_from.Goals as goal

pub returns : goal.returns
unfolding of_bits
returns c = tail_cleared _ _ c.args.k c.requires c.fill.ensures
