use lib.Ieee.{of_bits}
use Rattle.eliminate.specs.Eliminate.{lesser}
use Rattle.eliminate.proofs.eliminate.lesser_of.Goals as goal

pub returns : goal.returns
unfolding of_bits lesser
returns c = rw c.sqrt.ensures
