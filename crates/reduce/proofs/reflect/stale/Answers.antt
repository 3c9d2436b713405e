use lib.Ieee.{of_bits, round}
use Rattle.leaves.specs.Number.{square_of}
use Rattle.reduce.specs.Reduction.{twentieth}
use Rattle.reduce.proofs.reflect.stale.Goals as goal

pub returns : goal.returns
unfolding of_bits round square_of twentieth
returns c = rw c.epsmch.ensures
