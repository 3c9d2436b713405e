use lib.Ieee.{of_bits}
use Rattle.leaves.specs.Number.{square_of}
use Rattle.leaves.specs.Norm.{large}
use Rattle.leaves.proofs.norm.large.Goals as goal

pub returns-then-t-v : goal.returns-then-t-v
unfolding of_bits square_of large
returns-then-t-v c = rw (c.if-t-v.true, large)

pub returns-else-t-v : goal.returns-else-t-v
unfolding of_bits square_of large
returns-else-t-v c = rw (c.if-t-v.false, large)
