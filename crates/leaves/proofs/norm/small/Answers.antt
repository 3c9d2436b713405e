use lib.Ieee.{of_bits}
use Rattle.leaves.specs.Number.{square_of}
use Rattle.leaves.specs.Norm.{small}
use Rattle.leaves.proofs.norm.small.Goals as goal

pub returns-then-t-v : goal.returns-then-t-v
unfolding of_bits square_of small
returns-then-t-v c = rw (c.if-t-v.true, small)

pub returns-then-v : goal.returns-then-v
unfolding of_bits square_of small
returns-then-v c = rw (c.if-t-v.false, c.if-v.true, small)

pub returns : goal.returns
unfolding of_bits square_of small
returns c = rw (c.if-t-v.false, c.if-v.false, small)
