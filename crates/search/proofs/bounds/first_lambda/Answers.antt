use lib.Ieee.{of_bits}
use Rattle.search.specs.Bounds.{first_lambda}
use Rattle.search.proofs.bounds.first_lambda.Goals as goal

pub returns-then-l : goal.returns-then-l
unfolding first_lambda of_bits
returns-then-l c = rw (← c.max.ensures, ← c.min-l.ensures, c.if-l.true)

pub returns-else-l : goal.returns-else-l
unfolding first_lambda of_bits
returns-else-l c = rw (← c.max.ensures, ← c.min-l.ensures, c.if-l.false)
