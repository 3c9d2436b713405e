use lib.Ieee.{of_bits}
use Rattle.measures.specs.Scaling.{radius_of}
use Rattle.measures.proofs.scaling.radius.Goals as goal

pub returns-then-xnorm : goal.returns-then-xnorm
unfolding of_bits radius_of
returns-then-xnorm c = rw (c.if-xnorm.true, radius_of)

pub returns-else-xnorm : goal.returns-else-xnorm
unfolding of_bits radius_of
returns-else-xnorm c = rw (c.if-xnorm.false, radius_of)
