use lib.Ieee.{of_bits}
use Rattle.measures.proofs.scaling.first_entry.Goals as goal

pub returns-then-s : goal.returns-then-s
unfolding of_bits
returns-then-s c = rw c.if-s.true

pub returns-else-s : goal.returns-else-s
unfolding of_bits
returns-else-s c = rw c.if-s.false
