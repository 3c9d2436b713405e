use lib.Ieee.{of_bits}
use Rattle.search.specs.Run.{is_falling}
use Rattle.search.proofs.bounds.is_falling.Goals as goal

pub returns-then-fp-old : goal.returns-then-fp-old
unfolding is_falling of_bits
returns-then-fp-old c = rw (c.if-lower.true, c.if-fp-old.true) c.is_negative.ensures

pub returns-else-fp-old : goal.returns-else-fp-old
unfolding is_falling of_bits
returns-else-fp-old c = rw (c.if-lower.true, c.if-fp-old.false)

pub returns-else-lower : goal.returns-else-lower
unfolding is_falling of_bits
returns-else-lower c = rw c.if-lower.false
