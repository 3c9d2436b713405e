use Rattle.leaves.proofs.number.Near.{below_if, below_not}
use Rattle.leaves.proofs.number.abs_below.Goals as goal

pub returns-then-a-x : goal.returns-then-a-x
returns-then-a-x c = below_if _ _ c.if-a-x.true

pub returns-else-a-x : goal.returns-else-a-x
returns-else-a-x c = below_not _ _ c.if-a-x.false
