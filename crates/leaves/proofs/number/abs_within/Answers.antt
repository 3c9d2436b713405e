use Rattle.leaves.proofs.number.Near.{within_if, within_not}
use Rattle.leaves.proofs.number.abs_within.Goals as goal

pub returns-then-a-x : goal.returns-then-a-x
returns-then-a-x c = within_if _ _ c.if-a-x.true

pub returns-else-a-x : goal.returns-else-a-x
returns-else-a-x c = within_not _ _ c.if-a-x.false
