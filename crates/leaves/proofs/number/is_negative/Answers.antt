use Rattle.leaves.proofs.Signs.{zero_sign, other_sign}
use Rattle.leaves.proofs.number.is_negative.Goals as goal

pub returns-then-x : goal.returns-then-x
returns-then-x c = zero_sign _ c.if-x.true

pub returns-else-x : goal.returns-else-x
returns-else-x c = other_sign _ c.if-x.false
