use lib.Ieee.{of_bits, neg, nan_bits}
use Rattle.leaves.proofs.Signs.{below_top, not_above_bottom}
use Rattle.leaves.proofs.number.is_finite.Goals as goal

pub float_from_bits-top : goal.float_from_bits-top
unfolding nan_bits
float_from_bits-top c = tt

pub returns-then-top-x : goal.returns-then-top-x
unfolding of_bits neg
returns-then-top-x c = below_top _ c.if-top-x.true

pub returns-else-top-x : goal.returns-else-top-x
unfolding of_bits neg
returns-else-top-x c = not_above_bottom _ c.if-top-x.false
