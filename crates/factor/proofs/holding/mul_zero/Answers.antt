use mathlib.Core.Path.{◌∙◌}
use Rattle.factor.specs.Room.{load}
use Rattle.factor.specs.Held.{held_product_of}
use Rattle.factor.proofs.holding.mul_zero.Goals as goal

pub returns : goal.returns
unfolding held_product_of load
returns c = c.mul_upper.ensures ∙ rw (c.part_of.ensures.value, c.square_of.ensures.upper)
