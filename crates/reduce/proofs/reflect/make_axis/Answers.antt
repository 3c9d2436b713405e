use lib.Ieee.{of_bits}
use Rattle.reduce.specs.Reduction.{axis_by}
use Rattle.reduce.proofs.reflect.make_axis.Goals as goal

pub returns : goal.returns
unfolding axis_by of_bits
returns c = rw (c.divide.ensures, axis_by)
