-- One name for every definition of the leaves and of this crate, so that a table of examples says `unfolding opened` and computes with them.
use Rattle.leaves.specs.inner.Opened.{opened as leaves}
use Rattle.reduce.specs.Reduction.{swap, pivoted, axis_by, reflect, reflect_from, shrunk, twentieth, renewed, later, signed, reflected, reduced, start, reduction_of, remeasured, measured_later, measured_reflected, measured_at, measured}
use Rattle.reduce.specs.Reduced.{flat, reduce_call, filled_call}

unfoldable pub opened : Unit {0}
unfolding leaves swap pivoted axis_by reflect reflect_from shrunk twentieth renewed later signed reflected reduced start reduction_of remeasured measured_later measured_reflected measured_at measured flat reduce_call filled_call
opened = tt
