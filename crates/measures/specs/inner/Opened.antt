-- One name for every definition of the crates below and of this crate, so that a table of examples says `unfolding opened` and computes with them.
use Rattle.factor.specs.inner.Opened.{opened as factor}
use Rattle.measures.specs.Gradient.{measures, largest, gradient, above, above_limit, combined, jx_norm_of, jx_ranges}
use Rattle.measures.specs.Scaling.{first_scaling, later_scaling, radius_of}
use Rattle.measures.specs.Determined.{limit_of, leading, determined_of}
use Rattle.measures.specs.Measures.{gradient_call, above_call, jx_call, determined_call, non_singular_call}
use Rattle.measures.specs.Rescale.{scaling_tests, rescaled, scaling_call}

unfoldable pub opened : Unit {0}
unfolding factor measures largest gradient above above_limit combined jx_norm_of jx_ranges first_scaling later_scaling radius_of limit_of leading determined_of gradient_call above_call jx_call determined_call non_singular_call scaling_tests rescaled scaling_call
opened = tt
