-- One name for every definition of the crates below and of this crate, so that a table of examples says `unfolding opened` and computes with them.
use Rattle.reduce.specs.inner.Opened.{opened as reduce}
use Rattle.eliminate.specs.inner.Opened.{opened as eliminate}
use Rattle.factor.specs.Room.{part, load, lay, leaving}
use Rattle.factor.specs.Tests.{absent, distinct_below}
use Rattle.factor.specs.Factoring.{upper_column, uppers, transformed, no_lower, factored_room, all_finite_in, finite_room, factor_worked, factor_call}
use Rattle.factor.specs.Filled.{factor_filled}
use Rattle.factor.specs.Solve.{rank, scatter, gather, zero_solved, no_zero, non_singular_of, backward, damped_solved}
use Rattle.factor.specs.Solves.{zero_call, damped_room, damped_call}
use Rattle.factor.specs.Held.{forward_upper, forward_lower, held_solved, mul_upper, mul_lower, held_product_of}
use Rattle.factor.specs.HeldCalls.{solve_call, mul_call}
use Rattle.factor.specs.PivotOrder.{zero_in, lowered, damped_in, held_zero_in, held_damped_in, product_in, full_rank, empty_in}
use Rattle.factor.specs.Parts.{qtb_in, norms_in, diagonal_in, rest_in}

unfoldable pub opened : Unit {0}
unfolding reduce eliminate part load lay leaving absent distinct_below upper_column uppers transformed no_lower factored_room all_finite_in finite_room factor_worked factor_call factor_filled rank scatter gather zero_solved no_zero non_singular_of backward damped_solved zero_call damped_room damped_call forward_upper forward_lower held_solved mul_upper mul_lower held_product_of solve_call mul_call zero_in lowered damped_in held_zero_in held_damped_in product_in full_rank empty_in qtb_in norms_in diagonal_in rest_in
opened = tt
