-- One name for every definition below and of this crate, so that a table of examples says `unfolding opened` and computes with them.
use Rattle.factor.specs.inner.Opened.{opened as factor}
use Rattle.search.specs.Problem.{placed, undamped_step, damped_rows, damped_step, direction, undamped_slope, damped_slope, newton}
use Rattle.search.specs.Bounds.{tenth, thousandth, band, lower_bound_of, quotients, gnorm, upper_bound, first_lambda, raised}
use Rattle.search.specs.Run.{next, trial_of, is_within, is_falling, trials_from, run_of}
use Rattle.search.specs.Measured.{held_by_r, held_by_l, gradient_by, measured_lower, measured_bounds, unless_stopped, measured_trials, measured_by}
use Rattle.search.specs.Search.{concluded, answer_of, search_call}
use Rattle.search.specs.Ending.{ending}
use Rattle.search.specs.Enorm.{one, rdwarf, rgiant, large_component, small_component, component, components, calculated, minpack_enorm}
use Rattle.search.specs.Qrsolv.{do10, do20, by_cotan, by_tan, turn_of, stays, passes, do30, do60, turned_at, do80, damped_at, restored_at, do100, do110, nsing_from, do120, do140, do160, qrsolv}
use Rattle.search.specs.Lmpar.{p1, p001, less_column, backward, gauss_newton, scaled, newton_side, forward, do190, do210, newton_step, parl_of, gradient, paru_of, par_of, evaluated, accepted, parc_of, improved, iterations, lmpar}
use Rattle.search.specs.inner.Counting.{trial_count}

unfoldable pub opened : Unit {0}
unfolding factor placed undamped_step damped_rows damped_step direction undamped_slope damped_slope newton tenth thousandth band lower_bound_of quotients gnorm upper_bound first_lambda raised next trial_of is_within is_falling trials_from run_of held_by_r held_by_l gradient_by measured_lower measured_bounds unless_stopped measured_trials measured_by concluded answer_of search_call ending trial_count one rdwarf rgiant large_component small_component component components calculated minpack_enorm do10 do20 by_cotan by_tan turn_of stays passes do30 do60 turned_at do80 damped_at restored_at do100 do110 nsing_from do120 do140 do160 qrsolv p1 p001 less_column backward gauss_newton scaled newton_side forward do190 do210 newton_step parl_of gradient paru_of par_of evaluated accepted parc_of improved iterations lmpar
opened = tt
