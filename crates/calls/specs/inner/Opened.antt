-- One name for every definition of the crates below and of this crate, so that a table of examples says `unfolding opened` and computes with them.
use Rattle.measures.specs.inner.Opened.{opened as measures}
use Rattle.search.specs.inner.Opened.{opened as search}
use Rattle.frozen.specs.Frozen.{marks_of, mark_past, free_count, free_of, merged, free_columns}
use Rattle.frozen.specs.Narrowed.{runs, narrowed, spread, spread_out}
use Rattle.calls.specs.Tests.{continues}
use Rattle.calls.specs.Outcome.{widened}
use Rattle.calls.specs.Factoring.{marked_factoring}
use Rattle.calls.specs.Solves.{marked_zero, marked_damped}
use Rattle.calls.specs.HeldCalls.{marked_solve, marked_mul}
use Rattle.calls.specs.Measures.{marked_gradient, marked_above, marked_jx, marked_determined, marked_non_singular}
use Rattle.calls.specs.Rescale.{marked_scaling_tests, frozen_entries, marked_scaling}
use Rattle.calls.specs.Search.{marked_search}

unfoldable pub opened : Unit {0}
unfolding measures search marks_of mark_past free_count free_of merged free_columns runs narrowed spread spread_out continues widened marked_factoring marked_zero marked_damped marked_solve marked_mul marked_gradient marked_above marked_jx marked_determined marked_non_singular marked_scaling_tests frozen_entries marked_scaling marked_search
opened = tt
