-- One name for every definition below and of this crate, so that a table of examples says `unfolding opened` and computes with them.
use Rattle.frozen.specs.Frozen.{marks_of, mark_past, free_count, free_of, merged, free_columns}
use Rattle.frozen.specs.Narrowed.{runs, narrowed, spread, spread_out}
use Rattle.measures.specs.inner.Opened.{opened as measures}
use Rattle.search.specs.inner.Opened.{opened as search}
use Rattle.calls.specs.Factoring.{marked_factoring}
use Rattle.calls.specs.HeldCalls.{marked_solve, marked_mul}
use Rattle.calls.specs.Measures.{marked_gradient, marked_above, marked_jx, marked_determined, marked_non_singular}
use Rattle.calls.specs.Outcome.{widened}
use Rattle.calls.specs.Rescale.{marked_scaling_tests, frozen_entries, marked_scaling}
use Rattle.calls.specs.Search.{marked_search}
use Rattle.calls.specs.Solves.{marked_zero, marked_damped}
use Rattle.calls.specs.Tests.{continues}
use Rattle.demands.specs.Calls.{perform_store as perform_basic, run, latest}
use Rattle.demands.specs.History.{perform}
use Rattle.demands.specs.Marked.{perform_marked, tests_marked, reduced_call, answered_out, store_back, perform_under, reduced_run}

unfoldable pub opened : Unit {0}
unfolding measures search perform_basic run latest perform
opened = tt

-- and with those of the calls with marks
unfoldable pub opened_marked : Unit {0}
unfolding opened marks_of mark_past free_count free_of merged free_columns runs narrowed spread spread_out marked_factoring marked_solve marked_mul marked_gradient marked_above marked_jx marked_determined marked_non_singular widened marked_scaling_tests frozen_entries marked_scaling marked_search marked_zero marked_damped continues perform_marked tests_marked reduced_call answered_out store_back perform_under reduced_run
opened_marked = tt
