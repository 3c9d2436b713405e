use mathlib.Core.Path.{sym, ap}
use Rattle.std.specs.Prelude.{is_ok}
use Rattle.factor.specs.Outcome.{Ended}
use Rattle.factor.specs.declared.state.State.{State as Plain}
use Rattle.search.specs.Search.{Flagged, search_call}
use Rattle.calls.proofs.Ways.{empty-worked}
use Rattle.calls.proofs.Resting.{counted_in}
use Rattle.calls.proofs.Backs.{ended-unmarked, first_long, with-store}
use Rattle.calls.proofs.Searches.{search-unmarked, search-refused, search-lent, search-worked}
use Rattle.calls.proofs.trust_region.determine_lambda_and_parameter_update.Goals as goal

pub returns-then-marks-eq0 : goal.returns-then-marks-eq0
returns-then-marks-eq0 c =
    let g = c.args in
    let call : Plain → Ended Flagged = λ p. search_call p g.order.now g.diag.now g.radius g.lambda g.store.now g.out.now in
    let h = ended-unmarked g.st call c.whole.ensures c.determine_lambda_and_parameter_update-t.ensures c.marked.ensures in
    search-unmarked g.st g.order.now g.diag.now g.radius g.lambda g.store.now g.out.now c.if-marks-eq0.true h

pub returns-in-Err : goal.returns-in-Err
returns-in-Err c =
    let g = c.args in
    search-refused g.st g.order.now g.diag.now g.radius g.lambda g.store.now g.out.now _ c.if-marks-eq0.false c.in-Err.ensures

pub invariant_of-p : goal.invariant_of-p
invariant_of-p c =
    let g = c.args in
    let l = search-lent g.st g.order.now g.diag.now g.radius g.lambda g.store.now g.out.now c.in_default.ensures c.free_count-free.ensures in
    record { reducible = counted_in l.ready l.counted }

pub gather-requires : goal.gather-requires
gather-requires c = let g = c.args in (search-lent g.st g.order.now g.diag.now g.radius g.lambda g.store.now g.out.now c.in_default.ensures c.free_count-free.ensures).diag_fits

pub slice_bounds-determine_lambda_and_parameter_update-end : goal.slice_bounds-determine_lambda_and_parameter_update-end
slice_bounds-determine_lambda_and_parameter_update-end c =
    let g = c.args in
    let l = search-lent g.st g.order.now g.diag.now g.radius g.lambda g.store.now g.out.now c.in_default.ensures c.free_count-free.ensures in
    sym (first_long g.st g.store.now _ l.ready l.counted g.order.now l.order_fits)

pub determine_lambda_and_parameter_update-told-requires : goal.determine_lambda_and_parameter_update-told-requires
determine_lambda_and_parameter_update-told-requires c = let g = c.args in (search-lent g.st g.order.now g.diag.now g.radius g.lambda g.store.now g.out.now c.in_default.ensures c.free_count-free.ensures).out_fits

pub unwrap-requires : goal.unwrap-requires
unwrap-requires c =
    let g = c.args in
    let l = search-lent g.st g.order.now g.diag.now g.radius g.lambda g.store.now g.out.now c.in_default.ensures c.free_count-free.ensures in
    ap is_ok (empty-worked l.ready.reducible _ _ c.empty.ensures).0

pub returns : goal.returns
returns c =
    let g = c.args in
    let l = search-lent g.st g.order.now g.diag.now g.radius g.lambda g.store.now g.out.now c.in_default.ensures c.free_count-free.ensures in
    let h = with-store (empty-worked l.ready.reducible _ _ c.empty.ensures).1 c.determine_lambda_and_parameter_update-told.ensures in
    search-worked g.st g.order.now g.diag.now g.radius g.lambda g.store.now g.out.now c.in_default.ensures l.counted c.if-marks-eq0.false c.gather.ensures h
