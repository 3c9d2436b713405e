use mathlib.Core.Path.{sym}
use Rattle.factor.specs.Solves.{damped_call}
use Rattle.factor.specs.declared.state.State.{State as Plain}
use Rattle.calls.proofs.Ways.{first_places}
use Rattle.calls.proofs.Resting.{counted_in}
use Rattle.calls.proofs.Backs.{ended-unmarked, first_long, with-store}
use Rattle.calls.proofs.Damps.{call-unmarked, call-stopped, passed, call-worked, widened-first}
use Rattle.calls.proofs.least_squares.solve_with_diagonal.Goals as goal

pub returns-then-marks-eq0 : goal.returns-then-marks-eq0
returns-then-marks-eq0 c =
    let g = c.args in
    call-unmarked g.st g.diag.now g.order.now g.store.now g.out.now c.if-marks-eq0.true (ended-unmarked g.st (λ (p : Plain). damped_call p g.diag.now g.order.now g.store.now g.out.now) c.whole.ensures c.solve_with_diagonal-t.ensures c.marked.ensures)

pub returns-in-Err : goal.returns-in-Err
returns-in-Err c =
    let g = c.args in
    call-stopped g.st g.diag.now g.order.now g.store.now g.out.now _ c.if-marks-eq0.false c.in-Err.ensures

pub invariant_of-p : goal.invariant_of-p
invariant_of-p c =
    let g = c.args in
    let l = passed g.st g.diag.now g.order.now g.store.now g.out.now c.in_default.ensures c.free_count-free.ensures in
    record { reducible = counted_in l.ready l.counted }

pub gather-requires : goal.gather-requires
gather-requires c = let g = c.args in (passed g.st g.diag.now g.order.now g.store.now g.out.now c.in_default.ensures c.free_count-free.ensures).diag_fits

pub slice_bounds-solve_with_diagonal-end : goal.slice_bounds-solve_with_diagonal-end
slice_bounds-solve_with_diagonal-end c =
    let g = c.args in
    let l = passed g.st g.diag.now g.order.now g.store.now g.out.now c.in_default.ensures c.free_count-free.ensures in
    sym (first_long g.st g.store.now _ l.ready l.counted g.order.now l.order_fits)

pub solve_with_diagonal-told-requires : goal.solve_with_diagonal-told-requires
solve_with_diagonal-told-requires c = let g = c.args in (passed g.st g.diag.now g.order.now g.store.now g.out.now c.in_default.ensures c.free_count-free.ensures).out_fits

pub widen_in-requires : goal.widen_in-requires
widen_in-requires c =
    let g = c.args in
    let l = passed g.st g.diag.now g.order.now g.store.now g.out.now c.in_default.ensures c.free_count-free.ensures in
    let n = c.need-need.ensures in
    record { reducible = counted_in l.ready l.counted; small_len = first_places c.solve_with_diagonal-told.new.small c.solve_with_diagonal-told.array_long n.fits n.value }

pub returns : goal.returns
returns c =
    let g = c.args in
    let f = c.free_count-free.ensures in
    let s = widened-first g.st c.solve_with_diagonal-told.new.small g.store.now f c.need-need.ensures.value c.widen_in.ensures in
    call-worked g.st g.diag.now g.order.now g.store.now g.out.now c.in_default.ensures c.if-marks-eq0.false f c.gather.ensures (with-store s c.solve_with_diagonal-told.ensures)
