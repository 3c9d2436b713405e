use mathlib.Core.Path.{sym}
use lib.ListN.{length, take}
use lib.Seq.{length-take-le}
use Rattle.factor.specs.declared.state.State.{State as Plain}
use Rattle.measures.specs.Measures as plain
use Rattle.calls.specs.State.{cols, without_frozen}
use Rattle.calls.specs.Outcome.{narrowed_in}
use Rattle.calls.specs.Measures.{marked_above_tests, marked_above}
use Rattle.calls.proofs.Measured.{above_ready, above_read}
use Rattle.calls.proofs.Resting.{counted_each, counted_in, rest_unmarked, rest_refused, rest_worked, rest_granted}
use Rattle.calls.proofs.above.above_limit.Goals as goal

pub returns-then-marks-eq0 : goal.returns-then-marks-eq0
unfolding marked_above
returns-then-marks-eq0 c =
    let g = c.args in
    let s = g.store.now in
    let o = g.order.now in
    rest_unmarked g.st s (marked_above_tests g.st (length s) o g.bnorm g.limit) (λ (p : Plain). plain.above_call p o g.bnorm g.limit s)
    (plain.above_call (without_frozen g.st) (take (cols g.st) o) g.bnorm g.limit (narrowed_in g.st s)) c.if-marks-eq0.true c.whole.ensures c.above_limit-t.ensures c.marked.ensures

pub returns-in-Err : goal.returns-in-Err
unfolding marked_above
returns-in-Err c =
    let g = c.args in
    let s = g.store.now in
    let o = g.order.now in
    rest_refused g.st s (marked_above_tests g.st (length s) o g.bnorm g.limit) (λ (p : Plain). plain.above_call p o g.bnorm g.limit s)
    (plain.above_call (without_frozen g.st) (take (cols g.st) o) g.bnorm g.limit (narrowed_in g.st s)) _ c.if-marks-eq0.false c.in-Err.ensures

pub slice_bounds-above_limit-end : goal.slice_bounds-above_limit-end
slice_bounds-above_limit-end c =
    let g = c.args in
    let r = above_ready g.st g.store.now g.order.now g.bnorm g.limit c.in_default.ensures in
    sym (length-take-le c.free_count-free.result g.order.now (counted_each r c.free_count-free.ensures))

pub invariant_of-p : goal.invariant_of-p
invariant_of-p c =
    let g = c.args in
    record { reducible = counted_in (above_ready g.st g.store.now g.order.now g.bnorm g.limit c.in_default.ensures) c.free_count-free.ensures }

pub unwrap-requires : goal.unwrap-requires
unwrap-requires c =
    let g = c.args in
    rest_granted (above_ready g.st g.store.now g.order.now g.bnorm g.limit c.in_default.ensures) c.rest.result c.rest.ensures

pub returns : goal.returns
unfolding marked_above
returns c =
    let g = c.args in
    let s = g.store.now in
    let o = g.order.now in
    rest_worked g.st s (marked_above_tests g.st (length s) o g.bnorm g.limit) (λ (p : Plain). plain.above_call p o g.bnorm g.limit s)
    (plain.above_call (without_frozen g.st) (take (cols g.st) o) g.bnorm g.limit (narrowed_in g.st s)) (above_ready g.st g.store.now g.order.now g.bnorm g.limit c.in_default.ensures) c.rest.result c.rest.ensures c.if-marks-eq0.false c.in_default.ensures
    (above_read g.st s o g.bnorm g.limit c.free_count-free.ensures c.above_limit-answer.ensures)
