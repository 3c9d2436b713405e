use mathlib.Core.Path.{sym}
use lib.ListN.{length, take}
use lib.Seq.{length-take-le}
use Rattle.factor.specs.declared.state.State.{State as Plain}
use Rattle.measures.specs.Measures as plain
use Rattle.calls.specs.State.{cols, without_frozen}
use Rattle.calls.specs.Outcome.{narrowed_in}
use Rattle.calls.specs.Measures.{marked_gradient}
use Rattle.calls.proofs.Measured.{gradient_tests, gradient_ready, gradient_read}
use Rattle.calls.proofs.Resting.{counted_each, counted_in, rest_unmarked, rest_refused, rest_worked, rest_granted}
use Rattle.calls.proofs.measure.max_a_t_b_scaled.Goals as goal

pub returns-then-marks-eq0 : goal.returns-then-marks-eq0
unfolding marked_gradient
returns-then-marks-eq0 c =
    let g = c.args in
    let s = g.store.now in
    let o = g.order.now in
    rest_unmarked g.st s (gradient_tests g.st (length s) o g.bnorm) (λ (p : Plain). plain.gradient_call p o g.bnorm s)
    (plain.gradient_call (without_frozen g.st) (take (cols g.st) o) g.bnorm (narrowed_in g.st s)) c.if-marks-eq0.true c.whole.ensures c.max_a_t_b_scaled-t.ensures c.marked.ensures

pub returns-in-Err : goal.returns-in-Err
unfolding marked_gradient
returns-in-Err c =
    let g = c.args in
    let s = g.store.now in
    let o = g.order.now in
    rest_refused g.st s (gradient_tests g.st (length s) o g.bnorm) (λ (p : Plain). plain.gradient_call p o g.bnorm s)
    (plain.gradient_call (without_frozen g.st) (take (cols g.st) o) g.bnorm (narrowed_in g.st s)) _ c.if-marks-eq0.false c.in-Err.ensures

pub slice_bounds-max_a_t_b_scaled-end : goal.slice_bounds-max_a_t_b_scaled-end
slice_bounds-max_a_t_b_scaled-end c =
    let g = c.args in
    let r = gradient_ready g.st g.store.now g.order.now g.bnorm c.in_default.ensures in
    sym (length-take-le c.free_count-free.result g.order.now (counted_each r c.free_count-free.ensures))

pub invariant_of-p : goal.invariant_of-p
invariant_of-p c =
    let g = c.args in
    record { reducible = counted_in (gradient_ready g.st g.store.now g.order.now g.bnorm c.in_default.ensures) c.free_count-free.ensures }

pub unwrap-requires : goal.unwrap-requires
unwrap-requires c =
    let g = c.args in
    rest_granted (gradient_ready g.st g.store.now g.order.now g.bnorm c.in_default.ensures) c.rest.result c.rest.ensures

pub returns : goal.returns
unfolding marked_gradient
returns c =
    let g = c.args in
    let s = g.store.now in
    let o = g.order.now in
    rest_worked g.st s (gradient_tests g.st (length s) o g.bnorm) (λ (p : Plain). plain.gradient_call p o g.bnorm s)
    (plain.gradient_call (without_frozen g.st) (take (cols g.st) o) g.bnorm (narrowed_in g.st s)) (gradient_ready g.st g.store.now g.order.now g.bnorm c.in_default.ensures) c.rest.result c.rest.ensures c.if-marks-eq0.false c.in_default.ensures
    (gradient_read g.st s o g.bnorm c.free_count-free.ensures c.max_a_t_b_scaled-answer.ensures)
