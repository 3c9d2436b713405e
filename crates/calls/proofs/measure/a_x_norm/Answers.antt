use mathlib.Core.Path.{sym}
use Prim.Native.Nat.{◌≤◌, min}
use native.Mathlib.Omega.{arith}
use lib.ListN.{length, take}
use lib.Seq.{length-take-le}
use lib.Ieee.{of_bits}
use Rattle.frozen.specs.Frozen.{free_of}
use Rattle.factor.specs.declared.state.State.{State as Plain}
use Rattle.measures.specs.Measures as plain
use Rattle.calls.specs.State.{marks_in, cols, without_frozen}
use Rattle.calls.specs.Outcome.{narrowed_in}
use Rattle.calls.specs.Measures.{marked_jx}
use Rattle.calls.proofs.Measured.{jx_tests, jx_ready, jx_read}
use Rattle.calls.proofs.Resting.{counted_each, counted_in, rest_unmarked, rest_refused, rest_worked, rest_granted}
use Rattle.calls.proofs.measure.a_x_norm.Goals as goal

pub returns-then-marks-eq0 : goal.returns-then-marks-eq0
unfolding marked_jx
returns-then-marks-eq0 c =
    let g = c.args in
    let s = g.store.now in
    let o = g.order.now in
    let x = g.x.now in
    rest_unmarked g.st s (jx_tests g.st (length s) o x) (λ (p : Plain). plain.jx_call p o x s)
    (plain.jx_call (without_frozen g.st) (take (cols g.st) o) (free_of (marks_in g.st) x) (narrowed_in g.st s)) c.if-marks-eq0.true c.whole.ensures c.a_x_norm-t.ensures c.marked.ensures

pub returns-in-Err : goal.returns-in-Err
unfolding marked_jx
returns-in-Err c =
    let g = c.args in
    let s = g.store.now in
    let o = g.order.now in
    let x = g.x.now in
    rest_refused g.st s (jx_tests g.st (length s) o x) (λ (p : Plain). plain.jx_call p o x s)
    (plain.jx_call (without_frozen g.st) (take (cols g.st) o) (free_of (marks_in g.st) x) (narrowed_in g.st s)) _ c.if-marks-eq0.false c.in-Err.ensures

pub slice_bounds-a_x_norm-end : goal.slice_bounds-a_x_norm-end
slice_bounds-a_x_norm-end c =
    let g = c.args in
    let r = jx_ready g.st g.store.now g.order.now g.x.now c.in_default.ensures in
    let l = counted_each r c.free_count-free.ensures in
    sym (length-take-le c.free_count-free.result g.order.now (omega arith))

pub invariant_of-p : goal.invariant_of-p
invariant_of-p c =
    let g = c.args in
    record { reducible = counted_in (jx_ready g.st g.store.now g.order.now g.x.now c.in_default.ensures) c.free_count-free.ensures }

pub gather-requires : goal.gather-requires
gather-requires c =
    let g = c.args in
    let r = jx_ready g.st g.store.now g.order.now g.x.now c.in_default.ensures in
    let l : g.st.n ≤ min (length g.order.now) (length g.x.now) = r.each_long in
    omega arith

pub unwrap-requires : goal.unwrap-requires
unwrap-requires c =
    let g = c.args in
    rest_granted (jx_ready g.st g.store.now g.order.now g.x.now c.in_default.ensures) c.rest.result c.rest.ensures

pub returns : goal.returns
unfolding marked_jx of_bits
returns c =
    let g = c.args in
    let s = g.store.now in
    let o = g.order.now in
    let x = g.x.now in
    rest_worked g.st s (jx_tests g.st (length s) o x) (λ (p : Plain). plain.jx_call p o x s)
    (plain.jx_call (without_frozen g.st) (take (cols g.st) o) (free_of (marks_in g.st) x) (narrowed_in g.st s)) (jx_ready g.st g.store.now g.order.now g.x.now c.in_default.ensures) c.rest.result c.rest.ensures c.if-marks-eq0.false c.in_default.ensures
    (jx_read g.st s o x c.free_count-free.ensures c.gather.ensures c.a_x_norm-answer.ensures)
