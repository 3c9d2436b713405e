use mathlib.Core.Path.{◌∙◌}
use native.Mathlib.Omega.{arith}
use Rattle.factor.specs.HeldCalls.{mul_call}
use Rattle.factor.specs.declared.state.State.{State as Plain}
use Rattle.calls.proofs.Backs.{ended-unmarked}
use Rattle.calls.proofs.Resting.{counted_in, rest_granted}
use Rattle.calls.proofs.Ways.{rest_worked}
use Rattle.calls.proofs.Helds.{mul-unmarked, mul-refused, mul_ready, mul-rested}
use Rattle.calls.proofs.cholesky.mul_qt_b.Goals as goal

pub returns-then-marks-eq0 : goal.returns-then-marks-eq0
returns-then-marks-eq0 c =
    let g = c.args in
    ended-unmarked g.st (λ (q : Plain). mul_call q g.store.now g.out.now) c.whole.ensures c.mul_qt_b-t.ensures c.marked.ensures
    ∙ mul-unmarked g.st g.store.now g.out.now c.if-marks-eq0.true

pub returns-in-Err : goal.returns-in-Err
returns-in-Err c =
    let g = c.args in
    mul-refused g.st g.store.now g.out.now _ c.if-marks-eq0.false c.in-Err.ensures

pub invariant_of-p : goal.invariant_of-p
invariant_of-p c = let g = c.args in record { reducible = counted_in (mul_ready g.st g.store.now g.out.now c.if-marks-eq0.false c.in_default.ensures) c.free_count-free.ensures }

pub mul_qt_b-answer-requires : goal.mul_qt_b-answer-requires
mul_qt_b-answer-requires c =
    let g = c.args in
    let h = mul_ready g.st g.store.now g.out.now c.if-marks-eq0.false c.in_default.ensures in
    omega (arith, h.each_long)

pub unwrap-requires : goal.unwrap-requires
unwrap-requires c = let g = c.args in rest_granted (mul_ready g.st g.store.now g.out.now c.if-marks-eq0.false c.in_default.ensures) c.rest.result c.rest.ensures

pub returns : goal.returns
returns c =
    let g = c.args in
    let r = mul_ready g.st g.store.now g.out.now c.if-marks-eq0.false c.in_default.ensures in
    mul-rested g.st g.store.now g.out.now c.if-marks-eq0.false c.in_default.ensures c.mul_qt_b-answer.ensures (rest_worked r.reducible _ _ c.rest.ensures).1
