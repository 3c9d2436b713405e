use mathlib.Core.Path.{ap, ◌∙◌}
use native.Mathlib.Omega.{arith}
use Rattle.std.proofs.lemmas.Result.{err_from_is_err_and}
use Rattle.factor.specs.Outcome.{read_of as Read-of}
use Rattle.factor.specs.HeldCalls.{mul_call}
use Rattle.factor.specs.declared.state.State.{State as Plain}
use Rattle.calls.specs.HeldCalls.{marked_read}
use Rattle.calls.proofs.Resting.{counted_in}
use Rattle.calls.proofs.Helds.{mul-unmarked, mul-refused, mul_ready, mul-worked}
use Rattle.calls.proofs.cholesky.mul_read.Goals as goal

pub returns-then-marks-eq0 : goal.returns-then-marks-eq0
returns-then-marks-eq0 c =
    let g = c.args in
    let w = ap (λ (q : Plain). Read-of (mul_call q g.store.now g.out.now)) c.whole.ensures in
    c.mul_read.ensures ∙ w ∙ ap marked_read (mul-unmarked g.st g.store.now g.out.now c.if-marks-eq0.true)

pub returns-in_err-check_mul : goal.returns-in_err-check_mul
returns-in_err-check_mul c =
    let g = c.args in
    let p = err_from_is_err_and c.from_residual.result c.from_residual.ensures.1 in
    rw (p.1, p.2) (ap marked_read (mul-refused g.st g.store.now g.out.now _ c.if-marks-eq0.false c.in_err-check_mul.ensures))

pub invariant_of-p : goal.invariant_of-p
invariant_of-p c = let g = c.args in record { reducible = counted_in (mul_ready g.st g.store.now g.out.now c.if-marks-eq0.false c.in_ok-check_mul.ensures) c.free_count-free.ensures }

pub mul_qt_b-requires : goal.mul_qt_b-requires
mul_qt_b-requires c =
    let g = c.args in
    let h = mul_ready g.st g.store.now g.out.now c.if-marks-eq0.false c.in_ok-check_mul.ensures in
    omega (arith, h.each_long)

pub returns : goal.returns
returns c = let g = c.args in c.mul_qt_b.ensures ∙ ap marked_read (mul-worked g.st g.store.now g.out.now c.if-marks-eq0.false c.in_ok-check_mul.ensures)
