use mathlib.Core.Path.{sym, ap, ◌∙◌}
use native.Mathlib.Omega.{arith}
use Rattle.std.proofs.lemmas.Result.{err_from_is_err_and}
use Rattle.factor.specs.Outcome.{read_of as Read-of}
use Rattle.factor.specs.HeldCalls.{solve_call}
use Rattle.factor.specs.declared.state.State.{State as Plain}
use Rattle.calls.specs.HeldCalls.{marked_read}
use Rattle.calls.proofs.Backs.{first_long}
use Rattle.calls.proofs.Resting.{counted_in}
use Rattle.calls.proofs.Helds.{solve-unmarked, solve-refused, solve_ready, solve-worked}
use Rattle.calls.proofs.cholesky.solve_read.Goals as goal

pub returns-then-marks-eq0 : goal.returns-then-marks-eq0
returns-then-marks-eq0 c =
    let g = c.args in
    let w = ap (λ (q : Plain). Read-of (solve_call q g.order.now g.rhs.now g.store.now g.out.now)) c.whole.ensures in
    c.solve_read.ensures ∙ w ∙ ap marked_read (solve-unmarked g.st g.order.now g.rhs.now g.store.now g.out.now c.if-marks-eq0.true)

pub returns-in_err-check_solve : goal.returns-in_err-check_solve
returns-in_err-check_solve c =
    let g = c.args in
    let p = err_from_is_err_and c.from_residual.result c.from_residual.ensures.1 in
    rw (p.1, p.2) (ap marked_read (solve-refused g.st g.order.now g.rhs.now g.store.now g.out.now _ c.if-marks-eq0.false c.in_err-check_solve.ensures))

pub invariant_of-p : goal.invariant_of-p
invariant_of-p c = let g = c.args in record { reducible = counted_in (solve_ready g.st g.order.now g.rhs.now g.store.now g.out.now c.if-marks-eq0.false c.in_ok-check_solve.ensures) c.free_count-free.ensures }

pub gather-requires : goal.gather-requires
gather-requires c =
    let g = c.args in
    let h = solve_ready g.st g.order.now g.rhs.now g.store.now g.out.now c.if-marks-eq0.false c.in_ok-check_solve.ensures in
    omega (arith, h.each_long)

pub slice_bounds-solve-end : goal.slice_bounds-solve-end
slice_bounds-solve-end c =
    let g = c.args in
    let h = solve_ready g.st g.order.now g.rhs.now g.store.now g.out.now c.if-marks-eq0.false c.in_ok-check_solve.ensures in
    sym (first_long g.st g.store.now _ h c.free_count-free.ensures g.order.now (omega (arith, h.each_long)))

pub solve-requires : goal.solve-requires
solve-requires c =
    let g = c.args in
    let h = solve_ready g.st g.order.now g.rhs.now g.store.now g.out.now c.if-marks-eq0.false c.in_ok-check_solve.ensures in
    omega (arith, h.each_long)

pub returns : goal.returns
returns c = let g = c.args in c.solve.ensures ∙ ap marked_read (solve-worked g.st g.order.now g.rhs.now g.store.now g.out.now c.if-marks-eq0.false c.in_ok-check_solve.ensures c.free_count-free.ensures c.gather.ensures)
