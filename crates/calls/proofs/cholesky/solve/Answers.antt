use mathlib.Core.Path.{sym, ◌∙◌}
use native.Mathlib.Omega.{arith}
use Rattle.factor.specs.HeldCalls.{solve_call}
use Rattle.factor.specs.declared.state.State.{State as Plain}
use Rattle.calls.proofs.Backs.{first_long, ended-unmarked}
use Rattle.calls.proofs.Resting.{counted_in, rest_granted}
use Rattle.calls.proofs.Ways.{rest_worked}
use Rattle.calls.proofs.Helds.{solve-unmarked, solve-refused, solve_ready, solve-rested}
use Rattle.calls.proofs.cholesky.solve.Goals as goal

pub returns-then-marks-eq0 : goal.returns-then-marks-eq0
returns-then-marks-eq0 c =
    let g = c.args in
    ended-unmarked g.st (λ (q : Plain). solve_call q g.order.now g.rhs.now g.store.now g.out.now) c.whole.ensures c.solve-t.ensures c.marked.ensures
    ∙ solve-unmarked g.st g.order.now g.rhs.now g.store.now g.out.now c.if-marks-eq0.true

pub returns-in-Err : goal.returns-in-Err
returns-in-Err c =
    let g = c.args in
    solve-refused g.st g.order.now g.rhs.now g.store.now g.out.now _ c.if-marks-eq0.false c.in-Err.ensures

pub invariant_of-p : goal.invariant_of-p
invariant_of-p c = let g = c.args in record { reducible = counted_in (solve_ready g.st g.order.now g.rhs.now g.store.now g.out.now c.if-marks-eq0.false c.in_default.ensures) c.free_count-free.ensures }

pub gather-requires : goal.gather-requires
gather-requires c =
    let g = c.args in
    let h = solve_ready g.st g.order.now g.rhs.now g.store.now g.out.now c.if-marks-eq0.false c.in_default.ensures in
    omega (arith, h.each_long)

pub slice_bounds-solve-end : goal.slice_bounds-solve-end
slice_bounds-solve-end c =
    let g = c.args in
    let h = solve_ready g.st g.order.now g.rhs.now g.store.now g.out.now c.if-marks-eq0.false c.in_default.ensures in
    sym (first_long g.st g.store.now _ h c.free_count-free.ensures g.order.now (omega (arith, h.each_long)))

pub solve-answer-requires : goal.solve-answer-requires
solve-answer-requires c =
    let g = c.args in
    let h = solve_ready g.st g.order.now g.rhs.now g.store.now g.out.now c.if-marks-eq0.false c.in_default.ensures in
    omega (arith, h.each_long)

pub unwrap-requires : goal.unwrap-requires
unwrap-requires c = let g = c.args in rest_granted (solve_ready g.st g.order.now g.rhs.now g.store.now g.out.now c.if-marks-eq0.false c.in_default.ensures) c.rest.result c.rest.ensures

pub returns : goal.returns
returns c =
    let g = c.args in
    let r = solve_ready g.st g.order.now g.rhs.now g.store.now g.out.now c.if-marks-eq0.false c.in_default.ensures in
    solve-rested g.st g.order.now g.rhs.now g.store.now g.out.now c.if-marks-eq0.false c.in_default.ensures c.free_count-free.ensures c.gather.ensures c.solve-answer.ensures (rest_worked r.reducible _ _ c.rest.ensures).1
