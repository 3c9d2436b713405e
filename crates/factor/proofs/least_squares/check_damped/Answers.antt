use mathlib.Core.Path.{sym, ◌∙◌}
use Prim.Native.Nat.{min}
use native.Mathlib.Omega.{arith}
use lib.ListN.{length}
use lib.Seq.{length-take-le}
use Rattle.factor.proofs.Passed.{solve_passed}
use Rattle.factor.proofs.least_squares.Outcomes.{tests_at, damped-stopped, damped_unfit, damped_passed}
use Rattle.factor.proofs.Answers.{handed_on}
use Rattle.factor.proofs.least_squares.check_damped.Goals as goal

pub returns-in_err-ordered : goal.returns-in_err-ordered
returns-in_err-ordered c =
    let g = c.args in
    rw (handed_on _ _ c.from_residual.ensures.1) (damped-stopped g.st g.diag.now g.order.now g.store g.out _ (tests_at g.st g.store g.order.now c.in_err-ordered.ensures c.least.ensures))

pub slice_bounds-all_finite-end : goal.slice_bounds-all_finite-end
slice_bounds-all_finite-end c =
    let g = c.args in
    let l = (solve_passed g.st g.store g.order.now (min (length g.diag.now) g.out) (sym (tests_at g.st g.store g.order.now c.in_ok-ordered.ensures c.least.ensures))).room.each_long in
    sym (length-take-le g.st.n g.diag.now (omega arith))

pub returns-then-all_finite : goal.returns-then-all_finite
returns-then-all_finite c =
    let g = c.args in
    damped_passed g.st g.diag.now g.order.now g.store g.out (tests_at g.st g.store g.order.now c.in_ok-ordered.ensures c.least.ensures) (sym c.all_finite.ensures ∙ c.if-all_finite.true)

pub returns-else-all_finite : goal.returns-else-all_finite
returns-else-all_finite c =
    let g = c.args in
    damped_unfit g.st g.diag.now g.order.now g.store g.out (tests_at g.st g.store g.order.now c.in_ok-ordered.ensures c.least.ensures) (sym c.all_finite.ensures ∙ c.if-all_finite.false)
