use mathlib.Core.Path.{sym, ◌∙◌}
use lib.Seq.{length-take-le}
use Rattle.calls.proofs.Passed.{first_failed}
use Rattle.calls.proofs.Damps.{tests, further, tested, diag_long, damped_unfit, damped_passed}
use Rattle.calls.proofs.least_squares.check_damped.Goals as goal

pub returns-in_err-ordered : goal.returns-in_err-ordered
returns-in_err-ordered c =
    let g = c.args in
    let m = c.least.ensures in
    first_failed (tests g.st g.diag.now g.order.now g.store g.out m) (further g.st g.diag.now g.order.now g.store g.out m) _ _ c.from_residual.ensures.1 (tested g.st g.diag.now g.order.now g.store g.out m c.in_err-ordered.ensures)

pub slice_bounds-all_finite-end : goal.slice_bounds-all_finite-end
slice_bounds-all_finite-end c =
    let g = c.args in
    sym (length-take-le g.st.n g.diag.now (diag_long g.st g.diag.now g.order.now g.store g.out c.least.ensures c.in_ok-ordered.ensures))

pub returns-then-not-all_finite : goal.returns-then-not-all_finite
returns-then-not-all_finite c =
    let g = c.args in
    damped_unfit g.st g.diag.now g.order.now g.store g.out c.least.ensures c.in_ok-ordered.ensures (sym c.all_finite.ensures ∙ c.if-not-all_finite.true)

pub returns : goal.returns
returns c =
    let g = c.args in
    damped_passed g.st g.diag.now g.order.now g.store g.out c.least.ensures c.in_ok-ordered.ensures (sym c.all_finite.ensures ∙ c.if-not-all_finite.false) c.some_free.ensures
