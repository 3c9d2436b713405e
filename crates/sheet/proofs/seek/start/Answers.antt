use mathlib.Core.Path.{ap, ◌∙◌}
use lib.Ieee.{of_bits}
use Rattle.std.specs.Prelude.{Ok}
use Rattle.std.proofs.lemmas.Result.{err_from_is_err_and}
use Rattle.sheet.proofs.seek.Seeking.{started_on, started-later, started-refused}
use Rattle.sheet.proofs.seek.start.Goals as goal

pub returns-in_err-t : goal.returns-in_err-t
unfolding of_bits
returns-in_err-t c =
    let g = c.args in
    let p = err_from_is_err_and c.from_residual.result c.from_residual.ensures.1 in
    rw (p.1, p.2) (started-refused g.st g.order.now g.x.now g.bound g.store.now g.step.now c.filled-diag.ensures c.update_diag-s.ensures c.in_err-t.was)

pub returns-in_default : goal.returns-in_default
unfolding of_bits
returns-in_default c =
    let g = c.args in
    started-later g.st g.order.now g.x.now g.bound g.store.now g.step.now c.filled-diag.ensures c.update_diag-s.ensures (c.in_ok-t.was ∙ ap Ok c.in_default.is)

pub returns-in_err-fitted : goal.returns-in_err-fitted
unfolding of_bits
returns-in_err-fitted c =
    let g = c.args in
    let p = err_from_is_err_and c.from_residual-in_err-fitted.result c.from_residual-in_err-fitted.ensures.1 in
    rw (p.1, p.2) (started_on g.st g.order.now g.x.now g.bound g.store.now g.step.now c.filled-diag.ensures c.update_diag-s.ensures (c.in_ok-t.was ∙ ap Ok c.in-First.is) c.in_err-fitted.ensures)

pub returns : goal.returns
unfolding of_bits
returns c =
    let g = c.args in
    started_on g.st g.order.now g.x.now g.bound g.store.now g.step.now c.filled-diag.ensures c.update_diag-s.ensures (c.in_ok-t.was ∙ ap Ok c.in-First.is) c.in_ok-fitted.ensures
