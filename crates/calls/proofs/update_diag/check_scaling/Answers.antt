use Rattle.calls.proofs.Rescaled.{first_scaled_tests, first_unscaled_tests, later_scaled_tests, later_unscaled_tests}
use Rattle.calls.proofs.update_diag.check_scaling.Goals as goal

pub returns-in-FirstScaled : goal.returns-in-FirstScaled
returns-in-FirstScaled c =
    let g = c.args in
    first_scaled_tests g.st g.store g.diag.now g.x.now g.bound c.in-FirstScaled.is c.check_first.ensures

pub returns-in-FirstUnscaled : goal.returns-in-FirstUnscaled
returns-in-FirstUnscaled c =
    let g = c.args in
    first_unscaled_tests g.st g.store g.diag.now g.x.now g.bound c.in-FirstUnscaled.is c.check_first-in-FirstUnscaled.ensures

pub returns-in-LaterScaled : goal.returns-in-LaterScaled
returns-in-LaterScaled c =
    let g = c.args in
    later_scaled_tests g.st g.store g.diag.now g.x.now g.bound c.in-LaterScaled.is c.check_later.ensures

pub returns-in-LaterUnscaled : goal.returns-in-LaterUnscaled
returns-in-LaterUnscaled c =
    let g = c.args in
    later_unscaled_tests g.st g.store g.diag.now g.x.now g.bound c.in-LaterUnscaled.is c.check_unread.ensures
