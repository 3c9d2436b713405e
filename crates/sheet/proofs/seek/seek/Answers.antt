use Rattle.std.proofs.lemmas.Result.{err_from_is_err_and}
use Rattle.sheet.proofs.seek.Seeking.{sought_on, sought-refused}
use Rattle.sheet.proofs.seek.seek.Goals as goal

pub returns-in_err-k : goal.returns-in_err-k
returns-in_err-k c =
    let g = c.args in
    let p = err_from_is_err_and c.from_residual.result c.from_residual.ensures.1 in
    rw (p.1, p.2) (sought-refused g.st g.order.now g.diag.now g.radius g.lambda g.store.now g.step.now c.determined-d.ensures c.in_err-k.was)

pub returns : goal.returns
returns c =
    let g = c.args in
    sought_on g.st g.order.now g.diag.now g.radius g.lambda g.store.now g.step.now c.determined-d.ensures c.in_ok-k.was c.seek_from.ensures
