use Rattle.std.proofs.lemmas.Result.{err_from_is_err_and}
use Rattle.sheet.proofs.job.Jobs.{as_counted, numbers-refused, numbers-worked}
use Rattle.sheet.proofs.sized.Bytes.work_in.Goals as goal

pub returns-in_err-check : goal.returns-in_err-check
returns-in_err-check c =
    let g = c.args in
    let p = err_from_is_err_and c.from_residual.result c.from_residual.ensures.1 in
    rw (p.1, p.2) (numbers-refused g.self.now.of.head g.self.now.bytes.now g.step.now (as_counted g.self.now.of.head g.self.now.bytes.now c.requires c.doubles_into.ensures) _ c.in_err-check.ensures)

pub returns : goal.returns
returns c =
    let g = c.args in
    numbers-worked g.self.now.of.head g.self.now.bytes.now g.step.now (as_counted g.self.now.of.head g.self.now.bytes.now c.requires c.doubles_into.ensures) c.in_ok-check.ensures c.work.ensures
