use Rattle.std.proofs.Common.{rules}
use native.Mathlib.Omega.{arith}
use mathlib.Core.Path.{◌≡◌, ap}
use lib.ListN.{length}
use Rattle.std.proofs.lemmas.Result.{err_from_is_err_and}
use Rattle.sheet.proofs.Printing.{taken, lines_refused, lines_printed}
use Rattle.sheet.specs.Fit.{numbered_of}
use Rattle.sheet.proofs.lines.write_lines.Goals as goal

pub returns-in_err-check_lines : goal.returns-in_err-check_lines
returns-in_err-check_lines c =
    let p = err_from_is_err_and c.from_residual.result c.from_residual.ensures.1 in
    rw (p.1, p.2) (lines_refused (numbered_of c.args.a) c.args.step.now c.args.text.now _ c.in_err-check_lines.ensures)

pub returns : goal.returns
returns c =
    let n = c.answer_lines in
    let l : length c.filled-room.result ≡ 1024 = ap length c.filled-room.ensures in
    let h = taken _ c.filled-room.result n.ensures.out_after (omega (arith, n.ensures.upper_bound)) in
    lines_printed (numbered_of c.args.a) c.args.step.now c.args.text.now c.in_ok-check_lines.ensures (search (rules, h)) c.print.ensures
