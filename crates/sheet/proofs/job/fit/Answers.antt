use lib.ListN.{length}
use Rattle.std.proofs.lemmas.Result.{err_from_is_err_and}
use mathlib.Core.Path.{sym, ◌∙◌}
use Rattle.sheet.proofs.job.Jobs.{sheet_short, fields_passed, sheet-refused, sheet_on}
use Rattle.sheet.proofs.job.fit.Goals as goal

pub returns-then-sheet-lt3 : goal.returns-then-sheet-lt3
returns-then-sheet-lt3 c = sheet_short c.args.sheet.now c.args.step.now c.if-sheet-lt3.true

pub returns-in_err-check_fields : goal.returns-in_err-check_fields
returns-in_err-check_fields c =
    let p = err_from_is_err_and c.from_residual.result c.from_residual.ensures.1 in
    rw (p.1, p.2) (sheet-refused c.args.sheet.now c.args.step.now c.if-sheet-lt3.false c.head_of-head.ensures _ c.in_err-check_fields.ensures)

pub returns : goal.returns
returns c = c.work.ensures ∙ sheet_on c.args.sheet.now c.args.step.now c.if-sheet-lt3.false c.head_of-head.ensures c.in_ok-check_fields.ensures

pub invariant_of-of : goal.invariant_of-of
invariant_of-of c = record { sizes = (fields_passed c.head_of-head.result (length c.args.sheet.now) (length c.args.step.now) (sym c.in_ok-check_fields.ensures)).0 }

pub invariant_of-whole : goal.invariant_of-whole
invariant_of-whole c = record { bytes_len = (fields_passed c.head_of-head.result (length c.args.sheet.now) (length c.args.step.now) (sym c.in_ok-check_fields.ensures)).1 }
