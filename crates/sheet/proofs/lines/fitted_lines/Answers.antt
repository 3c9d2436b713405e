use Rattle.std.proofs.Common.{rules}
use native.Mathlib.Omega.{arith}
use mathlib.Core.Path.{sym}
use lib.ListN.{take}
use lib.Seq.{length-take-le}
use Rattle.sheet.proofs.Texts.{put-put, as_long}
use Rattle.sheet.proofs.Printing.{columns_passed}
use Rattle.sheet.specs.Lines.{count_lines, step_lines, fitted_lines}
use Rattle.sheet.proofs.lines.fitted_lines.Goals as goal

pub slice_bounds-step_lines-end : goal.slice_bounds-step_lines-end
slice_bounds-step_lines-end c = sym (length-take-le c.args.f.columns c.args.step.now (columns_passed c.args.f.columns _ c.requires.step_value).1)

pub step_lines-requires : goal.step_lines-requires
step_lines-requires c =
    let p = columns_passed c.args.f.columns _ c.requires.step_value in
    rw (length-take-le c.args.f.columns c.args.step.now p.1) (omega (arith, c.count_lines.ensures.upper_bound, p.0, as_long (count_lines c.args.f) _ _ c.count_lines.ensures.out_after))

pub returns : goal.returns
unfolding fitted_lines
returns c =
    let g = c.args in
    let p = columns_passed c.args.f.columns _ c.requires.step_value in
    let n = length-take-le g.f.columns g.step.now p.1 in
    record { out_after = put-put (count_lines g.f) (step_lines 0 (take g.f.columns g.step.now)) g.page.now.out.now g.page.now.at c.count_lines.ensures.out_after c.step_lines.ensures.out_after; upper_bound = omega (arith, c.count_lines.ensures.upper_bound, c.step_lines.ensures.upper_bound, p.0); same_out = search rules }
