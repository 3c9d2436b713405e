use Rattle.std.proofs.Common.{arith, rules, ◌∙◌}
use Rattle.sheet.proofs.Texts.{as_long, step_turn, step_end}
use Rattle.sheet.proofs.put.step_lines.Goals as goal

pub step_line-requires : goal.step_line-requires
step_line-requires c = let l = c.loop-i in omega (arith, l.invariant.0, l.invariant.1)

pub loop-i-preserved : goal.loop-i-preserved
loop-i-preserved c =
    let l = c.loop-i in
    let k = c.step_line.ensures in (
      omega (arith, k.upper_bound),
      as_long _ _ _ k.out_after ∙ l.invariant.1,
      step_turn c.args.step.now l.page.out.now l.page.at l.i c.loop-i-test.true k.out_after l.invariant.2,
      search rules,
    )

pub returns-clause-out_after : goal.returns-clause-out_after
returns-clause-out_after c = let l = c.loop-i in step_end c.args.step.now l.page.out.now l.page.at l.i c.loop-i-test.false l.invariant.2
