use mathlib.Core.Path.{◌∙◌}
use Rattle.leaves.proofs.vector.Entries.{zero_turn, zero-end}
use Rattle.leaves.proofs.vector.none_zero.Goals as goal

pub loop-x-preserved : goal.loop-x-preserved
loop-x-preserved c =
    let l = c.loop-x in
    zero_turn c.args.v.now l.x-index l.zero c.loop-x-test.true ∙ l.invariant

pub returns : goal.returns
returns c =
    let l = c.loop-x in
    zero-end c.args.v.now l.x-index l.zero c.loop-x-test.false l.invariant
