use mathlib.Core.Path.{◌∙◌}
use lib.Ieee.{nan_bits}
use Rattle.leaves.proofs.vector.Entries.{finite_turn, finite-end}
use Rattle.leaves.proofs.vector.all_finite.Goals as goal

pub float_from_bits-top : goal.float_from_bits-top
unfolding nan_bits
float_from_bits-top c = tt

pub loop-x-preserved : goal.loop-x-preserved
loop-x-preserved c =
    let l = c.loop-x in
    finite_turn c.args.v.now l.x-index l.bad c.loop-x-test.true ∙ l.invariant

pub returns : goal.returns
returns c =
    let l = c.loop-x in
    finite-end c.args.v.now l.x-index l.bad c.loop-x-test.false l.invariant
