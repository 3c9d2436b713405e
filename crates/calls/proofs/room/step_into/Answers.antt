use mathlib.Core.Path.{ap}
use lib.Ieee.{of_bits}
use Rattle.std.specs.Prelude.{is_ok}
use Rattle.calls.proofs.Ways.{step_worked}
use Rattle.calls.proofs.room.step_into.Goals as goal

pub unwrap-requires : goal.unwrap-requires
unfolding of_bits
unwrap-requires c = ap is_ok (step_worked c.args.n c.args.marks c.args.x.now c.args.out.now _ _ _ c.requires.0 c.requires.1 c.fill.ensures c.merge_into.ensures).0

pub returns : goal.returns
unfolding of_bits
returns c = (step_worked c.args.n c.args.marks c.args.x.now c.args.out.now _ _ _ c.requires.0 c.requires.1 c.fill.ensures c.merge_into.ensures).1
