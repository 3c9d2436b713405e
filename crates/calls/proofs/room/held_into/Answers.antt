use lib.Ieee.{of_bits}
use Rattle.calls.proofs.Ways.{held-worked}
use Rattle.calls.proofs.room.held_into.Goals as goal

pub returns : goal.returns
unfolding of_bits
returns c = held-worked c.args.n c.args.free c.args.x.now c.args.out.now _ _ c.requires.0 c.requires.1 c.requires.2 c.fill.ensures c.copy_from_slice.ensures.after
