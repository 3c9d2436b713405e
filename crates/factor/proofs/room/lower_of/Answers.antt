use Rattle.factor.specs.Room.{load}
use Rattle.factor.proofs.room.lower_of.Goals as goal

pub returns : goal.returns
unfolding load
returns c =
    let r = c.square_of-square.ensures in
    record { n = r.n; below = r.below; ldiag = c.part_of-ldiag.ensures.value }
