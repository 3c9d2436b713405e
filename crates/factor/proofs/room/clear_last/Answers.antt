use mathlib.Core.Path.{refl}
use lib.Ieee.{of_bits}
use Rattle.factor.proofs.Lent.{last_lent}
use Rattle.factor.proofs.room.clear_last.Goals as goal

pub returns : goal.returns
unfolding of_bits
returns c =
    let g = c.args in
    let a = c.part_at-a in
    record { same_n = refl; same_cells = refl; room = last_lent g.p.now.n a.result _ g.p.now.cells.now g.p.now.sized a.ensures.0 c.fill.ensures }
