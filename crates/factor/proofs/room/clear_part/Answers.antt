use mathlib.Core.Path.{refl, ap, ◌∙◌}
use lib.ListN.{length, length-replicate}
use Rattle.factor.proofs.Lent.{part_lent, part_read, part_fits}
use mathlib.Core.List.{List}
use lib.Ieee.{Float, of_bits}
use Rattle.leaves.specs.Number.{plus_zero}
use Rattle.leaves.specs.Square.{zeros}
use Rattle.factor.specs.Room.{load}
use Rattle.factor.specs.inner.Rooms.{with_part}
use Rattle.factor.proofs.room.clear_part.Goals as goal

pub returns : goal.returns
unfolding of_bits
returns c =
    let g = c.args in
    let p = c.requires in
    let a = c.part_at-a in
    let e = part_read g.p.now.n g.k a.result g.p.now.cells.now a.ensures.0 in
    let y = c.fill.ensures ∙ ap zeros (ap length e ∙ part_fits g.p.now.n g.k g.p.now.cells.now g.p.now.sized p) in
    record {
      same_n = refl;
      same_cells = refl;
      room = part_lent g.p.now.n g.k a.result _ g.p.now.cells.now g.p.now.sized p a.ensures.0 (ap length y ∙ length-replicate g.p.now.n plus_zero)
          ∙ ap (λ (l : List Float). with_part g.k l (load g.p.now.n g.p.now.cells.now)) y;
    }
