use mathlib.Core.Path.{refl, ap, ◌∙◌}
use lib.ListN.{length}
use Rattle.factor.proofs.Lent.{part_lent}
use Rattle.factor.specs.Room.{load}
use mathlib.Core.List.{List}
use lib.Ieee.{Float}
use Rattle.factor.specs.inner.Rooms.{with_part}
use Rattle.factor.proofs.room.put_part.Goals as goal

pub returns : goal.returns
returns c =
    let g = c.args in
    let p = c.requires in
    let a = c.part_at-a in
    let y = c.copy_from_slice.ensures.after in
    record {
      same_n = refl;
      same_cells = refl;
      room = part_lent g.p.now.n g.k a.result _ g.p.now.cells.now g.p.now.sized p.0 a.ensures.0 (ap length y ∙ p.1)
          ∙ ap (λ (l : List Float). with_part g.k l (load g.p.now.n g.p.now.cells.now)) y;
    }
