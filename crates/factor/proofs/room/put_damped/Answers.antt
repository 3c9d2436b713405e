use mathlib.Core.Path.{ap, ◌∙◌}
use Rattle.factor.proofs.Lent.{left_as_lem}
use Rattle.factor.proofs.Layouts.{laid, load_shaped}
use Rattle.factor.specs.Room.{Room}
use Rattle.leaves.specs.Square.{zeros}
use Rattle.factor.specs.inner.Rooms.{with_part}
use Rattle.factor.proofs.room.put_damped.Goals as goal

pub returns : goal.returns
returns c =
    let g = c.args in
    let p = g.p.now in
    let x = c.put_part.ensures in
    let y = c.clear_part.ensures in
    record { same_n = y.same_n ∙ x.same_n; same_cells = y.same_cells ∙ x.same_cells; cells = laid _ _ (y.room ∙ rw x.same_n (ap (λ (r : Room). with_part 3 (zeros p.n) r) (rw x.same_n at x.room)) ∙ left_as_lem p.n g.ldiag.now _ (load_shaped p.n p.cells.now p.sized)) }
