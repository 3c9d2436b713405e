use mathlib.Core.Path.{◌∙◌}
use Rattle.factor.proofs.Lent.{rested_as}
use Rattle.factor.proofs.Layouts.{laid, load_shaped}
use Rattle.factor.proofs.room.rest_room.Goals as goal

pub returns : goal.returns
returns c =
    let g = c.args.p.now in
    let x = c.clear_part.ensures in
    record { same_n = x.same_n; same_cells = x.same_cells; cells = laid _ _ (x.room ∙ rested_as g.n _ (load_shaped g.n g.cells.now g.sized)) }
