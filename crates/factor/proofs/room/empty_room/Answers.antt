use mathlib.Core.Path.{sym, ap, ◌∙◌}
use Rattle.factor.proofs.Lent.{emptied_as, square_lent}
use Rattle.factor.proofs.Layouts.{laid, load_shaped, square_of_lem, square_upper, square_below}
use Rattle.factor.specs.Room.{Room}
use Rattle.leaves.specs.Square.{zeros, cleared}
use Rattle.factor.specs.inner.Rooms.{with_part}
use Rattle.factor.proofs.room.empty_room.Goals as goal

pub slice_bounds-clear_below-end-2 : goal.slice_bounds-clear_below-end-2
slice_bounds-clear_below-end-2 c = sym (square_of_lem c.args.p.now.n c.args.p.now.cells.now c.args.p.now.sized).whole

pub clear_below-requires : goal.clear_below-requires
clear_below-requires c = square_of_lem c.args.p.now.n c.args.p.now.cells.now c.args.p.now.sized

pub returns : goal.returns
returns c =
    let g = c.args in
    let z = c.args.p.now.sized in
    let x = c.clear_below in
    let q = square_lent g.p.now.n x.new.square g.p.now.cells.now z x.auto.square (x.ensures.square_unchanged ∙ square_upper g.p.now.n g.p.now.cells.now) (x.ensures.square_after ∙ ap cleared (square_below g.p.now.n g.p.now.cells.now)) in
    let y = c.clear_last.ensures in
    record { same_n = y.same_n; same_cells = y.same_cells; cells = laid _ _ (y.room ∙ ap (λ (r : Room). with_part 3 (zeros g.p.now.n) (with_part 2 (zeros g.p.now.n) r)) q ∙ emptied_as g.p.now.n _ (load_shaped g.p.now.n g.p.now.cells.now z)) }
