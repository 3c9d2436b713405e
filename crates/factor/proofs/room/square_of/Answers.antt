use mathlib.Core.Path.{refl, sym}
use Rattle.factor.proofs.Layouts.{square_of_lem, square_upper, square_below}
use Rattle.factor.proofs.room.square_of.Goals as goal

pub slice_bounds-result-end : goal.slice_bounds-result-end
slice_bounds-result-end c = sym (square_of_lem c.args.store.n c.args.store.cells.now c.args.store.sized).whole

pub returns : goal.returns
returns c =
    let g = c.args.store in
    record { n = refl; upper = square_upper g.n g.cells.now; below = square_below g.n g.cells.now }
