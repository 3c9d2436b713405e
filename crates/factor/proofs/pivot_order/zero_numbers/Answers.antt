use Rattle.factor.proofs.Glue.{zero_law}
use Rattle.factor.proofs.pivot_order.zero_numbers.Goals as goal

pub returns : goal.returns
returns c =
    let g = c.args in
    zero_law g.m g.store.n g.store.cells.now c.copy_part.ensures c.square_of.ensures.upper c.zero_solve.ensures
