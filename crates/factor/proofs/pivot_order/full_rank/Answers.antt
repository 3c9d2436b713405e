use Rattle.factor.proofs.Lends.{store_sized}
use Rattle.factor.proofs.PivotOrders.{full_rank-refused, full_rank-told}
use Rattle.factor.proofs.Answers.{handed_on}
use Rattle.factor.proofs.pivot_order.full_rank.Goals as goal

pub returns-in_err-sizes : goal.returns-in_err-sizes
returns-in_err-sizes c =
    let g = c.args in
    rw (handed_on _ _ c.from_residual.ensures.1) (full_rank-refused g.m g.n g.store.now _ c.in_err-sizes.ensures)

pub invariant_of-square_of : goal.invariant_of-square_of
invariant_of-square_of c =
    let g = c.args in
    record { sized = store_sized g.m g.n g.store.now g.n c.in_ok-sizes.ensures }

pub returns : goal.returns
returns c =
    let g = c.args in
    full_rank-told g.m g.n g.store.now c.in_ok-sizes.ensures c.square_of-square.ensures.n c.square_of-square.ensures.upper c.non_singular.ensures
