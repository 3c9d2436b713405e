use mathlib.Core.Path.{sym}
use lib.ListN.{length}
use Rattle.factor.specs.PivotOrder.{zero_in}
use Rattle.factor.proofs.Lends.{each_long, front_long, store_sized, lent-refused, lent_written}
use Rattle.factor.proofs.PivotOrders.{zero_of}
use Rattle.factor.proofs.Answers.{handed_on}
use Rattle.factor.proofs.pivot_order.zero.Goals as goal

pub returns-in_err-sizes : goal.returns-in_err-sizes
unfolding zero_in
returns-in_err-sizes c =
    let g = c.args in
    rw (handed_on _ _ c.from_residual.ensures.1) (lent-refused g.m g.n g.store.now g.w.now (zero_of g.m g.n g.store.now) _ c.in_err-sizes.ensures)

pub slice_bounds-zero_numbers-end : goal.slice_bounds-zero_numbers-end
slice_bounds-zero_numbers-end c =
    let g = c.args in
    each_long g.m g.n g.store.now (length g.w.now) c.in_ok-sizes.ensures

pub slice_bounds-zero_numbers-end-2 : goal.slice_bounds-zero_numbers-end-2
slice_bounds-zero_numbers-end-2 c =
    let g = c.args in
    sym (front_long g.m g.n g.store.now g.w.now c.in_ok-sizes.ensures)

pub invariant_of-zero_numbers : goal.invariant_of-zero_numbers
invariant_of-zero_numbers c =
    let g = c.args in
    record { sized = store_sized g.m g.n g.store.now (length g.w.now) c.in_ok-sizes.ensures }

pub zero_numbers-requires : goal.zero_numbers-requires
zero_numbers-requires c =
    let g = c.args in
    front_long g.m g.n g.store.now g.w.now c.in_ok-sizes.ensures

pub returns : goal.returns
unfolding zero_in
returns c =
    let g = c.args in
    let x = c.zero_numbers in
    lent_written g.m g.n g.store.now g.w.now (zero_of g.m g.n g.store.now) c.in_ok-sizes.ensures x.ensures x.auto.w
