use mathlib.Core.Path.{sym}
use lib.ListN.{length}
use Rattle.factor.specs.PivotOrder.{product_in}
use Rattle.factor.proofs.Lends.{each_long, front_long, store_sized, lent-refused, lent_written}
use Rattle.factor.proofs.PivotOrders.{product_of}
use Rattle.factor.proofs.Answers.{handed_on}
use Rattle.factor.proofs.pivot_order.product.Goals as goal

pub returns-in_err-sizes : goal.returns-in_err-sizes
unfolding product_in
returns-in_err-sizes c =
    let g = c.args in
    rw (handed_on _ _ c.from_residual.ensures.1) (lent-refused 1 g.n g.store.now g.w.now (product_of g.n g.store.now) _ c.in_err-sizes.ensures)

pub slice_bounds-mul_zero-end : goal.slice_bounds-mul_zero-end
slice_bounds-mul_zero-end c =
    let g = c.args in
    each_long 1 g.n g.store.now (length g.w.now) c.in_ok-sizes.ensures

pub slice_bounds-mul_zero-end-2 : goal.slice_bounds-mul_zero-end-2
slice_bounds-mul_zero-end-2 c =
    let g = c.args in
    sym (front_long 1 g.n g.store.now g.w.now c.in_ok-sizes.ensures)

pub invariant_of-mul_zero : goal.invariant_of-mul_zero
invariant_of-mul_zero c =
    let g = c.args in
    record { sized = store_sized 1 g.n g.store.now (length g.w.now) c.in_ok-sizes.ensures }

pub mul_zero-requires : goal.mul_zero-requires
mul_zero-requires c =
    let g = c.args in
    front_long 1 g.n g.store.now g.w.now c.in_ok-sizes.ensures

pub returns : goal.returns
unfolding product_in
returns c =
    let g = c.args in
    let x = c.mul_zero in
    lent_written 1 g.n g.store.now g.w.now (product_of g.n g.store.now) c.in_ok-sizes.ensures x.ensures x.auto.w
