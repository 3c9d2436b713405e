use mathlib.Core.Path.{sym}
use lib.ListN.{length}
use Rattle.factor.specs.PivotOrder.{held_zero_in}
use Rattle.factor.specs.declared.state.Held.TheVariants as held
use Rattle.factor.proofs.Lends.{each_long, front_long, store_sized, lent-refused, lent_written}
use Rattle.factor.proofs.PivotOrders.{held_of}
use Rattle.factor.proofs.Answers.{handed_on}
use Rattle.factor.proofs.pivot_order.held_zero.Goals as goal

pub returns-in_err-sizes : goal.returns-in_err-sizes
unfolding held_zero_in
returns-in_err-sizes c =
    let g = c.args in
    rw (handed_on _ _ c.from_residual.ensures.1) (lent-refused 1 g.n g.store.now g.w.now (held_of held.Zero g.n g.store.now g.w.now) _ c.in_err-sizes.ensures)

pub slice_bounds-solve_zero-end : goal.slice_bounds-solve_zero-end
slice_bounds-solve_zero-end c =
    let g = c.args in
    each_long 1 g.n g.store.now (length g.w.now) c.in_ok-sizes.ensures

pub slice_bounds-solve_zero-end-2 : goal.slice_bounds-solve_zero-end-2
slice_bounds-solve_zero-end-2 c =
    let g = c.args in
    sym (front_long 1 g.n g.store.now g.w.now c.in_ok-sizes.ensures)

pub invariant_of-solve_zero : goal.invariant_of-solve_zero
invariant_of-solve_zero c =
    let g = c.args in
    record { sized = store_sized 1 g.n g.store.now (length g.w.now) c.in_ok-sizes.ensures }

pub solve_zero-requires : goal.solve_zero-requires
solve_zero-requires c =
    let g = c.args in
    front_long 1 g.n g.store.now g.w.now c.in_ok-sizes.ensures

pub returns : goal.returns
unfolding held_zero_in
returns c =
    let g = c.args in
    let x = c.solve_zero in
    lent_written 1 g.n g.store.now g.w.now (held_of held.Zero g.n g.store.now g.w.now) c.in_ok-sizes.ensures x.ensures x.auto.w
