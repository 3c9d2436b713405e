use mathlib.Core.Path.{sym}
use Prim.Native.Nat.{min}
use lib.Ieee.{of_bits}
use lib.ListN.{length}
use Rattle.leaves.proofs.Overs.{lent_fits, lent_long}
use borrow.Author.Rules.{rules}
use Rattle.factor.proofs.Lends.{tested_at, cols_some, cols_few, store_sized, both-fit, both_long}
use Rattle.factor.proofs.PivotOrders.{damped-refused, damped-written}
use Rattle.factor.proofs.Answers.{handed_on}
use Rattle.factor.proofs.pivot_order.damped.Goals as goal

pub returns-in_err-sizes : goal.returns-in_err-sizes
returns-in_err-sizes c =
    let g = c.args in
    rw (handed_on _ _ c.from_residual.ensures.1) (damped-refused g.n g.ds.now g.store.now g.w.now _ (tested_at 1 g.n g.store.now c.in_err-sizes.ensures c.least.ensures))

pub slice_bounds-damped_numbers-end : goal.slice_bounds-damped_numbers-end
slice_bounds-damped_numbers-end c =
    let g = c.args in
    sym (both_long 1 g.n g.store.now g.ds.now g.w.now (tested_at 1 g.n g.store.now c.in_ok-sizes.ensures c.least.ensures)).0

pub slice_bounds-ldiag-end : goal.slice_bounds-ldiag-end
unfolding of_bits
slice_bounds-ldiag-end c =
    let g = c.args in
    lent_fits g.n _ c.filled-ldiag.ensures (cols_few 1 g.n g.store.now (min (length g.ds.now) (length g.w.now)) (tested_at 1 g.n g.store.now c.in_ok-sizes.ensures c.least.ensures))

pub slice_bounds-damped_numbers-end-2 : goal.slice_bounds-damped_numbers-end-2
unfolding of_bits
slice_bounds-damped_numbers-end-2 c =
    let g = c.args in
    sym (lent_long g.n _ c.filled-ldiag.ensures (cols_few 1 g.n g.store.now (min (length g.ds.now) (length g.w.now)) (tested_at 1 g.n g.store.now c.in_ok-sizes.ensures c.least.ensures)))

pub slice_bounds-damped_numbers-end-3 : goal.slice_bounds-damped_numbers-end-3
slice_bounds-damped_numbers-end-3 c =
    let g = c.args in
    (both-fit 1 g.n g.store.now g.ds.now g.w.now (tested_at 1 g.n g.store.now c.in_ok-sizes.ensures c.least.ensures)).1

pub slice_bounds-damped_numbers-end-4 : goal.slice_bounds-damped_numbers-end-4
slice_bounds-damped_numbers-end-4 c =
    let g = c.args in
    sym (both_long 1 g.n g.store.now g.ds.now g.w.now (tested_at 1 g.n g.store.now c.in_ok-sizes.ensures c.least.ensures)).1

pub invariant_of-p : goal.invariant_of-p
invariant_of-p c =
    let g = c.args in
    let e = tested_at 1 g.n g.store.now c.in_ok-sizes.ensures c.least.ensures in
    let s = min (length g.ds.now) (length g.w.now) in
    record { some = cols_some 1 g.n g.store.now s e; sized = store_sized 1 g.n g.store.now s e }

pub damped_numbers-requires : goal.damped_numbers-requires
unfolding of_bits
damped_numbers-requires c =
    let g = c.args in
    let e = tested_at 1 g.n g.store.now c.in_ok-sizes.ensures c.least.ensures in
    let s = (min (length g.ds.now) (length g.w.now)) in
    let l = both_long 1 g.n g.store.now g.ds.now g.w.now e in
    record { ds_len = l.0; ldiag_len = lent_long g.n _ c.filled-ldiag.ensures (cols_few 1 g.n g.store.now s e); w_len = l.1 }

pub returns : goal.returns
returns c =
    let g = c.args in
    let x = c.damped_numbers in
    damped-written g.n g.ds.now g.store.now g.w.now (tested_at 1 g.n g.store.now c.in_ok-sizes.ensures c.least.ensures) (search rules) x.ensures.room x.ensures.w_after x.auto.w
