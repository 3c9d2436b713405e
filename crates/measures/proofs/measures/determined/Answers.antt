use mathlib.Core.Path.{refl, sym, ◌∙◌}
use native.Mathlib.Omega.{arith}
use lib.ListN.{take}
use lib.Ieee.{of_bits}
use Rattle.leaves.proofs.Overs.{lent_fits, lent_long}
use Rattle.leaves.proofs.Replies.{refusal_number-some}
use Rattle.factor.proofs.Copied.{diagonal-copied, rested_by_lem}
use Rattle.measures.proofs.Asked.{diagonal-granted, rest_granted}
use Rattle.measures.proofs.Measured.{rank_inside, rank_sized, again_fits, again_long, determined_law, determined-refused, determined-worked}
use Rattle.measures.proofs.measures.determined.Goals as goal

pub returns-in-Err : goal.returns-in-Err
returns-in-Err c =
    let g = c.args in
    determined-refused g.st g.store.now c.in-Err.ensures (refusal_number-some c.in-Err.no)

pub slice_bounds-d-end : goal.slice_bounds-d-end
unfolding of_bits
slice_bounds-d-end c =
    let g = c.args in
    let r = c.in_default.ensures in
    let i = rank_inside g.st g.store.now r refl in
    lent_fits g.st.n _ c.filled-d.ensures i.cols_few

pub slice_bounds-diagonal-end : goal.slice_bounds-diagonal-end
unfolding of_bits
slice_bounds-diagonal-end c =
    let g = c.args in
    let r = c.in_default.ensures in
    let i = rank_inside g.st g.store.now r refl in
    sym (lent_long g.st.n _ c.filled-d.ensures i.cols_few)

pub unwrap-requires : goal.unwrap-requires
unfolding of_bits
unwrap-requires c =
    let g = c.args in
    let r = c.in_default.ensures in
    let i = rank_inside g.st g.store.now r refl in
    let l = lent_long g.st.n _ c.filled-d.ensures i.cols_few in
    diagonal-granted i g.store.now (take g.st.n c.filled-d.result) (rank_sized g.st g.store.now r refl) l c.diagonal.result c.diagonal.ensures

pub slice_bounds-d-end-2 : goal.slice_bounds-d-end-2
unfolding of_bits
slice_bounds-d-end-2 c =
    let g = c.args in
    let r = c.in_default.ensures in
    let i = rank_inside g.st g.store.now r refl in
    let o = c.diagonal.auto.w ∙ lent_long g.st.n _ c.filled-d.ensures i.cols_few in
    again_fits g.st.n c.filled-d.result c.diagonal.new.w o

pub slice_bounds-determined_of-end : goal.slice_bounds-determined_of-end
unfolding of_bits
slice_bounds-determined_of-end c =
    let g = c.args in
    let r = c.in_default.ensures in
    let i = rank_inside g.st g.store.now r refl in
    let o = c.diagonal.auto.w ∙ lent_long g.st.n _ c.filled-d.ensures i.cols_few in
    sym (again_long g.st.n c.filled-d.result c.diagonal.new.w o)

pub determined_of-k-requires : goal.determined_of-k-requires
unfolding of_bits
determined_of-k-requires c =
    let g = c.args in
    let r = c.in_default.ensures in
    let i = rank_inside g.st g.store.now r refl in
    let o = c.diagonal.auto.w ∙ lent_long g.st.n _ c.filled-d.ensures i.cols_few in
    let l = again_long g.st.n c.filled-d.result c.diagonal.new.w o in
    (omega (arith, l, i.cols_some), omega (arith, l, i.cols_few), i.rows_few)

pub unwrap-requires-2 : goal.unwrap-requires-2
unwrap-requires-2 c =
    let g = c.args in
    let r = c.in_default.ensures in
    rest_granted (rank_inside g.st g.store.now r refl) g.store.now (rank_sized g.st g.store.now r refl) c.rest.result c.rest.ensures

pub returns : goal.returns
unfolding of_bits
returns c =
    let g = c.args in
    let r = c.in_default.ensures in
    let i = rank_inside g.st g.store.now r refl in
    let o = c.diagonal.auto.w ∙ lent_long g.st.n _ c.filled-d.ensures i.cols_few in
    let s = rank_sized g.st g.store.now r refl in
    let l = lent_long g.st.n _ c.filled-d.ensures i.cols_few in
    let e = diagonal-copied i g.store.now (take g.st.n c.filled-d.result) s l c.diagonal.ensures in
    let k = determined_law g.st.n c.filled-d.result c.diagonal.new.w o g.st.m g.store.now e c.determined_of-k.ensures in
    determined-worked g.st g.store.now r refl k (rested_by_lem i g.store.now s c.rest.ensures)
