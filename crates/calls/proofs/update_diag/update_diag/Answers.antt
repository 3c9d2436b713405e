use mathlib.Core.Path.{sym, ◌∙◌}
use lib.ListN.{take}
use lib.Ieee.{of_bits}
use Rattle.leaves.proofs.Overs.{lent_fits, lent_long}
use Rattle.calls.proofs.Rescaled.{scaling_ready, scaling_unmarked, scaling_refused, scaling_worked}
use Rattle.calls.proofs.Ways.{rest_worked}
use Rattle.calls.proofs.Backs.{with-store}
use Rattle.calls.proofs.Resting.{counted_few, counted_in, again_fits, again_same, again_long, rest_granted}
use Rattle.calls.proofs.update_diag.update_diag.Goals as goal

pub returns-then-marks-eq0 : goal.returns-then-marks-eq0
returns-then-marks-eq0 c =
    let g = c.args in
    scaling_unmarked g.st g.mode g.diag.now g.x.now g.bound g.store.now c.if-marks-eq0.true c.whole.ensures c.update_diag-t.ensures c.marked.ensures

pub returns-in-Err : goal.returns-in-Err
returns-in-Err c =
    let g = c.args in
    scaling_refused g.st g.mode g.diag.now g.x.now g.bound g.store.now _ c.if-marks-eq0.false c.in-Err.ensures

pub slice_bounds-xs-end : goal.slice_bounds-xs-end
unfolding of_bits
slice_bounds-xs-end c =
    let g = c.args in
    let r = (scaling_ready g.st g.mode g.store.now g.diag.now g.x.now g.bound c.in_default.ensures).0 in
    lent_fits c.free_count-free.result _ c.filled-xs.ensures (counted_few r c.free_count-free.ensures)

pub slice_bounds-gather_free-end : goal.slice_bounds-gather_free-end
unfolding of_bits
slice_bounds-gather_free-end c =
    let g = c.args in
    let r = (scaling_ready g.st g.mode g.store.now g.diag.now g.x.now g.bound c.in_default.ensures).0 in
    sym (lent_long c.free_count-free.result _ c.filled-xs.ensures (counted_few r c.free_count-free.ensures))

pub slice_bounds-xs-end-2 : goal.slice_bounds-xs-end-2
unfolding of_bits
slice_bounds-xs-end-2 c =
    let g = c.args in
    let r = (scaling_ready g.st g.mode g.store.now g.diag.now g.x.now g.bound c.in_default.ensures).0 in
    let w = c.gather_free in
    again_fits w.new.dst c.filled-xs.ensures (counted_few r c.free_count-free.ensures) w.auto.dst

pub slice_bounds-update_diag-end : goal.slice_bounds-update_diag-end
unfolding of_bits
slice_bounds-update_diag-end c =
    let g = c.args in
    let r = (scaling_ready g.st g.mode g.store.now g.diag.now g.x.now g.bound c.in_default.ensures).0 in
    let w = c.gather_free in
    sym (again_long w.new.dst c.filled-xs.ensures (counted_few r c.free_count-free.ensures) w.auto.dst)

pub invariant_of-p : goal.invariant_of-p
invariant_of-p c = let g = c.args in record { reducible = counted_in (scaling_ready g.st g.mode g.store.now g.diag.now g.x.now g.bound c.in_default.ensures).0 c.free_count-free.ensures }

pub update_diag-answer-requires : goal.update_diag-answer-requires
update_diag-answer-requires c = let g = c.args in (scaling_ready g.st g.mode g.store.now g.diag.now g.x.now g.bound c.in_default.ensures).0.each_long

pub unwrap-requires : goal.unwrap-requires
unwrap-requires c = let g = c.args in rest_granted (scaling_ready g.st g.mode g.store.now g.diag.now g.x.now g.bound c.in_default.ensures).0 c.rest.result c.rest.ensures

pub returns : goal.returns
unfolding of_bits
returns c =
    let g = c.args in
    let e = c.in_default.ensures in
    let f = c.free_count-free.ensures in
    let r = (scaling_ready g.st g.mode g.store.now g.diag.now g.x.now g.bound c.in_default.ensures).0 in
    let few = counted_few r f in
    let w = c.gather_free in
    let xs = again_same w.new.dst c.filled-xs.ensures few w.auto.dst in
    scaling_worked g.st g.mode g.diag.now g.x.now g.bound g.store.now c.if-marks-eq0.false e (take c.free_count-free.result c.filled-xs.result) _
    (lent_long c.free_count-free.result _ c.filled-xs.ensures few ∙ f) w.ensures xs (with-store (rest_worked r.reducible _ _ c.rest.ensures).1 c.update_diag-answer.ensures)
