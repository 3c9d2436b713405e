use mathlib.Core.Path.{sym, ◌∙◌}
use native.Mathlib.Omega.{arith}
use lib.ListN.{length}
use lib.Seq.{length-take-le}
use Rattle.leaves.proofs.Insides.{inside}
use Rattle.calls.proofs.Factors.{factorable, long_enough, area_within}
use Rattle.calls.proofs.Factorings.{factor_refused, factor_lent, factor_whole, factor_frozen}
use Rattle.calls.proofs.Leavings.{counted_lent}
use Rattle.calls.proofs.pivoted_qr.pivoted_qr.Goals as goal

pub returns-in-Err : goal.returns-in-Err
returns-in-Err c =
    let g = c.args in
    let t = c.told.ensures in
    factor_refused g.m g.n g.marks g.jacobian.now g.residuals.now g.store.now g.order.now g.bench.now _ t.0 t.1 c.in-Err.ensures

pub fill_bench-requires : goal.fill_bench-requires
fill_bench-requires c =
    let g = c.args in
    let r = factorable g.m g.n g.marks g.jacobian.now g.residuals.now (length g.store.now) (length g.order.now) (length g.bench.now) c.in_default.ensures c.free_count-free.ensures in
    let l = (long_enough g.m g.n g.marks g.jacobian.now g.residuals.now (length g.store.now) (length g.order.now) (length g.bench.now) c.in_default.ensures c.free_count-free.ensures).bench_long in
    let w = area_within g.m g.n g.marks c.free_count-free.result g.jacobian.now g.residuals.now r in
    record { factorable = r; free_in_bounds = omega arith }

pub returns-then-marks-eq0 : goal.returns-then-marks-eq0
returns-then-marks-eq0 c =
    let g = c.args in
    let t = c.told-then-marks-eq0.ensures in
    let x = factor_lent g.m g.n g.marks g.jacobian.now g.residuals.now g.store.now g.order.now g.bench.now c.in_default.ensures c.free_count-free.ensures c.fill_bench.ensures c.factor_filled-answer.ensures in
    factor_whole g.m g.n g.marks g.jacobian.now g.residuals.now g.store.now g.order.now g.bench.now c.in_default.ensures c.free_count-free.ensures c.if-marks-eq0.true t.0 t.1 x

pub leave_store-requires : goal.leave_store-requires
leave_store-requires c =
    let g = c.args in
    let r = factorable g.m g.n g.marks g.jacobian.now g.residuals.now (length g.store.now) (length g.order.now) (length g.bench.now) c.in_default.ensures c.free_count-free.ensures in
    let l = (long_enough g.m g.n g.marks g.jacobian.now g.residuals.now (length g.store.now) (length g.order.now) (length g.bench.now) c.in_default.ensures c.free_count-free.ensures).store_long in
    let k = c.factor_filled-answer.auto.store in
    (r.some, r.fits, (inside g.m g.n r.inside).cols_few, omega arith)

pub slice_bounds-count_on-end : goal.slice_bounds-count_on-end
slice_bounds-count_on-end c =
    let g = c.args in
    let l = (long_enough g.m g.n g.marks g.jacobian.now g.residuals.now (length g.store.now) (length g.order.now) (length g.bench.now) c.in_default.ensures c.free_count-free.ensures).order_long in
    let k = c.factor_filled-answer.auto.order in
    omega arith

pub slice_bounds-count_on-end-2 : goal.slice_bounds-count_on-end-2
slice_bounds-count_on-end-2 c =
    let g = c.args in
    let l = (long_enough g.m g.n g.marks g.jacobian.now g.residuals.now (length g.store.now) (length g.order.now) (length g.bench.now) c.in_default.ensures c.free_count-free.ensures).order_long in
    let k = c.factor_filled-answer.auto.order in
    sym (length-take-le _ _ (omega arith))

pub count_on-requires : goal.count_on-requires
count_on-requires c =
    let g = c.args in
    let r = factorable g.m g.n g.marks g.jacobian.now g.residuals.now (length g.store.now) (length g.order.now) (length g.bench.now) c.in_default.ensures c.free_count-free.ensures in
    let l = (long_enough g.m g.n g.marks g.jacobian.now g.residuals.now (length g.store.now) (length g.order.now) (length g.bench.now) c.in_default.ensures c.free_count-free.ensures).order_long in
    let k = c.factor_filled-answer.auto.order in
    let e = length-take-le g.n c.factor_filled-answer.new.order (omega arith) in
    let f = r.fits in
    omega arith

pub clear_rest-requires : goal.clear_rest-requires
clear_rest-requires c =
    let g = c.args in
    let r = factorable g.m g.n g.marks g.jacobian.now g.residuals.now (length g.store.now) (length g.order.now) (length g.bench.now) c.in_default.ensures c.free_count-free.ensures in
    let l = (long_enough g.m g.n g.marks g.jacobian.now g.residuals.now (length g.store.now) (length g.order.now) (length g.bench.now) c.in_default.ensures c.free_count-free.ensures).bench_long in
    let k = c.factor_filled-answer.auto.bench ∙ c.fill_bench.auto.bench in
    let i = inside g.m g.n r.inside in
    (i.rows_few, i.cols_few, r.fits, omega arith)

pub returns : goal.returns
returns c =
    let g = c.args in
    let t = c.told-2.ensures in
    let r = factorable g.m g.n g.marks g.jacobian.now g.residuals.now (length g.store.now) (length g.order.now) (length g.bench.now) c.in_default.ensures c.free_count-free.ensures in
    let l = (long_enough g.m g.n g.marks g.jacobian.now g.residuals.now (length g.store.now) (length g.order.now) (length g.bench.now) c.in_default.ensures c.free_count-free.ensures).order_long in
    let h = c.factor_filled-answer.auto.order in
    let o = counted_lent g.n c.free_count-free.result c.factor_filled-answer.new.order _ r.fits (omega arith) c.count_on.ensures in
    let x = factor_lent g.m g.n g.marks g.jacobian.now g.residuals.now g.store.now g.order.now g.bench.now c.in_default.ensures c.free_count-free.ensures c.fill_bench.ensures c.factor_filled-answer.ensures in
    factor_frozen g.m g.n g.marks g.jacobian.now g.residuals.now g.store.now g.order.now g.bench.now c.in_default.ensures c.free_count-free.ensures c.if-marks-eq0.false t.0 t.1 x c.factor_filled-answer.auto.store c.factor_filled-answer.auto.order c.leave_store.ensures o c.clear_rest.ensures
