use mathlib.Core.Path.{◌∙◌}
use Rattle.factor.proofs.Workings.{worked-copied}
use Rattle.factor.proofs.store.PivotedQR.factor_working.Goals as goal

pub returns : goal.returns
returns c =
    let h = c.args in
    let g = h.self.now in
    let y = c.copy_in.ensures in
    let z = c.filled_working.ensures in
    let w = rw (y.same.rows, y.same.across, y.store_unchanged, y.order_unchanged) at z.whole in
    record {
      same_store = z.same_store ∙ y.same.store;
      same_order = z.same_order ∙ y.same.order;
      same_bench = z.same_bench ∙ y.same.bench;
      whole = w ∙ worked-copied g.m g.n g.store.now g.order.now h.jacobian.now h.residuals.now g.bench.now _ c.requires.jacobian_long c.requires.residuals_long y.bench_after;
    }
