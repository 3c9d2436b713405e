use mathlib.Core.Path.{sym, ◌∙◌}
use Rattle.factor.proofs.Workings.{stands, falls}
use Rattle.factor.proofs.store.PivotedQR.filled_working.Goals as goal

pub returns-then-all_finite : goal.returns-then-all_finite
returns-then-all_finite c =
    let g = c.args.self.now in
    let x = c.reduce-seen.ensures in
    let t = rw x.same.across at c.all_finite.ensures in
    record {
      same_store = x.same.store;
      same_order = x.same.order;
      same_bench = x.same.bench;
      whole = stands g.m g.n g.bench.now g.store.now x.square_long g.order.now _ _ _ x.store_after x.order_after x.bench_after _ x.value (sym t ∙ c.if-all_finite.true);
    }

pub returns : goal.returns
returns c =
    let g = c.args.self.now in
    let x = c.reduce-seen.ensures in
    let z = c.clear.ensures in
    let t = rw x.same.across at c.all_finite.ensures in
    let zs = rw x.same.across at z.store_after in
    let zo = rw x.same.across at z.order_after in
    record {
      same_store = z.same.store ∙ x.same.store;
      same_order = z.same.order ∙ x.same.order;
      same_bench = z.same.bench ∙ x.same.bench;
      whole = falls g.m g.n g.bench.now g.store.now x.square_long g.order.now _ _ _ x.store_after x.order_after x.bench_after c.reduce-seen.result x.value _ _ _ x.order_long (sym t ∙ c.if-all_finite.false) zs zo z.bench_unchanged;
    }
