use Prim.Native.Nat.{ℕ, ◌+◌, ◌*◌, ◌-◌}
use mathlib.Core.Path.{refl, sym, ap, ◌∙◌}
use native.Mathlib.Omega.{arith}
use mathlib.Core.List.{List, ◌++◌}
use lib.Ieee.{Float, of_bits}
use lib.ListN.{length, take, drop}
use lib.Seq.{length-take-le, take-take}
use Rattle.leaves.proofs.Splices.{drop-sum}
use Rattle.leaves.proofs.Insides.{inside}
use Rattle.reduce.proofs.Lent.{benched}
use Rattle.reduce.specs.inner.Bench.{Benched}
use Rattle.leaves.specs.Square.{zeros}
use Rattle.leaves.specs.inner.Patch.{patch}
use Rattle.std.specs.Prelude.{is_ok}
use Rattle.leaves.proofs.Replies.{reply_of-ok}
use Rattle.factor.proofs.Answers.{unwrapped}
use Rattle.leaves.proofs.Overs.{lent_fits}
use Rattle.factor.proofs.Stores.{norms_part, norms_read, norms-past}
use Rattle.factor.proofs.Workings.{store-reduced, room_laid, room_long}
use Rattle.factor.proofs.store.PivotedQR.reduce.Goals as goal

pub slice_bounds-diag-end : goal.slice_bounds-diag-end
unfolding of_bits
slice_bounds-diag-end c = lent_fits _ _ c.filled-diag.ensures (inside _ _ c.args.self.now.sizes).cols_few

pub slice_bounds-diag-end-2 : goal.slice_bounds-diag-end-2
unfolding of_bits
slice_bounds-diag-end-2 c = sym (length-take-le _ _ (lent_fits _ _ c.filled-diag.ensures (inside _ _ c.args.self.now.sizes).cols_few))

pub invariant_of-lay_store : goal.invariant_of-lay_store
invariant_of-lay_store c = let g = c.args.self.now in record { benched = benched _ (inside _ _ g.sizes) (c.reduce_filled.auto.bench ∙ length-take-le _ _ g.bench_long) }

pub unwrap-seen-requires : goal.unwrap-seen-requires
unfolding of_bits
unwrap-seen-requires c =
    let g = c.args.self.now in
    let r = c.filled-diag in
    let x = c.reduce_filled in
    let n = g.n in
    let a = n * n + n in
    let need = g.m * n + g.m in
    let e = store-reduced g.m n g.store.now r.result x.new.norms x.new.diag (take need g.bench.now) x.new.bench (take n g.order.now) x.new.order (a + n - a) (benched _ (inside _ _ g.sizes) (length-take-le _ _ g.bench_long)) g.sizes g.store_long (length-take-le _ _ g.order_long) r.ensures (omega arith) x.ensures in
    ap is_ok (reply_of-ok x.result e.reply)

pub returns : goal.returns
unfolding of_bits
returns c =
    let g = c.args.self.now in
    let r = c.filled-diag in
    let x = c.reduce_filled in
    let y = c.lay_store in
    let n = g.n in
    let s = g.store.now in
    let h = g.store_long in
    let need = g.m * n + g.m in
    let j = take (g.m * n) g.bench.now in
    let t = take g.m (drop (g.m * n) g.bench.now) in
    let a = n * n + n in
    let v = x.new.norms in
    let d = x.new.diag in
    let o = x.new.order in
    let b = x.new.bench in
    let z : Benched g.m n (take need g.bench.now) = benched _ (inside _ _ g.sizes) (length-take-le need g.bench.now g.bench_long) in
    let lo = length-take-le n g.order.now g.order_long in
    let lv = x.auto.norms ∙ norms_part n s (a + n - a) (omega arith) h in
    let e₀ = store-reduced g.m n s r.result v d (take need g.bench.now) b (take n g.order.now) o (a + n - a) z g.sizes h lo r.ensures (omega arith) x.ensures in
    let e = rw (take-take (g.m * n) need g.bench.now (omega arith), drop-sum (g.m * n) g.m g.bench.now) at e₀ in
    record {
      same = record { rows = refl; across = refl; store = refl; order = refl; bench = refl };
      store_after = room_laid g.m n j t v d d b o e refl _ s (patch a (a + n - a) s v) (norms_read n s v h lv (a + n - a) (omega arith)) (norms-past n s v h lv (a + n - a) (omega arith)) y.ensures.store_after;
      order_after = ap (λ (l : List ℕ). l ++ drop n g.order.now) e.order;
      bench_after = ap (λ (l : List Float). l ++ drop need g.bench.now) (c.clear_long.ensures ∙ ap zeros (x.auto.bench ∙ length-take-le need g.bench.now g.bench_long));
      square_long = room_long g.m n j t v d d b o e refl y.ensures.n_len;
      order_long = sym (ap (λ (l : List ℕ). length l) e.order) ∙ x.auto.order ∙ lo;
      value = unwrapped c.unwrap-seen.ensures (reply_of-ok x.result e.reply);
    }
