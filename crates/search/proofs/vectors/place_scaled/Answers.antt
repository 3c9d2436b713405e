use mathlib.Core.Path.{◌≡◌, sym, ◌∙◌}
use native.Mathlib.Omega.{arith}
use lib.ListN.{length, take}
use lib.Seq.{get_or-take, length-take-le}
use Rattle.leaves.specs.Product.{product_all}
use Rattle.factor.specs.Solve.{gather}
use Rattle.leaves.proofs.Products.{product-length}
use Rattle.factor.proofs.Solves.{gather-length, scatter-end}
use Rattle.search.proofs.Lists.{scaled_place, placed_turn}
use Rattle.search.proofs.vectors.place_scaled.Goals as goal

pub loop-k-preserved : goal.loop-k-preserved
loop-k-preserved c =
    let l = c.loop-k in
    let g = c.args in
    let h = c.loop-k-test.true in
    let os = take g.order.n g.order.places.now in
    let e : length os ≡ g.order.n = length-take-le g.order.n g.order.places.now g.order.names.long in
    let zs = product_all g.w.now (gather os g.diag.now) in
    let z : length zs ≡ length g.w.now = product-length g.w.now (gather os g.diag.now) (c.requires.w_len.0 ∙ sym (gather-length os g.diag.now ∙ e)) in
    let at = scaled_place g.order.n g.order.places.now g.w.now g.diag.now l.k h g.order.names.long c.requires.w_len.0 in
    placed_turn os zs l.v l.k _ _ (omega arith) (omega arith) (sym (get_or-take g.order.n g.order.places.now l.k 0 h)) at ∙ l.invariant

pub returns : goal.returns
returns c =
    let l = c.loop-k in
    let g = c.args in
    let os = take g.order.n g.order.places.now in
    let e : length os ≡ g.order.n = length-take-le g.order.n g.order.places.now g.order.names.long in
    sym (scatter-end os (product_all g.w.now (gather os g.diag.now)) l.v l.k (omega (arith, c.loop-k-test.false))) ∙ l.invariant
