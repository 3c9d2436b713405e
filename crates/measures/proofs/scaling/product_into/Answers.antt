use mathlib.Core.Path.{◌≡◌, sym, ◌∙◌}
use native.Mathlib.Omega.{arith}
use lib.ListN.{length}
use Rattle.leaves.proofs.Folds.{front_turn, front_end}
use Rattle.leaves.specs.Product.{product_all}
use Rattle.leaves.proofs.Products.{product-length, product_at}
use Rattle.measures.proofs.scaling.product_into.Goals as goal

pub loop-i-preserved : goal.loop-i-preserved
loop-i-preserved c =
    let l = c.loop-i in
    let p = c.requires in
    let g = c.args in
    let zs = product_all g.a.now g.b.now in
    let h = c.loop-i-test.true in
    let s : length zs ≡ length g.a.now = product-length g.a.now g.b.now (p.0 ∙ sym p.1) in
    let at = product_at g.a.now g.b.now l.i h (omega arith) in
    front_turn zs _ l.w _ l.i (omega arith) (s ∙ p.0) at l.invariant

pub returns : goal.returns
returns c =
    let l = c.loop-i in
    let p = c.requires in
    let g = c.args in
    let zs = product_all g.a.now g.b.now in
    let s : length zs ≡ length g.a.now = product-length g.a.now g.b.now (p.0 ∙ sym p.1) in
    front_end zs _ l.w l.i (s ∙ p.0) (omega (arith, c.loop-i-test.false)) l.invariant
