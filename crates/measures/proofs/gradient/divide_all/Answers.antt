use Prim.Native.Nat.{◌<◌}
use native.Mathlib.Omega.{arith}
use lib.ListN.{length}
use Rattle.leaves.specs.Product.{divided_by}
use Rattle.leaves.proofs.Folds.{front_turn, front_end}
use Rattle.leaves.proofs.Products.{divided-length}
use Rattle.measures.proofs.gradient.Gradients.{divided_turn}
use Rattle.measures.proofs.gradient.divide_all.Goals as goal

pub loop-x-preserved : goal.loop-x-preserved
loop-x-preserved c =
    let l = c.loop-x in
    let g = c.args in
    let v = g.v.now in
    let s = divided-length g.d v in
    let h : l.x-index < length v = omega (arith, c.loop-x-test.true) in
    front_turn (divided_by g.d v) v l.v _ l.x-index (omega arith) s (divided_turn g.d v l.v l.x-index h l.invariant) l.invariant

pub returns : goal.returns
returns c =
    let l = c.loop-x in
    let g = c.args in
    let s = divided-length g.d g.v.now in
    front_end (divided_by g.d g.v.now) _ l.v l.x-index s (omega (arith, c.loop-x-test.false)) l.invariant
