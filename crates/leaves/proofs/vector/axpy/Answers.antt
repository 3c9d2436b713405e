use mathlib.Core.Path.{refl}
use Rattle.leaves.specs.Vector.{axpy_all}
use Rattle.leaves.proofs.Folds.{axpy_turn, axpy-refused, axpy_is}
use Rattle.leaves.proofs.vector.axpy.Goals as goal

pub returns-then-x-y : goal.returns-then-x-y
returns-then-x-y c = axpy-refused _ _ _ c.if-x-y.true

pub loop-i-init : goal.loop-i-init
unfolding axpy_all
loop-i-init c = refl

pub loop-i-preserved : goal.loop-i-preserved
loop-i-preserved c =
    let l = c.loop-i in
    axpy_turn _ _ _ l.y l.i c.loop-i-test.true c.if-x-y.false l.invariant

pub returns : goal.returns
returns c =
    let l = c.loop-i in
    axpy_is _ _ _ l.y l.i c.if-x-y.false c.loop-i-test.false l.invariant
