use mathlib.Core.Path.{◌∙◌}
use native.Mathlib.Omega.{arith}
use Rattle.leaves.specs.Vector.{scale_all}
use Rattle.leaves.proofs.Folds.{front_turn, front_end, scale-length, scale_at, scale-refused, scale_is}
use Rattle.leaves.proofs.vector.axpy_zero.Goals as goal

pub returns-then-x-y : goal.returns-then-x-y
returns-then-x-y c = scale-refused _ _ _ c.if-x-y.true

pub loop-i-preserved : goal.loop-i-preserved
loop-i-preserved c =
    let l = c.loop-i in
    let g = c.args in
    let s = scale-length g.a g.x.now in
    front_turn (scale_all g.a g.x.now) _ l.y _ l.i (omega arith) (s ∙ c.if-x-y.false) (scale_at g.a g.x.now l.i c.loop-i-test.true) l.invariant

pub returns : goal.returns
returns c =
    let l = c.loop-i in
    let g = c.args in
    let s = scale-length g.a g.x.now in
    scale_is g.a g.x.now _ l.y c.if-x-y.false (front_end (scale_all g.a g.x.now) _ l.y l.i (s ∙ c.if-x-y.false) (omega arith) l.invariant)
