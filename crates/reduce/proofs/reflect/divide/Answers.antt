use mathlib.Core.Path.{sym, ◌∙◌}
use native.Mathlib.Omega.{arith}
use Rattle.leaves.proofs.Folds.{front_turn}
use Rattle.reduce.specs.inner.Bench.{divided}
use Rattle.reduce.proofs.reflect.Reductions.{divided-length, divided_at}
use Rattle.reduce.proofs.reflect.divide.Goals as goal

pub loop-i-preserved : goal.loop-i-preserved
loop-i-preserved c =
    let l = c.loop-i in
    let g = c.args in
    let e = divided-length g.t g.col.now in
    front_turn (divided g.t g.col.now) _ l.axis _ l.i (omega arith) (e ∙ sym c.requires) (divided_at g.t g.col.now l.i c.loop-i-test.true) l.invariant
