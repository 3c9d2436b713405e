use mathlib.Core.Path.{sym, ap, ◌∙◌}
use native.Mathlib.Omega.{arith}
use Rattle.leaves.specs.Reply.{answered}
use Rattle.leaves.proofs.Folds.{dot_step, dot-end, dot-refused, dot_is}
use Rattle.leaves.proofs.vector.dot.Goals as goal

pub returns-then-a-b : goal.returns-then-a-b
returns-then-a-b c = dot-refused _ _ c.if-a-b.true

pub loop-i-preserved : goal.loop-i-preserved
loop-i-preserved c =
    let l = c.loop-i in
    dot_step l.s _ _ l.i c.loop-i-test.true (omega arith) ∙ l.invariant

pub returns : goal.returns
returns c =
    let l = c.loop-i in
    ap answered (sym (dot-end l.s _ _ l.i c.loop-i-test.false) ∙ l.invariant) ∙ dot_is _ _ c.if-a-b.false
