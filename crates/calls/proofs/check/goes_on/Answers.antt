use mathlib.Core.Path.{sym, ◌∙◌}
use Rattle.calls.proofs.Counts.{count_stops, count_goes, count_ends}
use Rattle.calls.proofs.check.goes_on.Goals as goal

pub returns-then-order-k : goal.returns-then-order-k
returns-then-order-k c =
    let g = c.args in
    let l = c.loop-k in
    sym (count_stops l.k g.order.now c.loop-k-test.true c.if-order-k.true) ∙ l.invariant

pub loop-k-preserved : goal.loop-k-preserved
loop-k-preserved c =
    let g = c.args in
    let l = c.loop-k in
    sym (count_goes l.k g.order.now c.loop-k-test.true c.if-order-k.false) ∙ l.invariant

pub returns : goal.returns
returns c =
    let g = c.args in
    let l = c.loop-k in
    sym (count_ends l.k g.order.now c.loop-k-test.false) ∙ l.invariant
