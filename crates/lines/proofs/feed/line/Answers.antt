use Rattle.std.proofs.Common.{◌≡◌, arith, rules}
use Rattle.lines.proofs.feed.Feeding.{fed_stop, fed_go, fed_end}
use Rattle.lines.proofs.feed.line.Goals as goal

pub returns-then-b-eq10 : goal.returns-then-b-eq10
returns-then-b-eq10 c =
    let l = c.loop-i in
    fed_stop _ l.i l.k _ _ c.loop-i-test.true c.if-b-eq10.true l.invariant.1

pub loop-i-preserved : goal.loop-i-preserved
loop-i-preserved c =
    let l = c.loop-i in
    (search rules, fed_go _ l.i l.k _ _ _ _ c.loop-i-test.true c.if-b-eq10.false c.wrapping_add_usize-k.ensures.value c.keep.ensures l.invariant.1)

pub returns : goal.returns
returns c =
    let l = c.loop-i in
    let e : c.max.result ≡ l.i = omega arith in
    rw e (fed_end _ l.i l.k _ _ c.loop-i-test.false l.invariant.1)
