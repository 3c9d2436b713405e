use Rattle.std.proofs.Common.{rules}
use Rattle.lines.proofs.put.Putting.{put_go, put-end}
use Rattle.lines.proofs.put.row.Goals as goal

pub loop-x-preserved : goal.loop-x-preserved
loop-x-preserved c =
    let l = c.loop-x in
    (put_go _ l.x-index l.page.at _ _ _ _ c.loop-x-test.true c.double.ensures.wrote l.invariant.0, search rules)

pub returns-clause-wrote : goal.returns-clause-wrote
returns-clause-wrote c = let l = c.loop-x in put-end _ l.x-index l.page.at _ _ c.loop-x-test.false l.invariant.0
