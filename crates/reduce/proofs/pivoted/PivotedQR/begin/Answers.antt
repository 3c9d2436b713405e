use Rattle.reduce.proofs.Begins.{begun}
use Rattle.reduce.proofs.pivoted.PivotedQR.begin.Goals as goal

pub returns-clause-after : goal.returns-clause-after
returns-clause-after c =
    let q = c.args.self.now in
    let x = c.norms_in-self in
    begun q.m q.n q.bench.now x.new.norms _ _ _ q.order.now x.ensures.norms_after c.copy_from_slice.ensures.after c.copy_from_slice-2.ensures.after c.count.ensures q.order_long
