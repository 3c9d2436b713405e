use Rattle.search.proofs.Workings.{empty-answers, empty-store}
use Rattle.search.proofs.lent.TrustRegion.empty.Goals as goal

pub unwrap-requires : goal.unwrap-requires
unwrap-requires c = empty-answers c.args.self.now c.empty.result c.empty.ensures

pub returns-clause-store_after : goal.returns-clause-store_after
returns-clause-store_after c = empty-store c.args.self.now c.empty.ensures
