use mathlib.Core.Path.{ap}
use Rattle.std.specs.Prelude.{is_ok}
use Rattle.search.proofs.Workings.{rank-told}
use Rattle.search.proofs.lent.TrustRegion.full_rank.Goals as goal

pub unwrap-requires : goal.unwrap-requires
unwrap-requires c = ap is_ok (rank-told c.args.self.now c.full_rank.result c.full_rank.ensures)

pub returns : goal.returns
returns c = let e = rank-told c.args.self.now c.full_rank.result c.full_rank.ensures in cc
