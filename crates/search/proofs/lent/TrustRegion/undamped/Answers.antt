use mathlib.Core.Path.{◌∙◌}
use native.Mathlib.Omega.{arith}
use Rattle.search.proofs.Workings.{few_columns, zero-answers, undamped-placed, scaled-placed}
use Rattle.search.proofs.lent.TrustRegion.undamped.Goals as goal

pub unwrap-requires : goal.unwrap-requires
unwrap-requires c = let t = c.args.self.now in zero-answers t _ t.w_len c.zero.result c.zero.ensures

pub norm_of-requires : goal.norm_of-requires
norm_of-requires c = omega (arith, few_columns c.args.self.now)

pub returns-clause-v_after : goal.returns-clause-v_after
returns-clause-v_after c = let t = c.args.self.now in scaled-placed t _ _ t.v_len (c.zero.auto.w ∙ t.w_len) c.place_scaled.ensures

pub returns-clause-w_after : goal.returns-clause-w_after
returns-clause-w_after c = let t = c.args.self.now in undamped-placed t _ t.w_len c.zero.ensures
