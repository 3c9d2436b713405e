use mathlib.Core.Path.{◌∙◌}
use native.Mathlib.Omega.{arith}
use Rattle.search.proofs.Workings.{few_columns, damped-answers, damped-store, damped-placed, scaled-placed}
use Rattle.search.proofs.lent.TrustRegion.damped.Goals as goal

pub unwrap-requires : goal.unwrap-requires
unwrap-requires c = let t = c.args.self.now in damped-answers t c.args.lambda _ _ c.scale_by.ensures c.sqrt.ensures t.w_len c.damped.result c.damped.ensures

pub norm_of-requires : goal.norm_of-requires
norm_of-requires c = omega (arith, few_columns c.args.self.now)

pub returns-clause-v_after : goal.returns-clause-v_after
returns-clause-v_after c = let t = c.args.self.now in scaled-placed t _ _ (c.scale_by.auto.w ∙ t.v_len) (c.damped.auto.w ∙ t.w_len) c.place_scaled.ensures

pub returns-clause-w_after : goal.returns-clause-w_after
returns-clause-w_after c = let t = c.args.self.now in damped-placed t c.args.lambda _ _ c.scale_by.ensures c.sqrt.ensures t.w_len c.damped.ensures

pub returns-clause-store_after : goal.returns-clause-store_after
returns-clause-store_after c = let t = c.args.self.now in damped-store t c.args.lambda _ _ c.scale_by.ensures c.sqrt.ensures t.w_len c.damped.ensures
