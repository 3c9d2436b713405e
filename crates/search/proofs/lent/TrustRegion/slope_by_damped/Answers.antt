use mathlib.Core.Path.{ap, ◌∙◌}
use native.Mathlib.Omega.{arith}
use Rattle.leaves.specs.Norm.{norm, ranges}
use Rattle.factor.specs.declared.state.Held.TheVariants as held
use Rattle.search.proofs.Workings.{few_columns, held_damped-answers, held_damped-numbers, held_is}
use Rattle.search.proofs.lent.TrustRegion.slope_by_damped.Goals as goal

pub unwrap-requires : goal.unwrap-requires
unwrap-requires c = let t = c.args.self.now in held_damped-answers t _ (c.turn_into.auto.w ∙ t.w_len) c.held_damped.result c.held_damped.ensures

pub norm_of-requires : goal.norm_of-requires
norm_of-requires c = omega (arith, few_columns c.args.self.now)

pub returns-clause-value_value : goal.returns-clause-value_value
returns-clause-value_value c =
    let t = c.args.self.now in
    c.norm_of.ensures.value_value ∙ ap norm (held_is t held.Damped c.args.norm _ c.turn_into.ensures (held_damped-numbers t _ (c.turn_into.auto.w ∙ t.w_len) c.held_damped.ensures))

pub returns-clause-seen_value : goal.returns-clause-seen_value
returns-clause-seen_value c =
    let t = c.args.self.now in
    c.norm_of.ensures.seen_value ∙ ap ranges (held_is t held.Damped c.args.norm _ c.turn_into.ensures (held_damped-numbers t _ (c.turn_into.auto.w ∙ t.w_len) c.held_damped.ensures))
