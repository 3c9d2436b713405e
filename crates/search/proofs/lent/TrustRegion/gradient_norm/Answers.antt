use mathlib.Core.Path.{sym, ap, ◌∙◌}
use native.Mathlib.Omega.{arith}
use Rattle.leaves.specs.Norm.{norm, ranges}
use Rattle.search.proofs.Workings.{few_columns, product-answers, gradient_is}
use Rattle.search.proofs.Seeing.{gnorm-measured}
use Rattle.search.proofs.lent.TrustRegion.gradient_norm.Goals as goal

pub unwrap-requires : goal.unwrap-requires
unwrap-requires c = let t = c.args.self.now in product-answers t _ t.w_len c.product.result c.product.ensures

pub norm_of-requires : goal.norm_of-requires
norm_of-requires c = omega (arith, few_columns c.args.self.now)

pub returns-clause-value_value : goal.returns-clause-value_value
returns-clause-value_value c = let t = c.args.self.now in c.norm_of.ensures.value_value ∙ ap norm (gradient_is t _ t.w_len c.product.ensures c.divide_by.ensures) ∙ sym (gnorm-measured _)

pub returns-clause-seen_value : goal.returns-clause-seen_value
returns-clause-seen_value c = let t = c.args.self.now in c.norm_of.ensures.seen_value ∙ ap ranges (gradient_is t _ t.w_len c.product.ensures c.divide_by.ensures)
