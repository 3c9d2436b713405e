use mathlib.Core.Path.{sym, ◌∙◌}
use Rattle.leaves.proofs.Signs.{abs_neg, abs_pos}
use Rattle.leaves.proofs.number.abs.Goals as goal

pub returns-then-is_negative : goal.returns-then-is_negative
returns-then-is_negative c = abs_neg _ (sym c.is_negative.ensures ∙ c.if-is_negative.true)

pub returns-else-is_negative : goal.returns-else-is_negative
returns-else-is_negative c = abs_pos _ (sym c.is_negative.ensures ∙ c.if-is_negative.false)
