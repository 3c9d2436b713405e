use mathlib.Core.Path.{sym, ◌∙◌}
use Rattle.reduce.proofs.reflect.Reductions.{signed_is}
use Rattle.reduce.proofs.reflect.signed.Goals as goal

pub returns-then-is_negative : goal.returns-then-is_negative
returns-then-is_negative c = signed_is _ _ _ (sym c.is_negative.ensures ∙ c.if-is_negative.true)

pub returns-else-is_negative : goal.returns-else-is_negative
returns-else-is_negative c = signed_is _ _ _ (sym c.is_negative.ensures ∙ c.if-is_negative.false)
