use mathlib.Core.Path.{sym, ◌∙◌}
use Rattle.leaves.specs.Tests.{first_of}
use Rattle.factor.proofs.check.room.Goals as goal

pub returns-then-is_empty : goal.returns-then-is_empty
unfolding first_of
returns-then-is_empty c = rw (sym c.is_empty.ensures ∙ c.if-is_empty.true)

pub returns : goal.returns
unfolding first_of
returns c = rw (sym c.is_empty.ensures ∙ c.if-is_empty.false) c.sizes.ensures
