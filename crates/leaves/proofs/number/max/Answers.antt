use mathlib.Core.Path.{sym, ◌∙◌}
use mathlib.Core.Bool.{true, false}
use Rattle.leaves.specs.Number.{max_of}
use Rattle.leaves.proofs.Signs.{is_nan_lem, max_by}
use Rattle.leaves.proofs.number.max.Goals as goal

pub returns-then-a : goal.returns-then-a
unfolding max_of
returns-then-a c = rw (sym (is_nan_lem c.args.a) ∙ c.if-a.true, max_of)

pub returns-then-a-b : goal.returns-then-a-b
returns-then-a-b c = sym (max_by _ _ true (sym (is_nan_lem c.args.a) ∙ c.if-a.false) c.if-a-b.true)

pub returns-else-a-b : goal.returns-else-a-b
returns-else-a-b c = sym (max_by _ _ false (sym (is_nan_lem c.args.a) ∙ c.if-a.false) c.if-a-b.false)
