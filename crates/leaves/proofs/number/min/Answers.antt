use mathlib.Core.Path.{sym, ◌∙◌}
use mathlib.Core.Bool.{true, false}
use Rattle.leaves.specs.Number.{min_of}
use Rattle.leaves.proofs.Signs.{is_nan_lem, min_by}
use Rattle.leaves.proofs.number.min.Goals as goal

pub returns-then-a : goal.returns-then-a
unfolding min_of
returns-then-a c = rw (sym (is_nan_lem c.args.a) ∙ c.if-a.true, min_of)

pub returns-then-b-a : goal.returns-then-b-a
returns-then-b-a c = sym (min_by _ _ true (sym (is_nan_lem c.args.a) ∙ c.if-a.false) c.if-b-a.true)

pub returns-else-b-a : goal.returns-else-b-a
returns-else-b-a c = sym (min_by _ _ false (sym (is_nan_lem c.args.a) ∙ c.if-a.false) c.if-b-a.false)
