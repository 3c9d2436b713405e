use mathlib.Core.Path.{sym, ◌∙◌}
use borrow.Author.Tests.{eq-eqb, ne_eqb}
use Rattle.leaves.specs.Tests.{first_of}
use Rattle.calls.proofs.check.some_free.Goals as goal

pub returns-then-free_count-eq0 : goal.returns-then-free_count-eq0
unfolding first_of
returns-then-free_count-eq0 c = rw (eq-eqb _ 0 (sym c.free_count.ensures ∙ c.if-free_count-eq0.true))

pub returns-else-free_count-eq0 : goal.returns-else-free_count-eq0
unfolding first_of
returns-else-free_count-eq0 c = rw (ne_eqb _ 0 (λ e. c.if-free_count-eq0.false (c.free_count.ensures ∙ e)))
