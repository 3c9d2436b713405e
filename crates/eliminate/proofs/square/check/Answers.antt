use mathlib.Core.Path.{sym, ◌∙◌}
use native.Mathlib.Omega.{arith}
use borrow.Author.Tests.{eq-eqb, ne_eqb}
use Rattle.leaves.specs.Tests.{first_of}
use Rattle.eliminate.proofs.Lent.{few_columns, few_cells}
use Rattle.eliminate.proofs.square.check.Goals as goal

pub returns-then-outside : goal.returns-then-outside
unfolding first_of
returns-then-outside c = rw (sym c.outside.ensures ∙ c.if-outside.true)

pub overflow_mul-n : goal.overflow_mul-n
overflow_mul-n c = omega (arith, few_cells (few_columns _ (sym c.outside.ensures ∙ c.if-outside.false)))

pub returns-then-square-n : goal.returns-then-square-n
unfolding first_of
returns-then-square-n c = rw (sym c.outside.ensures ∙ c.if-outside.false, ne_eqb _ _ c.if-square-n.true)

pub returns-then-ds-n : goal.returns-then-ds-n
unfolding first_of
returns-then-ds-n c = rw (sym c.outside.ensures ∙ c.if-outside.false, eq-eqb _ _ c.if-square-n.false, ne_eqb _ _ c.if-ds-n.true)

pub returns-then-rhs-n : goal.returns-then-rhs-n
unfolding first_of
returns-then-rhs-n c = rw (sym c.outside.ensures ∙ c.if-outside.false, eq-eqb _ _ c.if-square-n.false, eq-eqb _ _ c.if-ds-n.false, ne_eqb _ _ c.if-rhs-n.true)

pub returns-then-ldiag-n : goal.returns-then-ldiag-n
unfolding first_of
returns-then-ldiag-n c = rw (sym c.outside.ensures ∙ c.if-outside.false, eq-eqb _ _ c.if-square-n.false, eq-eqb _ _ c.if-ds-n.false, eq-eqb _ _ c.if-rhs-n.false, ne_eqb _ _ c.if-ldiag-n.true)

pub returns-else-ldiag-n : goal.returns-else-ldiag-n
unfolding first_of
returns-else-ldiag-n c = rw (sym c.outside.ensures ∙ c.if-outside.false, eq-eqb _ _ c.if-square-n.false, eq-eqb _ _ c.if-ds-n.false, eq-eqb _ _ c.if-rhs-n.false, eq-eqb _ _ c.if-ldiag-n.false)
