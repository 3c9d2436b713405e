use mathlib.Core.Path.{sym, ◌∙◌}
use borrow.Author.Tests.{lt-ltb, le-ltb}
use Rattle.leaves.specs.Tests.{first_of}
use Rattle.leaves.proofs.Insides.{inside}
use Rattle.factor.proofs.check.permutation.Goals as goal

pub returns-then-outside : goal.returns-then-outside
unfolding first_of
returns-then-outside c = rw (sym c.outside.ensures ∙ c.if-outside.true)

pub returns-then-order-n : goal.returns-then-order-n
unfolding first_of
returns-then-order-n c = rw (sym c.outside.ensures ∙ c.if-outside.false, lt-ltb _ _ c.if-order-n.true)

pub is_permutation-requires : goal.is_permutation-requires
is_permutation-requires c = record { n_bound = (inside _ _ (sym c.outside.ensures ∙ c.if-outside.false)).cols_few; n_in_bounds = c.if-order-n.false }

pub returns-then-is_permutation : goal.returns-then-is_permutation
unfolding first_of
returns-then-is_permutation c = rw (sym c.outside.ensures ∙ c.if-outside.false, le-ltb _ _ c.if-order-n.false, sym c.is_permutation.ensures ∙ c.if-is_permutation.true)

pub returns-else-is_permutation : goal.returns-else-is_permutation
unfolding first_of
returns-else-is_permutation c = rw (sym c.outside.ensures ∙ c.if-outside.false, le-ltb _ _ c.if-order-n.false, sym c.is_permutation.ensures ∙ c.if-is_permutation.false)
