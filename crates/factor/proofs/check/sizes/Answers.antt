use mathlib.Core.Path.{sym, ◌∙◌}
use native.Mathlib.Omega.{arith}
use borrow.Author.Tests.{lt-ltb, le-ltb}
use Rattle.leaves.specs.Tests.{first_of}
use Rattle.leaves.proofs.Insides.{inside, square_small}
use Rattle.factor.proofs.check.sizes.Goals as goal

pub returns-then-outside : goal.returns-then-outside
unfolding first_of
returns-then-outside c = rw (sym c.outside.ensures ∙ c.if-outside.true)

pub overflow_mul-n : goal.overflow_mul-n
overflow_mul-n c = omega (arith, square_small (inside _ _ (sym c.outside.ensures ∙ c.if-outside.false)))

pub overflow_mul-n-2 : goal.overflow_mul-n-2
overflow_mul-n-2 c =
    let i = inside _ _ (sym c.outside.ensures ∙ c.if-outside.false) in
    omega (arith, i.cols_few, square_small i)

pub overflow_add-n : goal.overflow_add-n
overflow_add-n c =
    let i = inside _ _ (sym c.outside.ensures ∙ c.if-outside.false) in
    omega (arith, i.cols_few, square_small i)

pub returns-then-store-n : goal.returns-then-store-n
unfolding first_of
returns-then-store-n c = rw (sym c.outside.ensures ∙ c.if-outside.false, lt-ltb _ _ c.if-store-n.true)

pub returns-then-shortest-n : goal.returns-then-shortest-n
unfolding first_of
returns-then-shortest-n c = rw (sym c.outside.ensures ∙ c.if-outside.false, le-ltb _ _ c.if-store-n.false, lt-ltb _ _ c.if-shortest-n.true)

pub returns-else-shortest-n : goal.returns-else-shortest-n
unfolding first_of
returns-else-shortest-n c = rw (sym c.outside.ensures ∙ c.if-outside.false, le-ltb _ _ c.if-store-n.false, le-ltb _ _ c.if-shortest-n.false)
