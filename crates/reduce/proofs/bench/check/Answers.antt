use Prim.Native.Nat.{◌*◌}
use mathlib.Core.Path.{refl, sym, ◌∙◌}
use native.Mathlib.Omega.{arith}
use borrow.Author.Tests.{eq-eqb, ne_eqb}
use Rattle.leaves.specs.Tests.{first_of}
use Rattle.leaves.proofs.Insides.{inside, jacobian_small}
use Rattle.reduce.proofs.bench.check.Goals as goal

pub returns-then-outside : goal.returns-then-outside
unfolding first_of
returns-then-outside c = rw (sym c.outside.ensures ∙ c.if-outside.true)

pub returns-then-norms-n : goal.returns-then-norms-n
unfolding first_of
returns-then-norms-n c = let g = c.args in rw (sym c.outside.ensures ∙ c.if-outside.false, eq-eqb (g.m * g.n) _ refl, eq-eqb g.m _ refl, ne_eqb _ _ c.if-norms-n.true)

pub returns-then-diag-n : goal.returns-then-diag-n
unfolding first_of
returns-then-diag-n c = let g = c.args in rw (sym c.outside.ensures ∙ c.if-outside.false, eq-eqb (g.m * g.n) _ refl, eq-eqb g.m _ refl, eq-eqb _ _ c.if-norms-n.false, ne_eqb _ _ c.if-diag-n.true)

pub returns-then-order-n : goal.returns-then-order-n
unfolding first_of
returns-then-order-n c = let g = c.args in rw (sym c.outside.ensures ∙ c.if-outside.false, eq-eqb (g.m * g.n) _ refl, eq-eqb g.m _ refl, eq-eqb _ _ c.if-norms-n.false, eq-eqb _ _ c.if-diag-n.false, ne_eqb _ _ c.if-order-n.true)

pub overflow_mul-m : goal.overflow_mul-m
overflow_mul-m c =
    let i = inside _ _ (sym c.outside.ensures ∙ c.if-outside.false) in
    omega (arith, jacobian_small i)

pub overflow_add-m : goal.overflow_add-m
overflow_add-m c =
    let i = inside _ _ (sym c.outside.ensures ∙ c.if-outside.false) in
    omega (arith, jacobian_small i, i.rows_few)

pub returns-then-bench-m : goal.returns-then-bench-m
unfolding first_of
returns-then-bench-m c = let g = c.args in rw (sym c.outside.ensures ∙ c.if-outside.false, eq-eqb (g.m * g.n) _ refl, eq-eqb g.m _ refl, eq-eqb _ _ c.if-norms-n.false, eq-eqb _ _ c.if-diag-n.false, eq-eqb _ _ c.if-order-n.false, ne_eqb _ _ c.if-bench-m.true)

pub returns-else-bench-m : goal.returns-else-bench-m
unfolding first_of
returns-else-bench-m c = let g = c.args in rw (sym c.outside.ensures ∙ c.if-outside.false, eq-eqb (g.m * g.n) _ refl, eq-eqb g.m _ refl, eq-eqb _ _ c.if-norms-n.false, eq-eqb _ _ c.if-diag-n.false, eq-eqb _ _ c.if-order-n.false, eq-eqb _ _ c.if-bench-m.false)
