use native.Mathlib.Omega.{arith}
use Rattle.leaves.proofs.Insides.{inside, jacobian_small}
use borrow.Author.Tests.{eq-eqb, ne_eqb}
use Rattle.sheet.specs.Sheet.{count_of}
use Rattle.sheet.proofs.sized.Sizes.count.Goals as goal

pub overflow_mul-result : goal.overflow_mul-result
overflow_mul-result c = let i = inside _ _ c.args.self.sizes in omega (arith, jacobian_small i, i.rows_few, i.cols_few)

pub overflow_add-result : goal.overflow_add-result
overflow_add-result c = let i = inside _ _ c.args.self.sizes in omega (arith, jacobian_small i, i.rows_few, i.cols_few)

pub overflow_add-result-then-self-eq1 : goal.overflow_add-result-then-self-eq1
overflow_add-result-then-self-eq1 c = let i = inside _ _ c.args.self.sizes in omega (arith, jacobian_small i, i.rows_few, i.cols_few)

pub overflow_add-result-then-self-eq1-2 : goal.overflow_add-result-then-self-eq1-2
overflow_add-result-then-self-eq1-2 c = let i = inside _ _ c.args.self.sizes in omega (arith, jacobian_small i, i.rows_few, i.cols_few)

pub returns-then-self-eq1 : goal.returns-then-self-eq1
unfolding count_of
returns-then-self-eq1 c = let i = inside _ _ c.args.self.sizes in (rw (eq-eqb _ _ c.if-self-eq1.true), omega (arith, jacobian_small i, i.rows_few, i.cols_few))

pub overflow_mul-result-2 : goal.overflow_mul-result-2
overflow_mul-result-2 c = let i = inside _ _ c.args.self.sizes in omega (arith, jacobian_small i, i.rows_few, i.cols_few)

pub overflow_add-result-2 : goal.overflow_add-result-2
overflow_add-result-2 c = let i = inside _ _ c.args.self.sizes in omega (arith, jacobian_small i, i.rows_few, i.cols_few)

pub overflow_add-result-3 : goal.overflow_add-result-3
overflow_add-result-3 c = let i = inside _ _ c.args.self.sizes in omega (arith, jacobian_small i, i.rows_few, i.cols_few)

pub overflow_add-result-4 : goal.overflow_add-result-4
overflow_add-result-4 c = let i = inside _ _ c.args.self.sizes in omega (arith, jacobian_small i, i.rows_few, i.cols_few)

pub returns : goal.returns
unfolding count_of
returns c = let i = inside _ _ c.args.self.sizes in (rw (ne_eqb _ _ c.if-self-eq1.false), omega (arith, jacobian_small i, i.rows_few, i.cols_few))
