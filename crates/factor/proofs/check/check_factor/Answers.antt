use mathlib.Core.Path.{sym, ◌∙◌}
use native.Mathlib.Omega.{arith}
use borrow.Author.Tests.{lt-ltb, le-ltb}
use lib.Seq.{length-take-le}
use Rattle.leaves.specs.Tests.{first_of}
use Rattle.leaves.proofs.Insides.{inside, square_small, jacobian_small}
use Rattle.factor.proofs.check.check_factor.Goals as goal

pub returns-then-outside : goal.returns-then-outside
unfolding first_of
returns-then-outside c = rw (sym c.outside.ensures ∙ c.if-outside.true)

pub overflow_mul-mn : goal.overflow_mul-mn
overflow_mul-mn c =
    let i = inside _ _ (sym c.outside.ensures ∙ c.if-outside.false) in
    omega (arith, jacobian_small i)

pub returns-then-jacobian-mn : goal.returns-then-jacobian-mn
unfolding first_of
returns-then-jacobian-mn c = rw (sym c.outside.ensures ∙ c.if-outside.false, lt-ltb _ _ c.if-jacobian-mn.true)

pub returns-then-residuals-m : goal.returns-then-residuals-m
unfolding first_of
returns-then-residuals-m c = rw (sym c.outside.ensures ∙ c.if-outside.false, le-ltb _ _ c.if-jacobian-mn.false, lt-ltb _ _ c.if-residuals-m.true)

pub overflow_mul-n : goal.overflow_mul-n
overflow_mul-n c =
    let i = inside _ _ (sym c.outside.ensures ∙ c.if-outside.false) in
    omega (arith, square_small i)

pub overflow_mul-n-2 : goal.overflow_mul-n-2
overflow_mul-n-2 c =
    let i = inside _ _ (sym c.outside.ensures ∙ c.if-outside.false) in
    omega (arith, square_small i)

pub overflow_add-n : goal.overflow_add-n
overflow_add-n c =
    let i = inside _ _ (sym c.outside.ensures ∙ c.if-outside.false) in
    omega (arith, square_small i)

pub returns-then-store-n : goal.returns-then-store-n
unfolding first_of
returns-then-store-n c = rw (sym c.outside.ensures ∙ c.if-outside.false, le-ltb _ _ c.if-jacobian-mn.false, le-ltb _ _ c.if-residuals-m.false, lt-ltb _ _ c.if-store-n.true)

pub returns-then-order-n : goal.returns-then-order-n
unfolding first_of
returns-then-order-n c = rw (sym c.outside.ensures ∙ c.if-outside.false, le-ltb _ _ c.if-jacobian-mn.false, le-ltb _ _ c.if-residuals-m.false, le-ltb _ _ c.if-store-n.false, lt-ltb _ _ c.if-order-n.true)

pub returns-then-bench-mn : goal.returns-then-bench-mn
unfolding first_of
returns-then-bench-mn c = rw (sym c.outside.ensures ∙ c.if-outside.false, le-ltb _ _ c.if-jacobian-mn.false, le-ltb _ _ c.if-residuals-m.false, le-ltb _ _ c.if-store-n.false, le-ltb _ _ c.if-order-n.false, lt-ltb _ _ c.if-bench-mn.true)

pub slice_bounds-all_finite-end : goal.slice_bounds-all_finite-end
slice_bounds-all_finite-end c = sym (length-take-le _ _ c.if-jacobian-mn.false)

pub returns-then-not-all_finite : goal.returns-then-not-all_finite
unfolding first_of
returns-then-not-all_finite c = rw (sym c.outside.ensures ∙ c.if-outside.false, le-ltb _ _ c.if-jacobian-mn.false, le-ltb _ _ c.if-residuals-m.false, le-ltb _ _ c.if-store-n.false, le-ltb _ _ c.if-order-n.false, le-ltb _ _ c.if-bench-mn.false, sym c.all_finite.ensures ∙ c.if-not-all_finite.true)

pub slice_bounds-all_finite-end-2 : goal.slice_bounds-all_finite-end-2
slice_bounds-all_finite-end-2 c = sym (length-take-le _ _ c.if-residuals-m.false)

pub returns-then-all_finite : goal.returns-then-all_finite
unfolding first_of
returns-then-all_finite c = rw (sym c.outside.ensures ∙ c.if-outside.false, le-ltb _ _ c.if-jacobian-mn.false, le-ltb _ _ c.if-residuals-m.false, le-ltb _ _ c.if-store-n.false, le-ltb _ _ c.if-order-n.false, le-ltb _ _ c.if-bench-mn.false, sym c.all_finite.ensures ∙ c.if-not-all_finite.false, sym c.all_finite-2.ensures ∙ c.if-all_finite.true)

pub returns-else-all_finite : goal.returns-else-all_finite
unfolding first_of
returns-else-all_finite c = rw (sym c.outside.ensures ∙ c.if-outside.false, le-ltb _ _ c.if-jacobian-mn.false, le-ltb _ _ c.if-residuals-m.false, le-ltb _ _ c.if-store-n.false, le-ltb _ _ c.if-order-n.false, le-ltb _ _ c.if-bench-mn.false, sym c.all_finite.ensures ∙ c.if-not-all_finite.false, sym c.all_finite-2.ensures ∙ c.if-all_finite.false)
