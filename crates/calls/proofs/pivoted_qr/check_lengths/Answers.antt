use mathlib.Core.Path.{sym, ◌∙◌}
use borrow.Author.Rules.{rules}
use borrow.Author.Tests.{lt-ltb, le-ltb}
use Rattle.leaves.specs.Tests.{first_of}
use Rattle.leaves.proofs.Insides.{inside, square_small, jacobian_small}
use Rattle.calls.proofs.pivoted_qr.check_lengths.Goals as goal

pub returns-then-outside : goal.returns-then-outside
unfolding first_of
returns-then-outside c = rw (sym c.outside.ensures ∙ c.if-outside.true)

pub returns-then-mark_past : goal.returns-then-mark_past
unfolding first_of
returns-then-mark_past c = rw (sym c.outside.ensures ∙ c.if-outside.false, sym c.mark_past.ensures ∙ c.if-mark_past.true)

pub overflow_mul-mn : goal.overflow_mul-mn
overflow_mul-mn c = let i = inside _ _ (sym c.outside.ensures ∙ c.if-outside.false) in let q = square_small i in let j = jacobian_small i in search rules

pub returns-then-jacobian-mn : goal.returns-then-jacobian-mn
unfolding first_of
returns-then-jacobian-mn c = rw (sym c.outside.ensures ∙ c.if-outside.false, sym c.mark_past.ensures ∙ c.if-mark_past.false, lt-ltb _ _ c.if-jacobian-mn.true)

pub returns-then-residuals-m : goal.returns-then-residuals-m
unfolding first_of
returns-then-residuals-m c = rw (sym c.outside.ensures ∙ c.if-outside.false, sym c.mark_past.ensures ∙ c.if-mark_past.false, le-ltb _ _ c.if-jacobian-mn.false, lt-ltb _ _ c.if-residuals-m.true)

pub overflow_mul-n : goal.overflow_mul-n
overflow_mul-n c = let i = inside _ _ (sym c.outside.ensures ∙ c.if-outside.false) in let q = square_small i in let j = jacobian_small i in search rules

pub overflow_mul-n-2 : goal.overflow_mul-n-2
overflow_mul-n-2 c = let i = inside _ _ (sym c.outside.ensures ∙ c.if-outside.false) in let q = square_small i in let j = jacobian_small i in search rules

pub overflow_add-n : goal.overflow_add-n
overflow_add-n c = let i = inside _ _ (sym c.outside.ensures ∙ c.if-outside.false) in let q = square_small i in let j = jacobian_small i in search rules

pub returns-then-store-n : goal.returns-then-store-n
unfolding first_of
returns-then-store-n c = rw (sym c.outside.ensures ∙ c.if-outside.false, sym c.mark_past.ensures ∙ c.if-mark_past.false, le-ltb _ _ c.if-jacobian-mn.false, le-ltb _ _ c.if-residuals-m.false, lt-ltb _ _ c.if-store-n.true)

pub returns-then-order-n : goal.returns-then-order-n
unfolding first_of
returns-then-order-n c = rw (sym c.outside.ensures ∙ c.if-outside.false, sym c.mark_past.ensures ∙ c.if-mark_past.false, le-ltb _ _ c.if-jacobian-mn.false, le-ltb _ _ c.if-residuals-m.false, le-ltb _ _ c.if-store-n.false, lt-ltb _ _ c.if-order-n.true)

pub overflow_add-mn : goal.overflow_add-mn
overflow_add-mn c = let i = inside _ _ (sym c.outside.ensures ∙ c.if-outside.false) in let q = square_small i in let j = jacobian_small i in search rules

pub returns-then-bench-mn : goal.returns-then-bench-mn
unfolding first_of
returns-then-bench-mn c = rw (sym c.outside.ensures ∙ c.if-outside.false, sym c.mark_past.ensures ∙ c.if-mark_past.false, le-ltb _ _ c.if-jacobian-mn.false, le-ltb _ _ c.if-residuals-m.false, le-ltb _ _ c.if-store-n.false, le-ltb _ _ c.if-order-n.false, lt-ltb _ _ c.if-bench-mn.true)

pub returns-else-bench-mn : goal.returns-else-bench-mn
unfolding first_of
returns-else-bench-mn c = rw (sym c.outside.ensures ∙ c.if-outside.false, sym c.mark_past.ensures ∙ c.if-mark_past.false, le-ltb _ _ c.if-jacobian-mn.false, le-ltb _ _ c.if-residuals-m.false, le-ltb _ _ c.if-store-n.false, le-ltb _ _ c.if-order-n.false, le-ltb _ _ c.if-bench-mn.false)
