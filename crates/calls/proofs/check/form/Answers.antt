use mathlib.Core.Path.{◌≡◌, sym, ◌∙◌}
use mathlib.Core.Bool.{true, false}
use borrow.Author.Tests.{lt-ltb, le-ltb}
use Rattle.leaves.specs.Tests.{first_of}
use Rattle.leaves.proofs.Insides.{inside}
use Rattle.frozen.specs.Frozen.{marks_of, free_count}
use Rattle.calls.specs.Tests.{is_order}
use Rattle.calls.proofs.Passed.{free_count-fits}
use Rattle.calls.proofs.check.form.Goals as goal

pub returns-then-outside : goal.returns-then-outside
unfolding first_of
returns-then-outside c = rw (sym c.outside.ensures ∙ c.if-outside.true)

pub returns-then-mark_past : goal.returns-then-mark_past
unfolding first_of
returns-then-mark_past c = rw (sym c.outside.ensures ∙ c.if-outside.false, sym c.mark_past.ensures ∙ c.if-mark_past.true)

pub returns-then-order-n : goal.returns-then-order-n
unfolding first_of
returns-then-order-n c = rw (sym c.outside.ensures ∙ c.if-outside.false, sym c.mark_past.ensures ∙ c.if-mark_past.false, lt-ltb _ _ c.if-order-n.true)

pub is_order-requires : goal.is_order-requires
is_order-requires c =
    let g = c.args in
    let i = inside 1 g.n (sym c.outside.ensures ∙ c.if-outside.false) in
    (rw c.free_count.ensures (free_count-fits g.n g.marks), i.cols_few, c.if-order-n.false)

pub returns-then-is_order : goal.returns-then-is_order
unfolding first_of
returns-then-is_order c =
    let g = c.args in
    let o : is_order (free_count (marks_of g.n g.marks)) g.n g.order.now ≡ true = rw (← c.free_count.ensures) (sym c.is_order.ensures ∙ c.if-is_order.true) in
    rw (sym c.outside.ensures ∙ c.if-outside.false, sym c.mark_past.ensures ∙ c.if-mark_past.false, le-ltb _ _ c.if-order-n.false, o)

pub returns-else-is_order : goal.returns-else-is_order
unfolding first_of
returns-else-is_order c =
    let g = c.args in
    let o : is_order (free_count (marks_of g.n g.marks)) g.n g.order.now ≡ false = rw (← c.free_count.ensures) (sym c.is_order.ensures ∙ c.if-is_order.false) in
    rw (sym c.outside.ensures ∙ c.if-outside.false, sym c.mark_past.ensures ∙ c.if-mark_past.false, le-ltb _ _ c.if-order-n.false, o)
