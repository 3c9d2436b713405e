use mathlib.Core.Path.{◌≡◌, sym, ◌∙◌}
use mathlib.Core.Bool.{true, false}
use native.Mathlib.Omega.{arith}
use lib.Dec.{ltb}
use borrow.Author.Tests.{lt-ltb, le-ltb}
use Rattle.leaves.specs.Tests.{first_of}
use Rattle.leaves.proofs.Insides.{inside, square_small}
use Rattle.packing.specs.Packing.{pack_need}
use Rattle.packing.proofs.check.lent.Goals as goal

pub returns-then-is_empty : goal.returns-then-is_empty
unfolding first_of
returns-then-is_empty c = rw (sym c.is_empty.ensures ∙ c.if-is_empty.true)

pub returns-then-outside : goal.returns-then-outside
unfolding first_of
returns-then-outside c = rw (sym c.is_empty.ensures ∙ c.if-is_empty.false, sym c.outside.ensures ∙ c.if-outside.true)

pub returns-then-mark_past : goal.returns-then-mark_past
unfolding first_of
returns-then-mark_past c = rw (sym c.is_empty.ensures ∙ c.if-is_empty.false, sym c.outside.ensures ∙ c.if-outside.false, sym c.mark_past.ensures ∙ c.if-mark_past.true)

pub overflow_mul-n : goal.overflow_mul-n
overflow_mul-n c =
    let i = inside _ _ (sym c.outside.ensures ∙ c.if-outside.false) in
    omega (arith, square_small i)

pub overflow_mul-n-2 : goal.overflow_mul-n-2
overflow_mul-n-2 c =
    let i = inside _ _ (sym c.outside.ensures ∙ c.if-outside.false) in
    omega (arith, i.cols_few)

pub overflow_add-n : goal.overflow_add-n
overflow_add-n c =
    let i = inside _ _ (sym c.outside.ensures ∙ c.if-outside.false) in
    omega (arith, i.cols_few, square_small i)

pub returns-then-store-n : goal.returns-then-store-n
unfolding first_of
returns-then-store-n c = rw (sym c.is_empty.ensures ∙ c.if-is_empty.false, sym c.outside.ensures ∙ c.if-outside.false, sym c.mark_past.ensures ∙ c.if-mark_past.false, lt-ltb _ _ c.if-store-n.true)

pub returns-then-shortest-n : goal.returns-then-shortest-n
unfolding first_of
returns-then-shortest-n c = rw (sym c.is_empty.ensures ∙ c.if-is_empty.false, sym c.outside.ensures ∙ c.if-outside.false, sym c.mark_past.ensures ∙ c.if-mark_past.false, le-ltb _ _ c.if-store-n.false, lt-ltb _ _ c.if-shortest-n.true)

pub pack_need-requires : goal.pack_need-requires
pack_need-requires c = (inside _ _ (sym c.outside.ensures ∙ c.if-outside.false)).cols_few

pub returns-then-room-pack_need : goal.returns-then-room-pack_need
unfolding first_of
returns-then-room-pack_need c =
    let g = c.args in
    let l : ltb g.room (pack_need g.st.n) ≡ true = rw (← c.pack_need.ensures) (lt-ltb _ _ c.if-room-pack_need.true) in
    rw (sym c.is_empty.ensures ∙ c.if-is_empty.false, sym c.outside.ensures ∙ c.if-outside.false, sym c.mark_past.ensures ∙ c.if-mark_past.false, le-ltb _ _ c.if-store-n.false, le-ltb _ _ c.if-shortest-n.false, l)

pub returns-else-room-pack_need : goal.returns-else-room-pack_need
unfolding first_of
returns-else-room-pack_need c =
    let g = c.args in
    let l : ltb g.room (pack_need g.st.n) ≡ false = rw (← c.pack_need.ensures) (le-ltb _ _ c.if-room-pack_need.false) in
    rw (sym c.is_empty.ensures ∙ c.if-is_empty.false, sym c.outside.ensures ∙ c.if-outside.false, sym c.mark_past.ensures ∙ c.if-mark_past.false, le-ltb _ _ c.if-store-n.false, le-ltb _ _ c.if-shortest-n.false, l)
