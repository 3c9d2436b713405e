use Prim.Native.Nat.{ℕ, ◌*◌, ◌<◌}
use mathlib.Core.Path.{sym, ap, ◌∙◌}
use native.Mathlib.Omega.{arith}
use borrow.Author.Rules.{rules}
use lib.ListN.{length, length-take}
use Rattle.leaves.proofs.Insides.{inside, jacobian_small}
use Rattle.frozen.specs.Frozen.{marks_of, free_count}
use Rattle.frozen.proofs.Blocks.{free_fits, columns-sizes, columns_short, columns_no_room, columns_done}
use Rattle.frozen.proofs.columns.free_columns.Goals as goal

pub returns-then-outside : goal.returns-then-outside
returns-then-outside c = columns-sizes c.args.m c.args.n c.args.marks c.args.src.now c.args.dst.now (sym c.outside.ensures ∙ c.if-outside.true)

pub overflow_mul-m : goal.overflow_mul-m
overflow_mul-m c = let i = inside _ _ (sym c.outside.ensures ∙ c.if-outside.false) in let q = jacobian_small i in search rules

pub returns-then-src-m : goal.returns-then-src-m
returns-then-src-m c = columns_short c.args.m c.args.n c.args.marks c.args.src.now c.args.dst.now (sym c.outside.ensures ∙ c.if-outside.false) c.if-src-m.true

pub overflow_mul-need : goal.overflow_mul-need
overflow_mul-need c =
    let g = c.args in
    let i = inside _ _ (sym c.outside.ensures ∙ c.if-outside.false) in
    let q = jacobian_small i in
    let w = free_fits g.m g.n g.marks in
    let e = c.free_count.ensures in
    rw e (search rules)

pub returns-then-dst-need : goal.returns-then-dst-need
returns-then-dst-need c =
    let g = c.args in
    let h : length g.dst.now < g.m * free_count (marks_of g.n g.marks) = rw c.free_count.ensures at c.if-dst-need.true in
    columns_no_room c.args.m c.args.n c.args.marks c.args.src.now c.args.dst.now (sym c.outside.ensures ∙ c.if-outside.false) c.if-src-m.false h

pub slice_bounds-copy_free-end-2 : goal.slice_bounds-copy_free-end-2
slice_bounds-copy_free-end-2 c = simp length-take (omega arith)

pub copy_free-requires : goal.copy_free-requires
copy_free-requires c =
    let g = c.args in
    let e = ap (λ (k : ℕ). g.m * k) c.free_count.ensures in
    record { n_in_bounds = search rules; dst_len = simp length-take (omega arith) }

pub returns : goal.returns
returns c =
    let e = c.free_count.ensures in
    rw e (columns_done c.args.m c.args.n c.args.marks c.args.src.now c.args.dst.now (sym c.outside.ensures ∙ c.if-outside.false) c.if-src-m.false _ (rw e at c.if-dst-need.false) c.copy_free.ensures)
