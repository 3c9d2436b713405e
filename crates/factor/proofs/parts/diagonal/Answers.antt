use mathlib.Core.Path.{sym, ap, ◌∙◌}
use lib.ListN.{length}
use Rattle.leaves.specs.Square.{diagonal}
use Rattle.factor.specs.Room.{load}
use Rattle.factor.specs.Parts.{diagonal_in}
use Rattle.factor.proofs.Lends.{each_long, front_long, store_sized, lent-refused, lent_written}
use Rattle.factor.proofs.Answers.{handed_on}
use Rattle.factor.proofs.parts.diagonal.Goals as goal

pub returns-in_err-sizes : goal.returns-in_err-sizes
unfolding diagonal_in
returns-in_err-sizes c =
    let g = c.args in
    rw (handed_on _ _ c.from_residual.ensures.1) (lent-refused 1 g.n g.store.now g.w.now (diagonal (load g.n g.store.now).upper) _ c.in_err-sizes.ensures)

pub invariant_of-square_of : goal.invariant_of-square_of
invariant_of-square_of c =
    let g = c.args in
    record { sized = store_sized 1 g.n g.store.now (length g.w.now) c.in_ok-sizes.ensures }

pub slice_bounds-copy_diagonal-end : goal.slice_bounds-copy_diagonal-end
slice_bounds-copy_diagonal-end c =
    let g = c.args in
    each_long 1 g.n g.store.now (length g.w.now) c.in_ok-sizes.ensures

pub slice_bounds-copy_diagonal-end-2 : goal.slice_bounds-copy_diagonal-end-2
slice_bounds-copy_diagonal-end-2 c =
    let g = c.args in
    sym (front_long 1 g.n g.store.now g.w.now c.in_ok-sizes.ensures)

pub copy_diagonal-requires : goal.copy_diagonal-requires
copy_diagonal-requires c =
    let g = c.args in
    front_long 1 g.n g.store.now g.w.now c.in_ok-sizes.ensures ∙ sym c.square_of-square.ensures.n

pub returns : goal.returns
unfolding diagonal_in
returns c =
    let g = c.args in
    let x = c.copy_diagonal in
    lent_written 1 g.n g.store.now g.w.now (diagonal (load g.n g.store.now).upper) c.in_ok-sizes.ensures (x.ensures ∙ ap diagonal c.square_of-square.ensures.upper) x.auto.w
