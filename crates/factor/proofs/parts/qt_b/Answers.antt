use mathlib.Core.Path.{sym, ◌∙◌}
use lib.ListN.{length}
use Rattle.factor.specs.Parts.{qtb_in}
use Rattle.factor.specs.Room.{load}
use Rattle.factor.proofs.Lends.{each_long, front_long, store_sized, lent-refused, lent_written}
use native.Mathlib.Omega.{arith}
use Rattle.factor.proofs.Layouts.{qtb_is}
use Rattle.factor.proofs.Answers.{handed_on}
use Rattle.factor.proofs.parts.qt_b.Goals as goal

pub returns-in_err-sizes : goal.returns-in_err-sizes
unfolding qtb_in
returns-in_err-sizes c =
    let g = c.args in
    rw (handed_on _ _ c.from_residual.ensures.1) (lent-refused 1 g.n g.store.now g.w.now (load g.n g.store.now).qtb _ c.in_err-sizes.ensures)

pub slice_bounds-copy_part-end : goal.slice_bounds-copy_part-end
slice_bounds-copy_part-end c =
    let g = c.args in
    each_long 1 g.n g.store.now (length g.w.now) c.in_ok-sizes.ensures

pub slice_bounds-copy_part-end-2 : goal.slice_bounds-copy_part-end-2
slice_bounds-copy_part-end-2 c =
    let g = c.args in
    sym (front_long 1 g.n g.store.now g.w.now c.in_ok-sizes.ensures)

pub invariant_of-copy_part : goal.invariant_of-copy_part
invariant_of-copy_part c =
    let g = c.args in
    record { sized = store_sized 1 g.n g.store.now (length g.w.now) c.in_ok-sizes.ensures }

pub copy_part-requires : goal.copy_part-requires
copy_part-requires c =
    let g = c.args in
    (omega arith, front_long 1 g.n g.store.now g.w.now c.in_ok-sizes.ensures)

pub returns : goal.returns
unfolding qtb_in
returns c =
    let g = c.args in
    let x = c.copy_part in
    lent_written 1 g.n g.store.now g.w.now _ c.in_ok-sizes.ensures (x.ensures ∙ qtb_is g.n g.store.now) x.auto.w
