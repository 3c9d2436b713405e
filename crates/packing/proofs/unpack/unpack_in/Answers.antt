use Prim.Native.Nat.{◌*◌}
use mathlib.Core.Path.{◌∙◌}
use native.Mathlib.Omega.{arith}
use lib.Ieee.{of_bits}
use lib.ListN.{length-take}
use lib.Seq.{length-take-le}
use Rattle.packing.proofs.Corners.{triangle}
use Rattle.packing.proofs.Layings.{unpack_laid}
use Rattle.packing.proofs.unpack.unpack_in.Goals as goal

pub slice_bounds-unpack_columns-end : goal.slice_bounds-unpack_columns-end
slice_bounds-unpack_columns-end c = simp length-take (omega arith)

pub slice_bounds-unpack_columns-end-3 : goal.slice_bounds-unpack_columns-end-3
slice_bounds-unpack_columns-end-3 c = let f = c.requires.n_nonzero.1.fits in simp length-take (omega arith)

pub unpack_columns-requires : goal.unpack_columns-requires
unpack_columns-requires c =
    let g = c.args in
    let p = c.requires in
    let f = p.n_nonzero.1.fits in
    record { n_bound = p.n_nonzero.1.small; corner_len = length-take-le (triangle g.n) g.room.now (omega arith); square_len = length-take-le (g.n * g.n) g.store.now (omega arith) }

pub returns : goal.returns
unfolding of_bits
returns c =
    let g = c.args in
    let p = c.requires in
    let f = p.n_nonzero.1.fits in
    let l = c.unpack_columns.auto.square ∙ length-take-le (g.n * g.n) g.store.now (omega arith) in
    unpack_laid g.n g.room.now g.store.now _ _ _ p.n_nonzero.1 p.room_len l c.unpack_columns.ensures c.copy_from_slice.ensures.after c.fill.ensures
