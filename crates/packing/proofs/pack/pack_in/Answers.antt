use native.Mathlib.Omega.{arith}
use lib.ListN.{length-take}
use lib.Seq.{length-take-le}
use Rattle.factor.proofs.Layouts.{square_of_lem}
use Rattle.packing.proofs.Corners.{triangle}
use Rattle.packing.proofs.Layings.{pack_laid}
use Rattle.packing.proofs.pack.pack_in.Goals as goal

pub slice_bounds-pack_columns-end : goal.slice_bounds-pack_columns-end
slice_bounds-pack_columns-end c = let f = c.requires.n_nonzero.1.fits in simp length-take (omega arith)

pub slice_bounds-pack_columns-end-3 : goal.slice_bounds-pack_columns-end-3
slice_bounds-pack_columns-end-3 c = simp length-take (omega arith)

pub pack_columns-requires : goal.pack_columns-requires
pack_columns-requires c =
    let g = c.args in
    let p = c.requires in
    let z = p.n_nonzero.1 in
    let q = square_of_lem g.n g.store.now z in
    record { n_bound = z.small; square = q; corner_len = length-take-le (triangle g.n) g.room.now (omega arith) }

pub returns : goal.returns
returns c =
    let g = c.args in
    let p = c.requires in
    pack_laid g.n g.store.now g.room.now _ _ p.n_nonzero.1 p.room_len c.pack_columns.ensures c.copy_from_slice.ensures.after
