use Prim.Native.Nat.{min}
use mathlib.Core.Path.{sym, ◌∙◌}
use native.Mathlib.Omega.{arith}
use lib.ListN.{length}
use Rattle.packing.proofs.Called.{lent_sized, need_long, unpack-lent, unpack-refused, unpack_done}
use Rattle.packing.proofs.unpack.unpack.Goals as goal

pub returns-in-Err : goal.returns-in-Err
returns-in-Err c = let g = c.args in unpack-refused g.st g.room.now g.places.now g.store.now g.order.now _ c.in-Err.ensures

pub pack_need-need-requires : goal.pack_need-need-requires
pack_need-need-requires c =
    let g = c.args in
    let e = sym c.in_default.ensures in
    let p = unpack-lent g.st g.room.now g.places.now g.store.now g.order.now e in
    p.sizes.cols_few

pub slice_bounds-unpack_in-end : goal.slice_bounds-unpack_in-end
slice_bounds-unpack_in-end c =
    let g = c.args in
    let e = sym c.in_default.ensures in
    let p = unpack-lent g.st g.room.now g.places.now g.store.now g.order.now e in
    c.pack_need-need.ensures ∙ sym (need_long g.st.n c.pack_need-need.result g.room.now c.pack_need-need.ensures p.room_long)

pub unpack_in-requires : goal.unpack_in-requires
unpack_in-requires c =
    let g = c.args in
    let e = sym c.in_default.ensures in
    let p = unpack-lent g.st g.room.now g.places.now g.store.now g.order.now e in
    record { n_nonzero = lent_sized g.st g.store.now (min (length g.order.now) (length g.places.now)) (length g.room.now) p; room_len = need_long g.st.n c.pack_need-need.result g.room.now c.pack_need-need.ensures p.room_long }

pub place-requires : goal.place-requires
place-requires c =
    let g = c.args in
    let e = sym c.in_default.ensures in
    let p = unpack-lent g.st g.room.now g.places.now g.store.now g.order.now e in
    let l = p.each_long in
    (omega arith, omega arith)

pub returns : goal.returns
returns c =
    let g = c.args in
    let e = sym c.in_default.ensures in
    unpack_done g.st g.room.now g.places.now g.store.now g.order.now c.pack_need-need.result _ _ e c.pack_need-need.ensures c.unpack_in.ensures c.place.ensures
