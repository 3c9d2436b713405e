use Prim.Native.Nat.{min}
use mathlib.Core.Path.{sym, ◌∙◌}
use native.Mathlib.Omega.{arith}
use lib.ListN.{length}
use Rattle.packing.proofs.Called.{lent_sized, need_long, pack-lent, pack-refused, pack_done}
use Rattle.packing.proofs.pack.pack.Goals as goal

pub returns-in-Err : goal.returns-in-Err
returns-in-Err c = let g = c.args in pack-refused g.st g.store.now g.order.now g.room.now g.places.now _ c.in-Err.ensures

pub pack_need-need-requires : goal.pack_need-need-requires
pack_need-need-requires c =
    let g = c.args in
    let e = sym c.in_default.ensures in
    let p = pack-lent g.st g.store.now g.order.now g.room.now g.places.now e in
    p.sizes.cols_few

pub slice_bounds-pack_in-end : goal.slice_bounds-pack_in-end
slice_bounds-pack_in-end c =
    let g = c.args in
    let e = sym c.in_default.ensures in
    let p = pack-lent g.st g.store.now g.order.now g.room.now g.places.now e in
    omega (arith, p.room_long, c.pack_need-need.ensures)

pub slice_bounds-pack_in-end-2 : goal.slice_bounds-pack_in-end-2
slice_bounds-pack_in-end-2 c =
    let g = c.args in
    let e = sym c.in_default.ensures in
    let p = pack-lent g.st g.store.now g.order.now g.room.now g.places.now e in
    c.pack_need-need.ensures ∙ sym (need_long g.st.n c.pack_need-need.result g.room.now c.pack_need-need.ensures p.room_long)

pub pack_in-requires : goal.pack_in-requires
pack_in-requires c =
    let g = c.args in
    let e = sym c.in_default.ensures in
    let p = pack-lent g.st g.store.now g.order.now g.room.now g.places.now e in
    record { n_nonzero = lent_sized g.st g.store.now (min (length g.order.now) (length g.places.now)) (length g.room.now) p; room_len = need_long g.st.n c.pack_need-need.result g.room.now c.pack_need-need.ensures p.room_long }

pub place-requires : goal.place-requires
place-requires c =
    let g = c.args in
    let e = sym c.in_default.ensures in
    let p = pack-lent g.st g.store.now g.order.now g.room.now g.places.now e in
    let l = p.each_long in
    (omega arith, omega arith)

pub returns : goal.returns
returns c =
    let g = c.args in
    let e = sym c.in_default.ensures in
    pack_done g.st g.store.now g.order.now g.room.now g.places.now c.pack_need-need.result _ _ e c.pack_need-need.ensures c.pack_in.ensures c.pack_in.auto.room c.place.ensures
