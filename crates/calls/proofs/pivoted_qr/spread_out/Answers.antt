use mathlib.Core.Path.{◌≡◌, sym, ap, ◌∙◌, subst}
use Prim.Native.Nat.{ℕ, ◌≤◌}
use native.Mathlib.Omega.{arith}
use borrow.Author.Rules.{rules}
use lib.ListN.{length}
use lib.Seq.{length-take-le, length_front}
use Rattle.std.specs.Prelude.{is_ok}
use Rattle.calls.proofs.Leavings.{need_within, need_small, spread_back}
use Rattle.calls.proofs.pivoted_qr.spread_out.Goals as goal

pub slice_bounds-small-end : goal.slice_bounds-small-end
slice_bounds-small-end c =
    let p = c.requires in
    let w = need_small _ _ p.1 p.2 in
    let e = c.store_need-need.ensures in
    let z : length c.room320-small.result ≡ 320 = ap length c.room320-small.ensures in
    omega arith

pub slice_bounds-copy_from_slice-end : goal.slice_bounds-copy_from_slice-end
slice_bounds-copy_from_slice-end c =
    let p = c.requires in
    let w = need_small _ _ p.1 p.2 in
    let e = c.store_need-need.ensures in
    let z : length c.room320-small.result ≡ 320 = ap length c.room320-small.ensures in
    sym (length-take-le _ _ (omega arith))

pub slice_bounds-copy_from_slice-end-2 : goal.slice_bounds-copy_from_slice-end-2
slice_bounds-copy_from_slice-end-2 c = let g = c.args in let w = need_within g.n g.free c.requires.1 in let e = c.store_need-need.ensures in search rules

pub slice_bounds-copy_from_slice-end-3 : goal.slice_bounds-copy_from_slice-end-3
slice_bounds-copy_from_slice-end-3 c = let g = c.args in let w = need_within g.n g.free c.requires.1 in let e = c.store_need-need.ensures in sym (length-take-le _ _ (omega arith))

pub copy_from_slice-requires : goal.copy_from_slice-requires
copy_from_slice-requires c =
    let p = c.requires in
    let w = need_small _ _ p.1 p.2 in
    let e = c.store_need-need.ensures in
    let z : length c.room320-small.result ≡ 320 = ap length c.room320-small.ensures in
    let v = need_within c.args.n c.args.free p.1 in
    length-take-le _ c.room320-small.result (omega arith) ∙ sym (length-take-le _ c.args.store.now (omega arith))

pub slice_bounds-small-end-2 : goal.slice_bounds-small-end-2
slice_bounds-small-end-2 c =
    let p = c.requires in
    let w = need_small _ _ p.1 p.2 in
    let e = c.store_need-need.ensures in
    let z : length c.room320-small.result ≡ 320 = ap length c.room320-small.ensures in
    subst (λ (j : ℕ). c.store_need-need.result ≤ j) (sym (length_front c.room320-small.result c.copy_from_slice.new.self c.store_need-need.result c.copy_from_slice.auto.self)) (omega arith)

pub slice_bounds-spread-end : goal.slice_bounds-spread-end
slice_bounds-spread-end c =
    let p = c.requires in
    let w = need_small _ _ p.1 p.2 in
    let e = c.store_need-need.ensures in
    let z : length c.room320-small.result ≡ 320 = ap length c.room320-small.ensures in
    sym (length-take-le _ _ (subst (λ (j : ℕ). c.store_need-need.result ≤ j) (sym (length_front c.room320-small.result c.copy_from_slice.new.self c.store_need-need.result c.copy_from_slice.auto.self)) (omega arith)))

pub unwrap-requires : goal.unwrap-requires
unwrap-requires c =
    let g = c.args in
    let p = c.requires in
    ap is_ok (spread_back g.n g.free _ g.store.now c.room320-small.result _ _ _ p.0 p.1 p.2 p.3 c.store_need-need.ensures c.copy_from_slice.ensures.after c.spread.ensures).0

pub returns : goal.returns
returns c =
    let g = c.args in
    let p = c.requires in
    (spread_back g.n g.free _ g.store.now c.room320-small.result _ _ _ p.0 p.1 p.2 p.3 c.store_need-need.ensures c.copy_from_slice.ensures.after c.spread.ensures).1
