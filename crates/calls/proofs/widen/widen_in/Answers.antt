use Prim.Native.Nat.{ℕ, ◌+◌, ◌*◌}
use mathlib.Core.Path.{◌≡◌, refl, sym, ap, ◌∙◌}
use mathlib.Core.List.{List}
use native.Mathlib.Omega.{arith}
use lib.ListN.{length}
use lib.Ieee.{Float}
use Rattle.std.specs.Prelude.{is_ok}
use Rattle.factor.specs.State.{store_need}
use Rattle.factor.specs.Room.{load, lay, leaving}
use Rattle.factor.specs.Solve.{padded}
use Rattle.factor.specs.inner.Rooms.{Sized}
use Rattle.factor.proofs.Layouts.{load_shaped, square_of_lem, square_below}
use Rattle.calls.specs.Outcome.{widened}
use Rattle.calls.specs.inner.Reducible.{Reducible}
use Rattle.calls.proofs.Ways.{empty-worked}
use Rattle.calls.proofs.Widens.{emptied-below, widened-left, ldiag_read, padded_long}
use Rattle.calls.proofs.widen.widen_in.Goals as goal

sized : {n marks free : ℕ} {store : List Float} → Reducible n marks free store → Sized n store
sized r = record { small = r.few; fits = r.long }

small_sized : {n marks free : ℕ} {store small : List Float} → Reducible n marks free store → length small ≡ store_need free → Sized free small
small_sized r e = let f = r.fits in let w = r.few in record { small = omega arith; fits = omega arith }

-- what is left of an emptied store is sized too
still : {n : ℕ} {s t : List Float} → Sized n s → length t ≡ length s → Sized n t
still z e = let f = z.fits in record { small = z.small; fits = omega arith }

pub unwrap-requires : goal.unwrap-requires
unwrap-requires c = ap is_ok (empty-worked c.requires.reducible _ _ c.empty.ensures).0

pub invariant_of-part : goal.invariant_of-part
invariant_of-part c = record { square = square_of_lem c.args.free c.args.small.now (small_sized c.requires.reducible c.requires.small_len) }

pub slice_bounds-part-end : goal.slice_bounds-part-end
slice_bounds-part-end c = sym (square_of_lem c.args.free c.args.small.now (small_sized c.requires.reducible c.requires.small_len)).whole

pub slice_bounds-widen_columns-end-2 : goal.slice_bounds-widen_columns-end-2
slice_bounds-widen_columns-end-2 c = sym (square_of_lem c.args.n _ (still (sized c.requires.reducible) c.empty.auto.store)).whole

pub widen_columns-requires : goal.widen_columns-requires
widen_columns-requires c =
    let g = c.args in
    let r = c.requires.reducible in
    let z = still (sized r) c.empty.auto.store in
    record { square = square_of_lem g.n _ z; part_le_n = (r.fits, emptied-below g.n g.store.now _ (sized r) (empty-worked r _ _ c.empty.ensures).1) }

pub returns : goal.returns
returns c =
    let g = c.args in
    let p = c.requires in
    let e = (empty-worked p.reducible _ _ c.empty.ensures).1 in
    let w = c.widen_columns in
    let h = c.held_into in
    let q = small_sized p.reducible p.small_len in
    let r = load g.free g.small.now in
    let y = h.ensures ∙ ap (padded g.n) (ldiag_read g.free (g.free * g.free + 2 * g.free) g.small.now refl) in
    let l = ap length y ∙ padded_long g.n r.ldiag (let k = (load_shaped g.free g.small.now q).ldiag_long in let f = p.reducible.fits in omega arith) in
    widened-left g.n g.store.now _ (sized p.reducible) e _ _ _ _ (still (sized p.reducible) c.empty.auto.store) w.auto.square w.ensures.square_unchanged
    (w.ensures.square_after ∙ ap (widened g.n) (square_below g.free g.small.now)) refl l
    ∙ ap (λ (v : List Float). lay (leaving (widened g.n r.below) v (load g.n g.store.now))) y
