use mathlib.Core.Path.{refl, ap}
use Rattle.std.specs.Prelude.{is_ok}
use Rattle.factor.proofs.Damped.{eliminate_fits, room_lowered, step_left}
use Rattle.factor.proofs.pivot_order.damped_numbers.Goals as goal

pub unwrap-requires : goal.unwrap-requires
unwrap-requires c =
    let g = c.args in
    let p = g.p.now in
    let q = c.requires in
    let x = c.eliminate_diag in
    let y = c.copy_part in
    let r = c.lent.ensures in
    ap is_ok (eliminate_fits p.n g.ds.now p.cells.now x.new.square y.new.w x.new.rhs g.ldiag.now x.new.ldiag (p.some, p.sized) q.ds_len q.ldiag_len x.auto.square (rw (r.n, r.cells) at y.ensures) x.ensures x.result refl)

pub returns : goal.returns
returns c =
    let g = c.args in
    let p = g.p.now in
    let q = c.requires in
    let x = c.eliminate_diag in
    let y = c.copy_part in
    let r = c.lent.ensures in
    let o = c.lent-2.ensures in
    let z = c.put_part.ensures in
    record {
      same_cells = z.same_cells;
      room = room_lowered p.n g.ds.now p.cells.now x.new.square y.new.w x.new.rhs g.ldiag.now x.new.ldiag (p.some, p.sized) q.ds_len q.ldiag_len x.auto.square (rw (r.n, r.cells) at y.ensures) x.ensures _ (rw z.same_n at z.room) refl;
      w_after = step_left p.n g.ds.now p.cells.now x.new.square y.new.w x.new.rhs g.ldiag.now x.new.ldiag (p.some, p.sized) q.ds_len q.ldiag_len x.auto.square (rw (r.n, r.cells) at y.ensures) x.ensures o.cells (rw o.n at c.square_of-square.ensures.below) c.backward_in.ensures;
    }
