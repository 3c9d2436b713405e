use mathlib.Core.Path.{refl, sym, ◌∙◌}
use lib.ListN.{take}
use Rattle.factor.proofs.Damped.{damped-store, damped_out, damped_finite, damped-emptied}
use Rattle.factor.proofs.least_squares.damped_finite.Goals as goal

pub returns-then-not-all_finite : goal.returns-then-not-all_finite
returns-then-not-all_finite c =
    let g = c.args in
    let p = g.p.now in
    let os = take g.order.n g.order.places.now in
    let x = c.damped_step in
    let y = c.gather_into in
    let z = c.empty_room.ensures in
    let e = x.ensures.same_n in
    let r = x.ensures.room in
    record {
      same_cells = z.same_cells ∙ x.ensures.same_cells;
      value = sym c.if-not-all_finite.true ∙ damped_finite p.n os g.diag.now p.cells.now y.new.w x.new.p.cells.now x.new.w y.ensures r x.ensures.w_after c.all_finite.ensures;
      cells = damped-emptied p.n os g.diag.now p.cells.now y.new.w x.new.p.cells.now x.new.w y.ensures r x.ensures.w_after p.sized (rw e at x.new.p.sized) (rw e at z.cells);
      out_after = refl;
    }

pub returns : goal.returns
returns c =
    let g = c.args in
    let p = g.p.now in
    let os = take g.order.n g.order.places.now in
    let x = c.damped_step in
    let y = c.gather_into in
    let r = x.ensures.room in
    record {
      same_cells = x.ensures.same_cells;
      value = sym c.if-not-all_finite.false ∙ damped_finite p.n os g.diag.now p.cells.now y.new.w x.new.p.cells.now x.new.w y.ensures r x.ensures.w_after c.all_finite.ensures;
      cells = damped-store p.n os g.diag.now p.cells.now y.new.w x.new.p.cells.now x.new.w y.ensures r x.ensures.w_after;
      out_after = damped_out p.n os g.diag.now p.cells.now y.new.w x.new.p.cells.now x.new.w y.ensures r x.ensures.w_after g.out.now c.scatter_into.ensures;
    }
