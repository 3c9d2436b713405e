use Rattle.factor.proofs.Glue.{zero_law}
use Rattle.factor.proofs.least_squares.zero_step.Goals as goal

pub returns : goal.returns
returns c =
    let g = c.args in
    let p = g.p.now in
    let r = c.lent.ensures in
    let o = c.lent-2.ensures in
    let x = c.empty_room.ensures in
    record {
      same_n = x.same_n;
      same_cells = x.same_cells;
      w_after = zero_law g.m p.n p.cells.now (rw (r.n, r.cells) at c.copy_part.ensures) (rw (o.n, o.cells) at c.square_of.ensures.upper) c.zero_solve.ensures;
      cells = x.cells;
    }
