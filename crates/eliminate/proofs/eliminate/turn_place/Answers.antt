use Rattle.eliminate.specs.Eliminate.{turned, left}
use Rattle.eliminate.proofs.eliminate.Placing.{turns_place}
use Rattle.eliminate.proofs.eliminate.turn_place.Goals as goal

pub returns : goal.returns
unfolding turned left
returns c =
    let e = c.givens_of-g.ensures in
    let t = c.turn_rest.ensures in
    let g = c.args in
    turns_place g.col.now c.turn_rest.new.col g.l.now c.turn_rest.new.l g.b g.rest c.givens_of-g.result e t.col_after t.l_after
