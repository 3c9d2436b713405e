use native.Mathlib.Omega.{arith}
use lib.Ieee.{of_bits}
use Rattle.eliminate.proofs.eliminate.Placing.{place_skipped, place_turned}
use Rattle.eliminate.proofs.elimination.Elimination.rotate_place.Goals as goal

pub returns-then-l-k-clause-ahead : goal.returns-then-l-k-clause-ahead
unfolding of_bits
returns-then-l-k-clause-ahead c =
    let g = c.args in
    let r = g.self.now in
    place_skipped r.n g.k r.upper_r.now r.rhs.now g.l.now g.q r.square c.requires (omega (arith, r.square.small)) r.rhs_len c.if-l-k.true

pub returns-clause-ahead : goal.returns-clause-ahead
unfolding of_bits
returns-clause-ahead c =
    let g = c.args in
    let r = g.self.now in
    let t = c.turn_place-p in
    place_turned r.n g.k r.upper_r.now r.rhs.now g.l.now g.q r.square c.requires (omega (arith, r.square.small)) r.rhs_len t.result t.new.col t.new.l c.if-l-k.false _ c.cell_at-from.ensures.value t.ensures
