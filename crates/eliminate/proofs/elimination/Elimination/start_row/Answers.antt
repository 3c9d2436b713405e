use lib.Ieee.{of_bits}
use Rattle.eliminate.proofs.Settling.{start_skipped, start-turned}
use Rattle.eliminate.proofs.elimination.Elimination.start_row.Goals as goal

pub returns-then-d-clause-turned : goal.returns-then-d-clause-turned
unfolding of_bits
returns-then-d-clause-turned c = let r = c.args.self.now in start_skipped r.n c.args.j r.upper_r.now r.rhs.now c.args.d c.if-d.true

pub returns-clause-turned : goal.returns-clause-turned
unfolding of_bits
returns-clause-turned c =
    let g = c.args in
    let r = g.self.now in
    let m = c.rotate_row in
    let e = m.new.self in
    start-turned r.n g.j r.upper_r.now e.upper_r.now r.rhs.now e.rhs.now c.filled-l.result g.d r.square.small c.requires c.if-d.false c.filled-l.ensures m.ensures.turned
