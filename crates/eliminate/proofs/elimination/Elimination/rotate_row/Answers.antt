use mathlib.Core.Path.{◌∙◌}
use lib.ListN.{take}
use Rattle.eliminate.proofs.eliminate.Placing.{places_done}
use Rattle.eliminate.proofs.elimination.Elimination.rotate_row.Goals as goal

pub returns-clause-turned : goal.returns-clause-turned
returns-clause-turned c =
    let l = c.loop-k in
    let r = c.args.self.now in
    places_done r.n l.k r.upper_r.now l.self.upper_r.now l.self.rhs.now (take r.n l.l) l.q c.loop-k-test.false (l.self.rhs_len ∙ l.invariant.0.size) l.invariant.1
