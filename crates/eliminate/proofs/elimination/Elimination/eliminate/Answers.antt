use Rattle.eliminate.proofs.Keeping.{kept_on}
use Rattle.eliminate.proofs.Settling.{eliminates_by}
use Rattle.eliminate.proofs.elimination.Elimination.eliminate.Goals as goal

pub returns-clause-eliminated : goal.returns-clause-eliminated
returns-clause-eliminated c =
    let g = c.args in
    let r = g.self.now in
    let m = c.mirror in
    let a = m.new.self in
    let z = c.eliminate_rows in
    let k = m.ensures.kept in
    eliminates_by r.n g.ds.now r.upper_r.now a.upper_r.now z.new.self.upper_r.now r.rhs.now z.new.self.rhs.now z.new.ldiag
    (rw k.size at a.square) (rw (kept_on k z.ensures.kept).size at z.new.self.square) m.ensures.mirrored (rw (k.size, m.ensures.rhs_same) at z.ensures.settled)
