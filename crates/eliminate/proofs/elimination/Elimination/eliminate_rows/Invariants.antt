use Rattle.eliminate.specs.Eliminate.{eliminated}
use Rattle.eliminate.specs.inner.Edges.{edges_of}
use Rattle.eliminate.specs.inner.Kept.{Kept}
use Rattle.eliminate.proofs.Settling.{Settling}
use Rattle.eliminate.proofs.elimination.Elimination.eliminate_rows.Given as goal

abbrev pub invariant-loop-j : goal.invariant-loop-j
invariant-loop-j l = let r = l.initial.self in Kept r l.self × Settling r.n l.j l.ds r.upper_r.now l.self.upper_r.now l.self.rhs.now l.ldiag (eliminated l.ds (edges_of r.n r.upper_r.now) r.rhs.now)
