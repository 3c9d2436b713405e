use lib.ListN.{take}
use Rattle.leaves.specs.Number.{plus_zero}
use Rattle.eliminate.specs.inner.Edges.{ahead, Ahead}
use Rattle.eliminate.specs.inner.Kept.{Kept}
use Rattle.eliminate.proofs.elimination.Elimination.rotate_row.Given as goal

abbrev pub invariant-loop-k : goal.invariant-loop-k
invariant-loop-k l = let r = l.initial.self in Kept r l.self × Ahead r.n r.upper_r.now l.self.upper_r.now (ahead r.n l.j r.upper_r.now r.rhs.now (take r.n l.initial.l) plus_zero) (ahead r.n l.k l.self.upper_r.now l.self.rhs.now (take r.n l.l) l.q)
