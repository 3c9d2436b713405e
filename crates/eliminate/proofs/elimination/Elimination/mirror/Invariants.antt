use mathlib.Core.Path.{◌≡◌}
use Rattle.eliminate.specs.inner.Kept.{Kept}
use Rattle.eliminate.proofs.eliminate.Mirroring.{MirroringAll}
use Rattle.eliminate.proofs.elimination.Elimination.mirror.Given as goal

abbrev pub invariant-loop-k : goal.invariant-loop-k
invariant-loop-k l = let r = l.initial.self in Kept r l.self × (l.self.rhs.now ≡ r.rhs.now) × MirroringAll r.n l.k r.upper_r.now l.self.upper_r.now
