use mathlib.Core.Path.{◌≡◌}
use Rattle.eliminate.specs.inner.Kept.{Kept}
use Rattle.eliminate.proofs.eliminate.Mirroring.{Mirroring}
use Rattle.eliminate.proofs.elimination.Elimination.mirror_column.Given as goal

abbrev pub invariant-loop-i : goal.invariant-loop-i
invariant-loop-i l = let r = l.initial.self in Kept r l.self × (l.self.rhs.now ≡ r.rhs.now) × Mirroring r.n l.k l.i r.upper_r.now l.self.upper_r.now
