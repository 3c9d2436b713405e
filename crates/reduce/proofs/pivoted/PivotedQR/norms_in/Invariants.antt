use mathlib.Core.Path.{◌≡◌}
use mathlib.Core.List.{map}
use lib.ListN.{take}
use Rattle.leaves.specs.Norm.{norm, ranges_of}
use Rattle.reduce.specs.inner.Going.{grid_of, going}
use Rattle.leaves.proofs.Overs.{over}
use Rattle.reduce.proofs.pivoted.PivotedQR.norms_in.Given as goal

abbrev pub invariant-loop-k : goal.invariant-loop-k
invariant-loop-k l = (l.norms ≡ over l.k (map norm (going l.self).cols) l.initial.norms) × (l.seen ≡ ranges_of (take l.k (grid_of l.self)))
