use mathlib.Core.Path.{◌≡◌}
use lib.ListN.{drop}
use Rattle.leaves.specs.Vector.{dot_from, dot_of}
use Rattle.leaves.proofs.vector.dot.Given as goal

abbrev pub invariant-loop-i : goal.invariant-loop-i
invariant-loop-i l = dot_from l.s (drop l.i l.a) (drop l.i l.b) ≡ dot_of l.a l.b
