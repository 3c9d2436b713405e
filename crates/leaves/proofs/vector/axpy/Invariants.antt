use mathlib.Core.Path.{◌≡◌}
use lib.ListN.{take}
use Rattle.leaves.specs.Vector.{axpy_all}
use Rattle.leaves.proofs.vector.axpy.Given as goal

abbrev pub invariant-loop-i : goal.invariant-loop-i
invariant-loop-i l = l.y ≡ axpy_all l.a (take l.i l.x) l.initial.y
