use mathlib.Core.Path.{◌≡◌}
use Rattle.leaves.specs.Vector.{scale_all}
use Rattle.leaves.proofs.Folds.{front}
use Rattle.leaves.proofs.vector.axpy_zero.Given as goal

abbrev pub invariant-loop-i : goal.invariant-loop-i
invariant-loop-i l = l.y ≡ front l.i (scale_all l.a l.x) l.initial.y
