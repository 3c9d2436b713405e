use mathlib.Core.Path.{◌≡◌}
use Rattle.leaves.proofs.Folds.{front}
use Rattle.reduce.specs.inner.Bench.{divided}
use Rattle.reduce.proofs.reflect.divide.Given as goal

abbrev pub invariant-loop-i : goal.invariant-loop-i
invariant-loop-i l = l.axis ≡ front l.i (divided l.t l.col) l.initial.axis
