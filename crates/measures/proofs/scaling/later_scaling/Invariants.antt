use mathlib.Core.Path.{◌≡◌}
use Rattle.leaves.proofs.Folds.{front}
use Rattle.measures.specs.Scaling.{later_scaling}
use Rattle.measures.proofs.scaling.later_scaling.Given as goal

abbrev pub invariant-loop-i : goal.invariant-loop-i
invariant-loop-i l = l.d ≡ front l.i (later_scaling l.norms l.initial.d) l.initial.d
