use Rattle.leaves.proofs.root.Raising.{Raised}
use Rattle.leaves.proofs.root.raise.Given as goal

abbrev pub invariant-loop-m : goal.invariant-loop-m
invariant-loop-m l = Raised l.t l.m l.z

abbrev pub decreases-loop-m : goal.decreases-loop-m
decreases-loop-m l = l.z
