use mathlib.Core.Path.{◌≡◌}
use Rattle.leaves.specs.Square.{uppers_of}
use Rattle.factor.specs.Held.{mul_upper}
use Rattle.leaves.proofs.Folds.{front}
use Rattle.factor.proofs.held.mul_upper.Given as goal

abbrev pub invariant-loop-j : goal.invariant-loop-j
invariant-loop-j l = l.out ≡ front l.j (mul_upper l.q (uppers_of l.square.n l.square.cells.now)) l.initial.out
