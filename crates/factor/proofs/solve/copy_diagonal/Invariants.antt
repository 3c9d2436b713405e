use mathlib.Core.Path.{◌≡◌}
use Rattle.leaves.specs.Square.{uppers_of, diagonal}
use Rattle.leaves.proofs.Overs.{over}
use Rattle.factor.proofs.solve.copy_diagonal.Given as goal

abbrev pub invariant-loop-k : goal.invariant-loop-k
invariant-loop-k l = l.w ≡ over l.k (diagonal (uppers_of l.square.n l.square.cells.now)) l.initial.w
