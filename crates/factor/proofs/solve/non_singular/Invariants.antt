use mathlib.Core.Path.{◌≡◌}
use lib.ListN.{drop}
use Rattle.leaves.specs.Square.{uppers_of, diagonal}
use Rattle.factor.specs.Solve.{no_zero}
use Rattle.factor.proofs.solve.non_singular.Given as goal

abbrev pub invariant-loop-k : goal.invariant-loop-k
invariant-loop-k l = no_zero (drop l.k (diagonal (uppers_of l.square.n l.square.cells.now))) ≡ no_zero (diagonal (uppers_of l.square.n l.square.cells.now))
