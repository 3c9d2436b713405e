use mathlib.Core.Path.{◌≡◌}
use lib.ListN.{take, drop}
use Rattle.leaves.specs.Number.{plus_zero}
use Rattle.factor.specs.Room.{load}
use Rattle.factor.specs.Solve.{gather}
use Rattle.measures.specs.Gradient.{measures, largest}
use Rattle.measures.proofs.problem.LinearLeastSquaresDiagonalProblem.measure_of.Given as goal

abbrev pub invariant-loop-j : goal.invariant-loop-j
invariant-loop-j l = largest l.top (measures l.b (drop l.j (load l.self.n l.self.store.now).upper) (drop l.j (gather (take l.self.n l.self.permutation.now) l.norms))) ≡ largest plus_zero (measures l.b (load l.self.n l.self.store.now).upper (gather (take l.self.n l.self.permutation.now) l.norms))
