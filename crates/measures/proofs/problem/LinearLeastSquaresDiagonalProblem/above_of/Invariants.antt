use mathlib.Core.Path.{◌≡◌}
use lib.ListN.{take, drop}
use Rattle.factor.specs.Room.{load}
use Rattle.factor.specs.Solve.{gather}
use Rattle.measures.specs.Gradient.{measures, above}
use Rattle.measures.proofs.problem.LinearLeastSquaresDiagonalProblem.above_of.Given as goal

abbrev pub invariant-loop-j : goal.invariant-loop-j
invariant-loop-j l = above l.limit (measures l.b (drop l.j (load l.self.n l.self.store.now).upper) (drop l.j (gather (take l.self.n l.self.permutation.now) l.norms))) ≡ above l.limit (measures l.b (load l.self.n l.self.store.now).upper (gather (take l.self.n l.self.permutation.now) l.norms))
