use mathlib.Core.Path.{◌≡◌}
use lib.ListN.{take, drop}
use Rattle.factor.specs.Room.{load}
use Rattle.factor.specs.Solve.{gather}
use Rattle.measures.specs.Gradient.{combined}
use Rattle.measures.proofs.problem.LinearLeastSquaresDiagonalProblem.combine.Given as goal

abbrev pub invariant-loop-i : goal.invariant-loop-i
invariant-loop-i l = combined l.w (drop l.i (load l.self.n l.self.store.now).upper) (drop l.i (gather (take l.self.n l.self.permutation.now) l.x)) ≡ combined l.initial.w (load l.self.n l.self.store.now).upper (gather (take l.self.n l.self.permutation.now) l.x)
