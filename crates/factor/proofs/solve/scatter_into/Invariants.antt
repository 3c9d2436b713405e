use mathlib.Core.Path.{◌≡◌}
use lib.ListN.{take, drop}
use Rattle.factor.specs.Solve.{scatter}
use Rattle.factor.proofs.solve.scatter_into.Given as goal

abbrev pub invariant-loop-k : goal.invariant-loop-k
invariant-loop-k l = scatter (drop l.k (take l.order.n l.order.places.now)) (drop l.k l.w) l.out ≡ scatter (take l.order.n l.order.places.now) l.w l.initial.out
