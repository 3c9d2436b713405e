use mathlib.Core.Path.{◌≡◌}
use lib.ListN.{take}
use Rattle.leaves.specs.Vector.{scale_all}
use Rattle.leaves.proofs.Folds.{front}
use Rattle.factor.specs.Solve.{gather}
use Rattle.search.proofs.vectors.scale_by.Given as goal

abbrev pub invariant-loop-k : goal.invariant-loop-k
invariant-loop-k l = l.w ≡ front l.k (gather (take l.order.n l.order.places.now) (scale_all l.a l.x)) l.initial.w
