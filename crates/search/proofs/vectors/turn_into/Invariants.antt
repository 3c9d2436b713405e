use mathlib.Core.Path.{◌≡◌}
use lib.ListN.{take}
use Rattle.leaves.proofs.Folds.{front}
use Rattle.factor.specs.Solve.{gather}
use Rattle.search.specs.inner.Read.{turned_by}
use Rattle.search.proofs.vectors.turn_into.Given as goal

abbrev pub invariant-loop-k : goal.invariant-loop-k
invariant-loop-k l = l.w ≡ front l.k (gather (take l.order.n l.order.places.now) (turned_by l.norm l.v l.diag)) l.initial.w
