use mathlib.Core.Path.{◌≡◌}
use lib.ListN.{take}
use Rattle.leaves.proofs.Folds.{front}
use Rattle.factor.specs.Solve.{gather}
use Rattle.search.specs.Bounds.{quotients}
use Rattle.search.proofs.vectors.divide_by.Given as goal

abbrev pub invariant-loop-i : goal.invariant-loop-i
invariant-loop-i l = l.w ≡ front l.i (quotients l.initial.w (gather (take l.order.n l.order.places.now) l.diag)) l.initial.w
