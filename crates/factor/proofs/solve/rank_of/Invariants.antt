use Prim.Native.Nat.{◌+◌}
use mathlib.Core.Path.{◌≡◌}
use lib.ListN.{take, drop}
use Rattle.leaves.specs.Square.{uppers_of, diagonal}
use Rattle.factor.specs.Solve.{rank}
use Rattle.factor.proofs.solve.rank_of.Given as goal

abbrev pub invariant-loop-k : goal.invariant-loop-k
invariant-loop-k l = l.k + rank (drop l.k (take l.top (diagonal (uppers_of l.square.n l.square.cells.now)))) ≡ rank (take l.top (diagonal (uppers_of l.square.n l.square.cells.now)))
