use mathlib.Core.Path.{◌≡◌}
use lib.ListN.{take}
use Rattle.leaves.specs.Square.{uppers_of, belows_of}
use Rattle.leaves.specs.inner.Squares.{Square}
use Rattle.calls.specs.Outcome.{widened}
use Rattle.calls.proofs.widen.widen_columns.Given as goal

abbrev pub invariant-loop-k : goal.invariant-loop-k
invariant-loop-k l = (Square l.n l.square) × (uppers_of l.n l.square ≡ uppers_of l.n l.initial.square) × (belows_of l.n l.square ≡ widened l.n (take l.k (belows_of l.part.n l.part.cells.now)))
