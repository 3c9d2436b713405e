use mathlib.Core.Path.{◌≡◌}
use Rattle.leaves.specs.Square.{uppers_of, belows_of}
use Rattle.factor.proofs.Lent.{cleared_to}
use Rattle.leaves.specs.inner.Squares.{Square}
use Rattle.factor.proofs.room.clear_below.Given as goal

abbrev pub invariant-loop-k : goal.invariant-loop-k
invariant-loop-k l = Square l.n l.square × (uppers_of l.n l.square ≡ uppers_of l.n l.initial.square) × (belows_of l.n l.square ≡ cleared_to l.k (belows_of l.n l.initial.square))
