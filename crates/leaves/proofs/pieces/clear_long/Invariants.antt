use Prim.Native.Nat.{◌≤◌}
use mathlib.Core.Path.{◌≡◌}
use mathlib.Core.List.{◌++◌}
use lib.ListN.{drop}
use Rattle.leaves.specs.Square.{zeros}
use Rattle.leaves.proofs.pieces.clear_long.Given as goal

abbrev pub invariant-loop-a : goal.invariant-loop-a
invariant-loop-a l = (l.a ≤ l.len) × (l.dst ≡ zeros l.a ++ drop l.a l.initial.dst)
