use mathlib.Core.Path.{◌≡◌}
use mathlib.Core.List.{[]}
use lib.ListN.{take, drop}
use Rattle.leaves.specs.Square.{uppers_of}
use Rattle.factor.specs.Held.{forward_upper}
use Rattle.factor.proofs.held.forward_upper.Given as goal

abbrev pub invariant-loop-j : goal.invariant-loop-j
invariant-loop-j l = forward_upper (take l.j l.w) (drop l.j (uppers_of l.square.n l.square.cells.now)) (drop l.j l.w) ≡ forward_upper [] (uppers_of l.square.n l.square.cells.now) l.initial.w
