use mathlib.Core.Path.{◌≡◌}
use mathlib.Core.List.{◌++◌}
use lib.ListN.{take, drop}
use Rattle.leaves.specs.Square.{belows_of}
use Rattle.factor.specs.Held.{forward_lower}
use Rattle.factor.proofs.held.forward_lower.Given as goal

abbrev pub invariant-loop-j : goal.invariant-loop-j
invariant-loop-j l = take l.j l.w ++ forward_lower (drop l.j l.l.ldiag.now) (drop l.j (belows_of l.l.square.n l.l.square.cells.now)) (drop l.j l.w) ≡ forward_lower l.l.ldiag.now (belows_of l.l.square.n l.l.square.cells.now) l.initial.w
