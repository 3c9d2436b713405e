use mathlib.Core.Path.{◌≡◌}
use Rattle.leaves.specs.Square.{belows_of}
use Rattle.factor.proofs.Backs.{backed}
use Rattle.factor.proofs.solve.backward_from.Given as goal

abbrev pub invariant-loop-j : goal.invariant-loop-j
invariant-loop-j l = l.w ≡ backed l.l.ldiag.now (belows_of l.l.square.n l.l.square.cells.now) l.initial.w l.full l.j
