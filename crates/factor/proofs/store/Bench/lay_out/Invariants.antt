use Prim.Native.Nat.{◌*◌}
use mathlib.Core.Path.{◌≡◌}
use lib.ListN.{take}
use Rattle.leaves.specs.Square.{joined}
use Rattle.factor.specs.Factoring.{uppers, no_lower}
use Rattle.reduce.specs.inner.Bench.{grid}
use Rattle.leaves.proofs.Overs.{over}
use Rattle.factor.proofs.store.Bench.lay_out.Given as goal

abbrev pub invariant-loop-k : goal.invariant-loop-k
invariant-loop-k l = l.square ≡ over (l.k * l.self.n) (joined (uppers l.self.m 0 (take l.self.n (grid l.self.m l.self.n l.self.cells.now)) l.diag) (no_lower l.self.n)) l.initial.square
