use Prim.Native.Nat.{◌-◌, ◌*◌}
use mathlib.Core.Path.{◌≡◌}
use mathlib.Core.List.{◌++◌}
use lib.ListN.{take, drop}
use Rattle.leaves.specs.Square.{joined}
use Rattle.factor.specs.Factoring.{no_lower}
use Rattle.packing.specs.Packing.{triangle_from}
use Rattle.packing.proofs.Corners.{triangle}
use Rattle.packing.proofs.corner.unpack_columns.Given as goal

abbrev pub invariant-loop-k : goal.invariant-loop-k
invariant-loop-k l =
    (l.a ≡ l.k * l.n) × (l.b ≡ triangle l.k)
    × (take l.a l.square ++ joined (triangle_from l.k (l.n - l.k) (drop l.b l.corner)) (no_lower (l.n - l.k)) ≡ joined (triangle_from 0 l.n l.corner) (no_lower l.n))
