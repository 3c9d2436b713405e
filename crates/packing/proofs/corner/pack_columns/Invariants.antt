use Prim.Native.Nat.{◌-◌, ◌*◌}
use mathlib.Core.Path.{◌≡◌}
use mathlib.Core.List.{◌++◌}
use lib.ListN.{take, drop}
use Rattle.leaves.specs.Square.{uppers_from, uppers_of}
use Rattle.leaves.specs.Triangle.{columns}
use Rattle.reduce.specs.Reduced.{flat}
use Rattle.packing.proofs.Corners.{triangle}
use Rattle.packing.proofs.corner.pack_columns.Given as goal

abbrev pub invariant-loop-k : goal.invariant-loop-k
invariant-loop-k l = (l.a ≡ l.k * l.n) × (l.b ≡ triangle l.k) × (take l.b l.corner ++ flat (uppers_from l.k (columns l.n (l.n - l.k) (drop l.a l.square))) ≡ flat (uppers_of l.n l.square))
