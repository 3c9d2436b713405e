use Prim.Native.Nat.{◌<◌}
use mathlib.Core.Path.{◌≡◌}
use lib.ListN.{get_or, drop}
use lib.Ieee.{nan}
use Rattle.leaves.specs.Vector.{imax_from}
use Rattle.leaves.proofs.vector.imax.Given as goal

abbrev pub invariant-loop-i : goal.invariant-loop-i
invariant-loop-i l = (l.b < l.i) × (imax_from l.b (get_or l.v l.b nan) l.i (drop l.i l.v) ≡ imax_from 0 (get_or l.v 0 nan) 1 (drop 1 l.v))
