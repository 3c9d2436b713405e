use Prim.Native.Nat.{◌-◌}
use mathlib.Core.Path.{◌≡◌}
use mathlib.Core.List.{◌++◌}
use lib.ListN.{length, take}
use Rattle.leaves.specs.Loop.{count_from}
use Rattle.leaves.proofs.Overs.{over}
use Rattle.calls.proofs.pivoted_qr.count_on.Given as goal

abbrev pub invariant-loop-k : goal.invariant-loop-k
invariant-loop-k l = l.order ≡ over l.k (take l.free l.initial.order ++ count_from (length l.initial.order - l.free) l.free) l.initial.order
