use mathlib.Core.Path.{◌≡◌}
use lib.ListN.{length}
use Rattle.leaves.specs.Loop.{count_from}
use Rattle.leaves.proofs.Overs.{over}
use Rattle.leaves.proofs.vector.count.Given as goal

abbrev pub invariant-loop-k : goal.invariant-loop-k
invariant-loop-k l = l.dst ≡ over l.k (count_from (length l.initial.dst) 0) l.initial.dst
