use mathlib.Core.Path.{◌≡◌}
use lib.ListN.{length, take, drop}
use Rattle.factor.specs.Tests.{distinct_below}
use Rattle.factor.proofs.check.Entries.{to_meet}
use Rattle.factor.proofs.check.is_permutation.Given as goal

abbrev pub invariant-loop-o : goal.invariant-loop-o
invariant-loop-o l = (length l.met ≡ 16) × (to_meet l.n (drop l.o-index l.o-items) l.met ≡ distinct_below l.n (take l.n l.order))
