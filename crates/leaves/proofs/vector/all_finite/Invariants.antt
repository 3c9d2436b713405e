use mathlib.Core.Path.{◌≡◌}
use mathlib.Core.Bool.{◌&&◌, not}
use lib.ListN.{drop}
use Rattle.leaves.specs.Tests.{all_finite}
use Rattle.leaves.proofs.vector.all_finite.Given as goal

abbrev pub invariant-loop-x : goal.invariant-loop-x
invariant-loop-x l = (not l.bad && all_finite (drop l.x-index l.v)) ≡ all_finite l.v
