use mathlib.Core.Path.{◌≡◌}
use mathlib.Core.Bool.{◌&&◌, not}
use lib.ListN.{drop}
use Rattle.leaves.specs.Tests.{none_zero}
use Rattle.leaves.proofs.vector.none_zero.Given as goal

abbrev pub invariant-loop-x : goal.invariant-loop-x
invariant-loop-x l = (not l.zero && none_zero (drop l.x-index l.v)) ≡ none_zero l.v
