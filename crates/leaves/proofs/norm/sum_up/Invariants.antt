use mathlib.Core.Path.{◌≡◌}
use lib.ListN.{drop}
use Rattle.leaves.specs.Norm.{accumulate, none}
use Rattle.leaves.proofs.norm.sum_up.Given as goal

abbrev pub invariant-loop-x : goal.invariant-loop-x
invariant-loop-x l = accumulate l.agiant l.t (drop l.x-index l.v) ≡ accumulate l.agiant none l.v
