use mathlib.Core.Path.{◌≡◌}
use lib.ListN.{drop}
use Rattle.calls.specs.Tests.{continues}
use Rattle.calls.proofs.check.goes_on.Given as goal

abbrev pub invariant-loop-k : goal.invariant-loop-k
invariant-loop-k l = continues l.k (drop l.k l.order) ≡ continues l.free (drop l.free l.order)
