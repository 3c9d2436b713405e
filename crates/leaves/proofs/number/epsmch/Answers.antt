use mathlib.Core.Path.{refl}
use lib.Ieee.{of_bits}
use Rattle.leaves.specs.Number.{epsmch}
use Rattle.leaves.proofs.number.epsmch.Goals as goal

pub returns : goal.returns
unfolding of_bits epsmch
returns c = refl
