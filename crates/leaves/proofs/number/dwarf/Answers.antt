use mathlib.Core.Path.{refl}
use lib.Ieee.{of_bits}
use Rattle.leaves.specs.Number.{dwarf}
use Rattle.leaves.proofs.number.dwarf.Goals as goal

pub returns : goal.returns
unfolding of_bits dwarf
returns c = refl
