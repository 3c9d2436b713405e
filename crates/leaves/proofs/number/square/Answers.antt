use mathlib.Core.Path.{refl}
use Rattle.leaves.specs.Number.{square_of}
use Rattle.leaves.proofs.number.square.Goals as goal

pub returns : goal.returns
unfolding square_of
returns c = refl
