use mathlib.Core.Path.{refl}
use Rattle.search.specs.Problem.{newton}
use Rattle.search.proofs.bounds.newton_of.Goals as goal

pub returns : goal.returns
unfolding newton
returns c = refl
