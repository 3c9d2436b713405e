use mathlib.Core.Path.{ap, ◌∙◌}
use mathlib.Core.List.{List, []}
use lib.Ieee.{Float}
use Rattle.factor.specs.Held.{forward_upper, held_solved}
use Rattle.factor.proofs.holding.solve_zero.Goals as goal

pub returns : goal.returns
unfolding held_solved
returns c = c.forward_upper.ensures ∙ ap (λ (u : List (List Float)). forward_upper [] u c.args.w.now) c.square_of.ensures.upper
