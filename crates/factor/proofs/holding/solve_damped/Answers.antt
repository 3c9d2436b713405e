use mathlib.Core.Path.{◌∙◌}
use Rattle.factor.specs.Held.{held_solved}
use Rattle.factor.proofs.holding.solve_damped.Goals as goal

pub returns : goal.returns
unfolding held_solved
returns c =
    let l = c.lower_of.ensures in
    c.forward_lower.ensures ∙ rw (l.ldiag, l.below)
