use mathlib.Core.Path.{ap, ◌∙◌}
use mathlib.Core.List.{List}
use lib.Ieee.{Float}
use Rattle.leaves.specs.Tests.{all_finite}
use Rattle.factor.specs.Outcome.{written}
use Rattle.factor.specs.Room.{load}
use Rattle.factor.specs.Held.{held_solved}
use Rattle.factor.specs.inner.Rooms.{held_as}
use Rattle.factor.proofs.holding.solve_into.Goals as goal

pub returns : goal.returns
returns c =
    let g = c.args in
    let t = g.factor.store in
    let e = c.solve_held.ensures ∙ ap (λ (x : List Float). held_solved (held_as g.factor.lower) x (load t.n t.cells.now)) c.gather_into.ensures in
    let f = c.write_finite.ensures in
    record { value = f.value ∙ ap all_finite e; out_after = λ h. f.out_after h ∙ ap (λ (x : List Float). written x g.out.now) e; out_unchanged = f.out_unchanged }
