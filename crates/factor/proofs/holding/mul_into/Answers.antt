use mathlib.Core.Path.{ap, ◌∙◌}
use mathlib.Core.List.{List}
use lib.Ieee.{Float}
use Rattle.leaves.specs.Tests.{all_finite}
use Rattle.factor.specs.Outcome.{written}
use Rattle.factor.proofs.holding.mul_into.Goals as goal

pub returns : goal.returns
returns c =
    let g = c.args in
    let e = c.mul_held.ensures in
    let f = c.write_finite.ensures in
    record { value = f.value ∙ ap all_finite e; out_after = λ h. f.out_after h ∙ ap (λ (x : List Float). written x g.out.now) e; out_unchanged = f.out_unchanged }
