use mathlib.Core.List.{List}
use lib.Ieee.{Float}
use Rattle.factor.specs.declared.state.State.{State as Plain}
use Rattle.measures.specs.Measures as plain
use Rattle.calls.proofs.Ways.{told-read}
use Rattle.calls.proofs.lent.FrozenProblem.a_x_norm.Goals as goal

pub returns : goal.returns
returns c =
    let g = c.args in
    told-read (λ (p : Plain) (s : List Float). plain.jx_call p g.order.now g.xs.now s) _ c.reduced.ensures c.need-need.ensures.value c.narrow.ensures c.a_x_norm.ensures
