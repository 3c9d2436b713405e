use mathlib.Core.List.{List}
use lib.Ieee.{Float}
use Rattle.factor.specs.declared.state.State.{State as Plain}
use Rattle.measures.specs.Measures as plain
use Rattle.calls.proofs.Ways.{told-read}
use Rattle.calls.proofs.lent.FrozenProblem.max_a_t_b_scaled.Goals as goal

pub returns : goal.returns
returns c =
    let g = c.args in
    told-read (λ (p : Plain) (s : List Float). plain.gradient_call p g.order.now g.bnorm s) _ c.reduced.ensures c.need-need.ensures.value c.narrow.ensures c.max_a_t_b_scaled.ensures
