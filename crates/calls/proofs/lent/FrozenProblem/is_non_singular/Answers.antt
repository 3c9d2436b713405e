use mathlib.Core.List.{List}
use lib.Ieee.{Float}
use Rattle.factor.specs.declared.state.State.{State as Plain}
use Rattle.measures.specs.Measures as plain
use Rattle.calls.proofs.Ways.{told-read}
use Rattle.calls.proofs.lent.FrozenProblem.is_non_singular.Goals as goal

pub returns : goal.returns
returns c =
    let g = c.args in
    told-read (λ (p : Plain) (s : List Float). plain.non_singular_call p s) _ c.reduced.ensures c.need-need.ensures.value c.narrow.ensures c.is_non_singular.ensures
