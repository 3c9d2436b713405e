use mathlib.Core.Path.{ap, ◌∙◌}
use mathlib.Core.List.{List}
use lib.ListN.{take}
use lib.Ieee.{Float, of_bits}
use Rattle.leaves.specs.Number.{plus_zero}
use Rattle.leaves.specs.Square.{zeros}
use Rattle.calls.proofs.Ways.{free_fits, fresh_taken}
use Rattle.calls.proofs.lent.FrozenProblem.fresh.Goals as goal

pub returns : goal.returns
unfolding of_bits
returns c =
    let p = c.args.self.now in
    ap (λ (l : List Float). take p.free l) c.filled.ensures ∙ fresh_taken p.free 16 plus_zero (free_fits p.reducible) ∙ ap zeros p.reducible.counted
