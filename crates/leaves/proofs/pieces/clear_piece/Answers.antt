use mathlib.Core.Path.{ap, ◌∙◌}
use mathlib.Core.List.{List}
use lib.Ieee.{Float, of_bits}
use Rattle.leaves.proofs.Splices.{splice, lent, filled}
use Rattle.leaves.specs.Number.{plus_zero}
use Rattle.leaves.proofs.pieces.clear_piece.Goals as goal

pub returns : goal.returns
unfolding of_bits
returns c =
    let g = c.args in
    let s = g.dst.now in
    lent g.a g.e c.fill.new.dst s c.requires.0 ∙ ap (λ (l : List Float). splice g.a g.e l s) (filled g.a g.e c.fill.new.dst s plus_zero c.requires.1 c.fill.ensures)
