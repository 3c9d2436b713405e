use mathlib.Core.Path.{ap, ◌∙◌}
use lib.Ieee.{of_bits}
use Rattle.leaves.specs.Square.{belows_of, zeros}
use Rattle.factor.specs.Held.{mul_lower}
use Rattle.factor.proofs.held.mul_lower.Goals as goal

pub returns : goal.returns
unfolding of_bits
returns c =
    let g = c.args in
    c.mul_onto.ensures ∙ ap (mul_lower g.q.now g.l.ldiag.now (belows_of g.l.square.n g.l.square.cells.now)) (c.fill.ensures ∙ ap zeros c.requires.out_len)
