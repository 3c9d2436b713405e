use mathlib.Core.Path.{sym, ◌∙◌}
use native.Mathlib.Omega.{arith}
use Rattle.leaves.specs.Square.{uppers_of}
use Rattle.leaves.proofs.Squares.{uppers_of-length}
use Rattle.factor.proofs.held.Helds.{forward_turn, forward-end}
use Rattle.factor.proofs.held.forward_upper.Goals as goal

pub loop-j-preserved : goal.loop-j-preserved
loop-j-preserved c =
    let g = c.args in
    let l = c.loop-j in
    let us = uppers_of g.square.n g.square.cells.now in
    let z = uppers_of-length g.square.n g.square.cells.now in
    rw c.forward_place.ensures (forward_turn us l.w l.j (omega arith) (omega arith) ∙ l.invariant)

pub returns : goal.returns
returns c =
    let g = c.args in
    let l = c.loop-j in
    let us = uppers_of g.square.n g.square.cells.now in
    let z = uppers_of-length g.square.n g.square.cells.now in
    sym (forward-end us l.w l.j (omega arith) (omega arith)) ∙ l.invariant
