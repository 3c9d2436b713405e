use mathlib.Core.Path.{sym, ◌∙◌}
use native.Mathlib.Omega.{arith}
use Rattle.leaves.specs.Square.{belows_of}
use Rattle.leaves.proofs.Squares.{belows_of-length}
use Rattle.factor.proofs.held.Helds.{mul_turn, mul-end}
use Rattle.factor.proofs.held.mul_onto.Goals as goal

pub loop-j-preserved : goal.loop-j-preserved
loop-j-preserved c =
    let g = c.args in
    let l = c.loop-j in
    let ls = belows_of g.l.square.n g.l.square.cells.now in
    let z = belows_of-length g.l.square.n g.l.square.cells.now in
    mul_turn g.q.now g.l.ldiag.now ls l.out _ l.j (omega arith) (omega arith) (omega arith) (omega arith) c.add_below.ensures ∙ l.invariant

pub returns : goal.returns
returns c =
    let g = c.args in
    let l = c.loop-j in
    let ls = belows_of g.l.square.n g.l.square.cells.now in
    sym (mul-end g.q.now g.l.ldiag.now ls l.out l.j (omega arith)) ∙ l.invariant
