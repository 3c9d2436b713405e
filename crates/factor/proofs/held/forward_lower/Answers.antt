use mathlib.Core.Path.{refl, sym, ◌∙◌}
use native.Mathlib.Omega.{arith}
use Rattle.leaves.specs.Square.{belows_of}
use Rattle.leaves.proofs.Squares.{belows_of-length}
use Rattle.factor.proofs.held.Helds.{lower_turn, lower-end}
use Rattle.factor.proofs.held.forward_lower.Goals as goal

pub loop-j-preserved : goal.loop-j-preserved
loop-j-preserved c =
    let g = c.args in
    let l = c.loop-j in
    let ls = belows_of g.l.square.n g.l.square.cells.now in
    let z = belows_of-length g.l.square.n g.l.square.cells.now in
    lower_turn g.l.ldiag.now ls l.w _ _ l.j (omega arith) (omega arith) (omega arith) refl c.add_below.ensures ∙ l.invariant

pub returns : goal.returns
returns c =
    let g = c.args in
    let l = c.loop-j in
    let ls = belows_of g.l.square.n g.l.square.cells.now in
    let z = belows_of-length g.l.square.n g.l.square.cells.now in
    sym (lower-end g.l.ldiag.now ls l.w l.j (omega arith) (omega arith)) ∙ l.invariant
