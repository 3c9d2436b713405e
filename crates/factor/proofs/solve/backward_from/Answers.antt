use Prim.Native.Nat.{◌-◌}
use mathlib.Core.Path.{◌≡◌}
use native.Mathlib.Omega.{arith}
use lib.ListN.{length}
use Rattle.leaves.specs.Square.{belows_of}
use Rattle.leaves.proofs.Squares.{belows_of-length}
use Rattle.factor.proofs.Backs.{back_none, back_turn}
use Rattle.factor.proofs.solve.backward_from.Goals as goal

pub loop-j-init : goal.loop-j-init
loop-j-init c =
    let g = c.args in
    let z = belows_of-length g.l.square.n g.l.square.cells.now in
    back_none g.l.ldiag.now (belows_of g.l.square.n g.l.square.cells.now) g.w.now g.full (omega arith) (omega arith) (omega arith)

pub loop-j-preserved : goal.loop-j-preserved
loop-j-preserved c =
    let g = c.args in
    let l = c.loop-j in
    let ls = belows_of g.l.square.n g.l.square.cells.now in
    let z : length ls ≡ g.l.square.n = belows_of-length g.l.square.n g.l.square.cells.now in
    back_turn g.l.ldiag.now ls g.w.now g.full (omega arith) (omega arith) (omega arith) l.w _ l.j (l.j - 1) (omega arith) (omega arith) l.invariant c.backward_place.ensures
