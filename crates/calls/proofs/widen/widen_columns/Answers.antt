use mathlib.Core.Path.{refl, ◌∙◌}
use native.Mathlib.Omega.{arith}
use Rattle.leaves.specs.Square.{belows_of}
use Rattle.leaves.proofs.Squares.{belows_of-length}
use Rattle.calls.proofs.Widens.{widened_turn, widened-end}
use Rattle.calls.proofs.widen.widen_columns.Goals as goal

pub loop-k-init : goal.loop-k-init
loop-k-init c = (c.requires.square, refl, c.requires.part_le_n.1)

pub loop-k-preserved : goal.loop-k-preserved
loop-k-preserved c =
    let g = c.args in
    let q = c.requires in
    let l = c.loop-k in
    let x = c.widen_column in
    let w = belows_of-length g.part.n g.part.cells.now in (
      record { small = q.square.small; whole = x.auto.square ∙ l.invariant.0.whole },
      x.ensures.square_unchanged ∙ l.invariant.1,
      widened_turn g.n l.k (belows_of g.part.n g.part.cells.now) (omega arith) (omega arith) l.invariant.2 x.ensures.square_after,
    )

pub returns : goal.returns
returns c =
    let g = c.args in
    let l = c.loop-k in
    let w = belows_of-length g.part.n g.part.cells.now in
    record { square_unchanged = l.invariant.1; square_after = l.invariant.2 ∙ widened-end g.n l.k (belows_of g.part.n g.part.cells.now) (omega (arith, c.loop-k-test.false)) }
