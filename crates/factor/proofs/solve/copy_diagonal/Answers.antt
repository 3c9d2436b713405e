use mathlib.Core.Path.{◌≡◌, ◌∙◌}
use native.Mathlib.Omega.{arith}
use lib.ListN.{length}
use lib.Ieee.{nan}
use Rattle.leaves.specs.Square.{uppers_of, diagonal}
use Rattle.leaves.proofs.Squares.{diagonal-length, uppers_of-length}
use Rattle.leaves.proofs.Overs.{over_turn, over_end}
use Rattle.factor.proofs.solve.copy_diagonal.Goals as goal

pub loop-k-preserved : goal.loop-k-preserved
loop-k-preserved c =
    let l = c.loop-k in
    let g = c.args in
    let ds = diagonal (uppers_of g.square.n g.square.cells.now) in
    let e : length ds ≡ g.square.n = diagonal-length 0 (uppers_of g.square.n g.square.cells.now) ∙ uppers_of-length g.square.n g.square.cells.now in
    over_turn nan ds g.w.now l.w _ l.k (omega arith) (omega arith) c.diagonal_at.ensures l.invariant

pub returns : goal.returns
returns c =
    let l = c.loop-k in
    let g = c.args in
    let ds = diagonal (uppers_of g.square.n g.square.cells.now) in
    let e : length ds ≡ g.square.n = diagonal-length 0 (uppers_of g.square.n g.square.cells.now) ∙ uppers_of-length g.square.n g.square.cells.now in
    l.invariant ∙ over_end ds g.w.now l.k (omega arith) (omega arith)
