use mathlib.Core.Path.{◌≡◌}
use native.Mathlib.Omega.{arith}
use Rattle.leaves.proofs.pieces.Piecewise.{piece_turn}
use Rattle.leaves.proofs.pieces.copy_pieces.Goals as goal

pub loop-a-preserved : goal.loop-a-preserved
loop-a-preserved c =
    let g = c.args in
    let l = c.loop-a in
    let k : c.least.result ≡ 128 = omega arith in
    piece_turn l.a 128 g.src.now g.dst.now (omega arith) l.invariant (rw k at c.copy_piece.ensures)
