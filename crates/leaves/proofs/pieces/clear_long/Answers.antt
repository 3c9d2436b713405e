use Prim.Native.Nat.{◌+◌}
use mathlib.Core.Path.{◌≡◌}
use native.Mathlib.Omega.{arith}
use Rattle.leaves.specs.Number.{plus_zero}
use Rattle.leaves.proofs.pieces.Piecewise.{same_turn, same_done}
use Rattle.leaves.proofs.pieces.clear_long.Goals as goal

pub loop-a-preserved : goal.loop-a-preserved
loop-a-preserved c =
    let l = c.loop-a in
    let k : c.least.result ≡ 128 = omega arith in
    (omega arith, same_turn l.a 128 plus_zero c.args.dst.now l.invariant.1 (rw k at c.clear_piece.ensures))

pub returns-2 : goal.returns-2
returns-2 c =
    let l = c.loop-a in
    let k = c.least.result in
    same_done (l.a + k) plus_zero c.args.dst.now (omega arith) (same_turn l.a k plus_zero c.args.dst.now l.invariant.1 c.clear_piece.ensures)
