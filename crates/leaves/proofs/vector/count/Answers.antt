use Prim.Native.Nat.{◌+◌}
use mathlib.Core.Path.{◌≡◌, sym, ◌∙◌}
use native.Mathlib.Omega.{arith}
use lib.ListN.{length}
use Rattle.leaves.specs.Loop.{count_from}
use Rattle.leaves.proofs.Overs.{over_turn, over_end, count-length, count_at}
use Rattle.leaves.proofs.vector.count.Goals as goal

pub loop-k-preserved : goal.loop-k-preserved
loop-k-preserved c =
    let l = c.loop-k in
    let g = c.args in
    let n = length g.dst.now in
    let s = count-length n 0 in
    let v : l.k ≡ 0 + l.k = omega arith in
    over_turn 0 (count_from n 0) g.dst.now l.dst l.k l.k (omega arith) s (v ∙ sym (count_at n 0 l.k (omega arith))) l.invariant

pub returns : goal.returns
returns c =
    let l = c.loop-k in
    let g = c.args in
    let n = length g.dst.now in
    let s = count-length n 0 in
    l.invariant ∙ over_end (count_from n 0) g.dst.now l.k (omega arith) (omega arith)
