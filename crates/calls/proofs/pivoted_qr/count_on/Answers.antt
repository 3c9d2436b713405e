use Prim.Native.Nat.{◌-◌}
use mathlib.Core.Path.{sym, ◌∙◌}
use mathlib.Core.List.{◌++◌}
use native.Mathlib.Omega.{arith}
use lib.ListN.{length, take}
use Rattle.leaves.specs.Loop.{count_from}
use Rattle.leaves.proofs.Overs.{over_turn, over_end}
use Rattle.calls.proofs.Leavings.{counted_long, counted_at, counted_start}
use Rattle.calls.proofs.pivoted_qr.count_on.Goals as goal

pub loop-k-init : goal.loop-k-init
loop-k-init c = let g = c.args in counted_start g.free g.order.now c.requires

pub loop-k-preserved : goal.loop-k-preserved
loop-k-preserved c =
    let l = c.loop-k in
    let g = c.args in
    let t = c.loop-k-test.true in
    let n = counted_long g.free g.order.now c.requires in
    over_turn 0 (take g.free g.order.now ++ count_from (length g.order.now - g.free) g.free) g.order.now l.order l.k l.k (omega arith) n (sym (counted_at g.free g.order.now c.requires l.k (omega arith) (omega arith))) l.invariant

pub returns : goal.returns
returns c =
    let l = c.loop-k in
    let g = c.args in
    let e = c.loop-k-test.false in
    let n = counted_long g.free g.order.now c.requires in
    l.invariant ∙ over_end (take g.free g.order.now ++ count_from (length g.order.now - g.free) g.free) g.order.now l.k (omega arith) (omega arith)
