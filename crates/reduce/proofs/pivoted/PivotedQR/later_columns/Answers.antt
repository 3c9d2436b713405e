use Prim.Native.Nat.{suc}
use native.Mathlib.Omega.{arith}
use native.Mathlib.Numerals.{add-one}
use Rattle.reduce.specs.Reduction.{later, measured_later}
use Rattle.leaves.proofs.Loops.{between_none, between_turn}
use Rattle.leaves.proofs.Seen.{along_between_none, along_between_turn}
use Rattle.reduce.proofs.Going.{same-none, same-then}
use Rattle.reduce.proofs.pivoted.PivotedQR.later_columns.Goals as goal

pub loop-k-init : goal.loop-k-init
loop-k-init c =
    let g = c.args in
    let f = later g.j g.axis.now in
    record {
      same = same-none _;
      after = rw add-one (between_none f (suc g.j) _);
      sees = rw add-one (along_between_none (measured_later g.j g.axis.now) f g.self.now.seen _ (suc g.j));
    }

pub loop-k-preserved : goal.loop-k-preserved
loop-k-preserved c =
    let l = c.loop-k in
    let i = l.invariant in
    let g = c.args in
    let f = later g.j g.axis.now in
    let x = c.later_column.ensures in
    record {
      same = same-then i.same x.same;
      after = between_turn f (suc g.j) l.k _ (omega arith) i.after x.after;
      sees = along_between_turn (measured_later g.j g.axis.now) f g.self.now.seen _ (suc g.j) l.k (omega arith) i.sees i.after x.sees;
    }
