use mathlib.Core.Path.{◌≡◌}
use Prim.Native.Nat.{suc}
use Rattle.leaves.specs.Loop.{between, along_between}
use Rattle.reduce.specs.Reduction.{later, measured_later}
use Rattle.reduce.specs.inner.Going.{going, Same, Sees}
use Rattle.reduce.proofs.pivoted.PivotedQR.later_columns.Given as goal

abbrev pub invariant-loop-k : goal.invariant-loop-k
invariant-loop-k l = record {
  same : Same l.initial.self l.self;
  after : going l.self ≡ between (later l.j l.axis) (suc l.j) l.k (going l.initial.self);
  sees : Sees (along_between (measured_later l.j l.axis) (later l.j l.axis) (suc l.j) l.k) l.initial.self l.self;
}
