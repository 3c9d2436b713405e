use mathlib.Core.Path.{◌≡◌}
use Rattle.leaves.specs.Loop.{upto, along}
use Rattle.reduce.specs.Reduction.{reduced, measured_at}
use Rattle.reduce.specs.inner.Going.{going, Same, Sees}
use Rattle.reduce.proofs.pivoted.PivotedQR.reduce.Given as goal

abbrev pub invariant-loop-j : goal.invariant-loop-j
invariant-loop-j l = record {
  same : Same l.initial.self l.self;
  after : going l.self ≡ upto (reduced l.initial.self.n) l.j (going l.initial.self);
  sees : Sees (along (measured_at l.initial.self.n) (reduced l.initial.self.n) l.j) l.initial.self l.self;
}
