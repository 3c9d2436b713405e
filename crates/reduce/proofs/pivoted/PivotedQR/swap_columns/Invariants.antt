use mathlib.Core.Path.{◌≡◌}
use Rattle.reduce.specs.inner.Bench.{grid}
use Rattle.reduce.proofs.Pivots.{fronts}
use Rattle.reduce.proofs.pivoted.PivotedQR.swap_columns.Given as goal

abbrev pub invariant-loop-i : goal.invariant-loop-i
invariant-loop-i l = grid l.m l.fn.self.n l.bench ≡ fronts l.j l.k l.i (grid l.m l.fn.self.n l.initial.bench)
