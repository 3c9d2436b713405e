use mathlib.Core.Path.{sym, ap, ◌∙◌}
use native.Mathlib.Omega.{arith}
use mathlib.Core.List.{[]}
use lib.ListN.{get_or}
use Rattle.leaves.specs.Norm.{either, ranges}
use Rattle.reduce.specs.Reduction.{Reduction}
use Rattle.reduce.specs.inner.Going.{going}
use Rattle.reduce.proofs.Begins.{bench-wide}
use Rattle.reduce.proofs.Pivots.{first_seen}
use Rattle.reduce.proofs.pivoted.PivotedQR.pivot_norm.Goals as goal

pub returns-then-j-eq0-clause-seen : goal.returns-then-j-eq0-clause-seen
returns-then-j-eq0-clause-seen c =
    let q = c.args.self.now in
    let p = c.requires in
    let x = c.first_pivot.ensures in
    let z = c.if-j-eq0.true in
    let w = bench-wide q.m q.n q.bench.now in
    let s = first_seen (going q) (omega (arith, w, p.j_lt_n)) (p.begun z).norms (p.begun z).flags in
    rw z (x.seen ∙ s ∙ ap (λ (r : Reduction). either q.seen (ranges (get_or r.cols 0 []))) (sym x.after))
