use mathlib.Core.Path.{sym, ap, ◌∙◌}
use native.Mathlib.Omega.{arith}
use mathlib.Core.List.{[]}
use Prim.Native.Nat.{ℕ}
use lib.ListN.{get_or}
use lib.Ieee.{nan}
use Rattle.leaves.specs.Norm.{norm}
use Rattle.reduce.specs.Reduction.{Reduction}
use Rattle.reduce.specs.inner.Going.{going}
use Rattle.reduce.proofs.Begins.{bench-wide}
use Rattle.reduce.proofs.Pivots.{first_norm}
use Rattle.reduce.proofs.pivoted.PivotedQR.first_pivot.Goals as goal

pub returns-clause-value : goal.returns-clause-value
returns-clause-value c =
    let q = c.args.self.now in
    let p = c.requires in
    let s = first_norm (going q) (omega (arith, bench-wide q.m q.n q.bench.now, p.n_nonzero)) p.begun.norms in
    ap (λ (i : ℕ). get_or q.diag.now i nan) c.largest-k.ensures.value ∙ s ∙ ap (λ (r : Reduction). norm (get_or r.cols 0 [])) (sym c.pivot.ensures.after)
