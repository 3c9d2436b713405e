use Prim.Native.Nat.{◌+◌, ℕ}
use mathlib.Core.Path.{sym, ap, ◌∙◌}
use native.Mathlib.Omega.{arith}
use Rattle.leaves.proofs.Folds.{nonzero}
use Rattle.reduce.specs.inner.Bench.{moved}
use Rattle.reduce.specs.inner.Going.{grid_of, going}
use Rattle.reduce.proofs.Going.{beside-going}
use Rattle.reduce.proofs.Pivots.{pivot_moves, pivot-stays}
use Rattle.reduce.proofs.pivoted.PivotedQR.pivot.Goals as goal

pub returns-then-d-eq0-clause-after : goal.returns-then-d-eq0-clause-after
returns-then-d-eq0-clause-after c = pivot-stays c.args.j (going c.args.self.now) (sym c.largest-d.ensures.value ∙ c.if-d-eq0.true)

pub returns-clause-after : goal.returns-clause-after
returns-clause-after c =
    let j = c.args.j in
    let q = c.args.self.now in
    let d = c.largest-d in
    let k = j + d.result in
    let s = nonzero _ c.if-d-eq0.false in
    let x = c.swap_columns in
    c.swap_entries.ensures.after ∙ ap (moved j k) (beside-going x.ensures.beside)
    ∙ pivot_moves q.n j k (grid_of q) (omega arith) d.ensures.below (grid_of x.new.self) q.diag.now q.work.now q.order.now (ap (λ (i : ℕ). j + i) d.ensures.value) x.ensures.after
