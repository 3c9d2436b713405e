use mathlib.Core.Path.{ap, ◌∙◌}
use Prim.Native.Nat.{ℕ}
use lib.Ieee.{of_bits}
use Rattle.leaves.specs.Norm.{either, ranges_of}
use Rattle.reduce.specs.Reduction.{reflected, measured_reflected}
use Rattle.reduce.specs.inner.Going.{going}
use Rattle.reduce.proofs.Pivots.{reduced-zero, reduced_by, measured-zero, measured_by_lem}
use Rattle.reduce.proofs.pivoted.PivotedQR.reduce_column.Goals as goal

pub returns-then-s-clause-after : goal.returns-then-s-clause-after
unfolding of_bits
returns-then-s-clause-after c =
    let q = c.args.self.now in
    let x = c.pivot_norm-s in
    reduced-zero q.n c.args.j (going q) (going x.new.self) x.result x.ensures.after x.ensures.value c.if-s.true

pub returns-then-s-clause-sees : goal.returns-then-s-clause-sees
unfolding of_bits
returns-then-s-clause-sees c =
    let q = c.args.self.now in
    let x = c.pivot_norm-s in
    measured-zero q.n c.args.j (going q) (going x.new.self) x.result q.seen x.ensures.after x.ensures.value c.if-s.true x.ensures.seen

pub returns-clause-after : goal.returns-clause-after
unfolding of_bits
returns-clause-after c =
    let q = c.args.self.now in
    let j = c.args.j in
    let x = c.pivot_norm-s in
    let p = going x.new.self in
    let n = ap (λ (k : ℕ). reflected k j x.result p) x.ensures.same.across in
    reduced_by q.n j (going q) p _ x.result x.ensures.after x.ensures.value c.if-s.false (c.reflect_from.ensures.after ∙ n)

pub returns-clause-sees : goal.returns-clause-sees
unfolding of_bits
returns-clause-sees c =
    let q = c.args.self.now in
    let j = c.args.j in
    let x = c.pivot_norm-s in
    let p = going x.new.self in
    let n = ap (λ (k : ℕ). either x.new.self.seen (ranges_of (measured_reflected k j x.result p))) x.ensures.same.across in
    measured_by_lem q.n j (going q) p x.result q.seen x.ensures.after x.ensures.value c.if-s.false x.ensures.seen (c.reflect_from.ensures.sees ∙ n)
