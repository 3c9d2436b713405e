use Prim.Native.Nat.{ℕ, ◌+◌, min}
use mathlib.Core.Path.{ap, ◌∙◌}
use native.Mathlib.Nat.{mul_comm, suc-mul}
use Rattle.leaves.specs.Loop.{upto, along}
use Rattle.leaves.specs.Norm.{either, ranges_of}
use Rattle.reduce.specs.Reduction.{reduced, measured_at}
use Rattle.reduce.specs.inner.Going.{going}
use Rattle.reduce.proofs.Going.{same-then, same-going}
use Rattle.reduce.proofs.Lent.{start-norms, start-cols}
use Rattle.reduce.proofs.Filled.{filled_works_out}
use Rattle.reduce.proofs.pivoted.PivotedQR.factor.Goals as goal

pub reduce-requires : goal.reduce-requires
reduce-requires c =
    let x = c.begin in
    let r = going x.new.self in
    record { norms = start-norms r _ _ x.ensures.after; flags = x.ensures.seen ∙ ap ranges_of (start-cols r _ _ x.ensures.after) }

pub returns-clause-whole : goal.returns-clause-whole
returns-clause-whole c =
    let q = c.args.self.now in
    let x = c.begin in
    let y = c.reduce in
    let r = going x.new.self in
    let u = y.new.self in
    let a = x.ensures.same in
    let s = same-then a y.ensures.same in
    let h = same-going s ∙ y.ensures.after ∙ ap (λ (k : ℕ). upto (reduced k) (min x.new.self.m k) r) a.across ∙ ap (λ (k : ℕ). upto (reduced q.n) (min k q.n) r) a.rows in
    let g = y.ensures.sees ∙ ap (λ (k : ℕ). either x.new.self.seen (ranges_of (along (measured_at k) (reduced k) (min x.new.self.m k) r))) a.across
    ∙ ap (λ (k : ℕ). either x.new.self.seen (ranges_of (along (measured_at q.n) (reduced q.n) (min k q.n) r))) a.rows in
    let full = rw (s.rows, s.across) at u.benched.whole in
    filled_works_out q.m q.n c.args.norms.now q.diag.now q.order.now q.bench.now c.requires.sizes c.requires.norms_len q.diag_long q.order_long (q.benched.whole ∙ suc-mul q.n q.m ∙ ap (λ (k : ℕ). k + q.m) (mul_comm q.n q.m))
    x.new.norms u.diag.now u.work.now u.bench.now u.order.now r x.new.self.seen u.seen x.ensures.norms_after x.ensures.after h x.ensures.seen g full
