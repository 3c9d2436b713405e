use mathlib.Core.Path.{refl, sym, ap, ◌∙◌}
use Rattle.factor.specs.Outcome.{read_of}
use Rattle.factor.proofs.Holds.{mul_ready, mul-refused, mul-answered, mul-refused_8}
use Rattle.factor.proofs.Answers.{handed_on}
use Rattle.factor.proofs.cholesky.mul_read.Goals as goal

pub returns-in_err-lower : goal.returns-in_err-lower
returns-in_err-lower c =
    let g = c.args in
    rw (handed_on _ _ c.from_residual.ensures.1) (ap read_of (mul-refused g.st g.store.now g.out.now _ c.in_err-lower.ensures.failed))

pub invariant_of-store : goal.invariant_of-store
invariant_of-store c =
    let g = c.args in
    record { sized = (mul_ready g.st g.store.now g.out.now (sym c.in_ok-lower.ensures.failed)).sized }

pub mul_into-requires : goal.mul_into-requires
mul_into-requires c =
    let g = c.args in
    (mul_ready g.st g.store.now g.out.now (sym c.in_ok-lower.ensures.failed)).out_long

pub returns-then-mul_into : goal.returns-then-mul_into
returns-then-mul_into c =
    let g = c.args in
    let e = c.mul_into.ensures in
    let l = c.in_ok-lower.ensures in
    ap read_of (mul-answered g.st g.store.now g.out.now l.value l.failed (sym c.if-mul_into.true ∙ e.value) refl (e.out_after c.if-mul_into.true))

pub returns : goal.returns
returns c =
    let g = c.args in
    let e = c.mul_into.ensures in
    let l = c.in_ok-lower.ensures in
    ap read_of (mul-refused_8 g.st g.store.now g.out.now l.value l.failed (sym c.if-mul_into.false ∙ e.value) refl (e.out_unchanged c.if-mul_into.false))
