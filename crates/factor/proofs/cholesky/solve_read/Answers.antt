use mathlib.Core.Path.{refl, sym, ap, ◌∙◌}
use mathlib.Core.List.{[], ◌∷◌}
use Rattle.factor.specs.Tests.{finite_test}
use Rattle.factor.specs.Outcome.{read_of}
use Rattle.factor.proofs.Holds.{solve_ready, solve-refused, solve-answered, solve-refused_8}
use Rattle.factor.proofs.Answers.{handed_on}
use Rattle.factor.proofs.cholesky.solve_read.Goals as goal

pub returns-in_err-lower : goal.returns-in_err-lower
returns-in_err-lower c =
    let g = c.args in
    rw (handed_on _ _ c.from_residual.ensures.1) (ap read_of (solve-refused g.st g.order.now g.rhs.now g.store.now g.out.now _ c.in_err-lower.ensures.failed))

pub invariant_of-store : goal.invariant_of-store
invariant_of-store c =
    let g = c.args in
    record { sized = (solve_ready g.st g.store.now g.order.now g.rhs.now g.out.now (finite_test g.st g.rhs.now ∷ []) refl (sym c.in_ok-lower.ensures.failed)).sized }

pub invariant_of-solve_into : goal.invariant_of-solve_into
invariant_of-solve_into c =
    let g = c.args in
    record { names = (solve_ready g.st g.store.now g.order.now g.rhs.now g.out.now (finite_test g.st g.rhs.now ∷ []) refl (sym c.in_ok-lower.ensures.failed)).named }

pub solve_into-requires : goal.solve_into-requires
solve_into-requires c =
    let g = c.args in
    let r = solve_ready g.st g.store.now g.order.now g.rhs.now g.out.now (finite_test g.st g.rhs.now ∷ []) refl (sym c.in_ok-lower.ensures.failed) in
    record { same_n = refl; n_in_bounds = (r.rhs_long, r.out_long) }

pub returns-then-solve_into : goal.returns-then-solve_into
returns-then-solve_into c =
    let g = c.args in
    let e = c.solve_into.ensures in
    let l = c.in_ok-lower.ensures in
    ap read_of (solve-answered g.st g.order.now g.rhs.now g.store.now g.out.now l.value l.failed (sym c.if-solve_into.true ∙ e.value) refl (e.out_after c.if-solve_into.true))

pub returns : goal.returns
returns c =
    let g = c.args in
    let e = c.solve_into.ensures in
    let l = c.in_ok-lower.ensures in
    ap read_of (solve-refused_8 g.st g.order.now g.rhs.now g.store.now g.out.now l.value l.failed (sym c.if-solve_into.false ∙ e.value) refl (e.out_unchanged c.if-solve_into.false))
