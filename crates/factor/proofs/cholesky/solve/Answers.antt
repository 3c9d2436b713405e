use mathlib.Core.Path.{refl, sym, ◌∙◌}
use mathlib.Core.List.{[], ◌∷◌}
use Rattle.factor.specs.Tests.{finite_test}
use borrow.Author.Rules.{rules}
use Rattle.factor.proofs.Holds.{solve_ready, solve-refused, solve-answered, solve-refused_8}
use Rattle.factor.proofs.cholesky.solve.Goals as goal

pub returns-in-Err : goal.returns-in-Err
returns-in-Err c =
    let g = c.args in
    solve-refused g.st g.order.now g.rhs.now g.store.now g.out.now _ c.in-Err.ensures.failed

pub invariant_of-held : goal.invariant_of-held
invariant_of-held c =
    let g = c.args in
    record { sized = (solve_ready g.st g.store.now g.order.now g.rhs.now g.out.now (finite_test g.st g.rhs.now ∷ []) refl (sym c.in-Ok.ensures.failed)).sized }

pub invariant_of-solve_into : goal.invariant_of-solve_into
invariant_of-solve_into c =
    let g = c.args in
    record { names = (solve_ready g.st g.store.now g.order.now g.rhs.now g.out.now (finite_test g.st g.rhs.now ∷ []) refl (sym c.in-Ok.ensures.failed)).named }

pub solve_into-good-requires : goal.solve_into-good-requires
solve_into-good-requires c =
    let g = c.args in
    let r = solve_ready g.st g.store.now g.order.now g.rhs.now g.out.now (finite_test g.st g.rhs.now ∷ []) refl (sym c.in-Ok.ensures.failed) in
    record { same_n = refl; n_in_bounds = (r.rhs_long, r.out_long) }

pub invariant_of-rest_room : goal.invariant_of-rest_room
invariant_of-rest_room c =
    let g = c.args in
    let r = solve_ready g.st g.store.now g.order.now g.rhs.now g.out.now (finite_test g.st g.rhs.now ∷ []) refl (sym c.in-Ok.ensures.failed) in
    record { some = r.some; sized = r.sized }

pub returns-then-good : goal.returns-then-good
returns-then-good c =
    let g = c.args in
    let e = c.solve_into-good.ensures in
    let l = c.in-Ok.ensures in
    solve-answered g.st g.order.now g.rhs.now g.store.now g.out.now l.value l.failed (sym c.if-good.true ∙ e.value) (search rules ∙ c.rest_room.ensures.cells) (e.out_after c.if-good.true)

pub returns : goal.returns
returns c =
    let g = c.args in
    let e = c.solve_into-good.ensures in
    let l = c.in-Ok.ensures in
    solve-refused_8 g.st g.order.now g.rhs.now g.store.now g.out.now l.value l.failed (sym c.if-good.false ∙ e.value) (search rules ∙ c.rest_room.ensures.cells) (e.out_unchanged c.if-good.false)
