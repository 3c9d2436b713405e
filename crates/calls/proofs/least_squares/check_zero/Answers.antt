use mathlib.Core.Path.{refl}
use mathlib.Core.List.{[], ◌∷◌}
use Rattle.leaves.proofs.Refusals.{went_to}
use Rattle.calls.specs.Tests.{marked_solve_tests, free_test}
use Rattle.calls.proofs.Passed.{first_failed}
use Rattle.calls.proofs.least_squares.check_zero.Goals as goal

pub returns-in_err-ordered : goal.returns-in_err-ordered
returns-in_err-ordered c =
    let g = c.args in
    first_failed (marked_solve_tests g.st g.store g.order.now g.out) (free_test g.st ∷ []) _ _ c.from_residual.ensures.1 c.in_err-ordered.ensures

pub returns : goal.returns
returns c =
    let g = c.args in
    went_to (marked_solve_tests g.st g.store g.order.now g.out) (free_test g.st ∷ []) refl c.in_ok-ordered.ensures refl c.some_free.ensures
