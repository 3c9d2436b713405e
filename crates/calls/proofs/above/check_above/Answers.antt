use mathlib.Core.Path.{sym, ap, ◌∙◌}
use mathlib.Core.Bool.{not}
use mathlib.Core.List.{[], ◌∷◌}
use lib.Ieee.{of_bits}
use Rattle.leaves.specs.Tests.{Test}
use Rattle.factor.specs.Tests.{finite_number, not_above, below}
use Rattle.leaves.proofs.Refusals.{test_met, past}
use Rattle.calls.specs.Tests.{free_test}
use Rattle.calls.proofs.Passed.{first_failed}
use Rattle.calls.proofs.Measured.{gradient_first, limit_tests, ordered, above_went}
use Rattle.calls.proofs.above.check_above.Goals as goal

pub returns-in_err-ordered : goal.returns-in_err-ordered
returns-in_err-ordered c =
    let g = c.args in
    first_failed (ordered g.st g.store g.order.now g.bnorm g.limit) (limit_tests g.st g.bnorm g.limit) _ _ c.from_residual.ensures.1 (gradient_first g.st g.store g.order.now c.in_err-ordered.ensures)

pub returns-then-not-is_finite : goal.returns-then-not-is_finite
returns-then-not-is_finite c =
    let g = c.args in
    above_went g.st g.store g.order.now g.bnorm g.limit c.in_ok-ordered.ensures
    (sym (test_met (finite_number g.bnorm) _ (ap not (sym c.is_finite.ensures) ∙ (ap not c.if-not-is_finite.true))))

pub returns-then-not-is_finite-2 : goal.returns-then-not-is_finite-2
returns-then-not-is_finite-2 c =
    let g = c.args in
    above_went g.st g.store g.order.now g.bnorm g.limit c.in_ok-ordered.ensures
    (past (finite_number g.bnorm) _ (ap not (sym c.is_finite.ensures) ∙ (ap not c.if-not-is_finite.false))
    (sym (test_met (finite_number g.limit) _ (ap not (sym c.is_finite-2.ensures) ∙ (ap not c.if-not-is_finite-2.true)))))

pub returns-then-bnorm : goal.returns-then-bnorm
unfolding of_bits
returns-then-bnorm c =
    let g = c.args in
    let low : Test = (not_above g.bnorm, 7) in
    above_went g.st g.store g.order.now g.bnorm g.limit c.in_ok-ordered.ensures
    (past (finite_number g.bnorm) _ (ap not (sym c.is_finite.ensures) ∙ (ap not c.if-not-is_finite.false))
    (past (finite_number g.limit) _ (ap not (sym c.is_finite-2.ensures) ∙ (ap not c.if-not-is_finite-2.false))
    (sym (test_met low _ c.if-bnorm.true))))

pub returns-then-limit : goal.returns-then-limit
unfolding of_bits
returns-then-limit c =
    let g = c.args in
    let low : Test = (not_above g.bnorm, 7) in
    let under : Test = (below g.limit, 7) in
    above_went g.st g.store g.order.now g.bnorm g.limit c.in_ok-ordered.ensures
    (past (finite_number g.bnorm) _ (ap not (sym c.is_finite.ensures) ∙ (ap not c.if-not-is_finite.false))
    (past (finite_number g.limit) _ (ap not (sym c.is_finite-2.ensures) ∙ (ap not c.if-not-is_finite-2.false))
    (past low (under ∷ free_test g.st ∷ []) c.if-bnorm.false (sym (test_met under (free_test g.st ∷ []) c.if-limit.true)))))

pub returns : goal.returns
unfolding of_bits
returns c =
    let g = c.args in
    let low : Test = (not_above g.bnorm, 7) in
    let under : Test = (below g.limit, 7) in
    above_went g.st g.store g.order.now g.bnorm g.limit c.in_ok-ordered.ensures
    (past (finite_number g.bnorm) _ (ap not (sym c.is_finite.ensures) ∙ (ap not c.if-not-is_finite.false))
    (past (finite_number g.limit) _ (ap not (sym c.is_finite-2.ensures) ∙ (ap not c.if-not-is_finite-2.false))
    (past low (under ∷ free_test g.st ∷ []) c.if-bnorm.false (past under (free_test g.st ∷ []) c.if-limit.false c.some_free.ensures))))
