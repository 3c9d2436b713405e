use mathlib.Core.Path.{refl, sym, ap, ◌∙◌}
use mathlib.Core.Bool.{not}
use mathlib.Core.List.{[], ◌∷◌, ◌++◌}
use lib.ListN.{length}
use lib.Ieee.{of_bits}
use Rattle.leaves.specs.Tests.{Test}
use Rattle.leaves.proofs.Refusals.{test_met, went_to, past}
use Rattle.factor.specs.Tests.{finite_number, not_above}
use Rattle.calls.specs.Tests.{marked_room_tests, form_test, free_test}
use Rattle.calls.proofs.Measured.{gradient_first}
use Rattle.calls.proofs.Passed.{first_failed}
use Rattle.calls.proofs.measure.check_gradient.Goals as goal

pub returns-in_err-ordered : goal.returns-in_err-ordered
returns-in_err-ordered c =
    let g = c.args in
    let ts = marked_room_tests g.st g.store (length g.order.now) ++ (form_test g.st g.order.now ∷ []) in
    let low : Test = (not_above g.bnorm, 7) in
    let us = finite_number g.bnorm ∷ low ∷ free_test g.st ∷ [] in
    first_failed ts us _ _ c.from_residual.ensures.1 (gradient_first g.st g.store g.order.now c.in_err-ordered.ensures)

pub returns-then-not-is_finite : goal.returns-then-not-is_finite
returns-then-not-is_finite c =
    let g = c.args in
    let ts = marked_room_tests g.st g.store (length g.order.now) ++ (form_test g.st g.order.now ∷ []) in
    let low : Test = (not_above g.bnorm, 7) in
    let us = low ∷ free_test g.st ∷ [] in
    let e = gradient_first g.st g.store g.order.now c.in_ok-ordered.ensures in
    went_to ts (finite_number g.bnorm ∷ us) refl e refl (sym (test_met (finite_number g.bnorm) us (ap not (sym c.is_finite.ensures) ∙ (ap not c.if-not-is_finite.true))))

pub returns-then-bnorm : goal.returns-then-bnorm
unfolding of_bits
returns-then-bnorm c =
    let g = c.args in
    let ts = marked_room_tests g.st g.store (length g.order.now) ++ (form_test g.st g.order.now ∷ []) in
    let low : Test = (not_above g.bnorm, 7) in
    let us = low ∷ free_test g.st ∷ [] in
    let e = gradient_first g.st g.store g.order.now c.in_ok-ordered.ensures in
    went_to ts (finite_number g.bnorm ∷ us) refl e refl
    (past (finite_number g.bnorm) us (ap not (sym c.is_finite.ensures) ∙ (ap not c.if-not-is_finite.false)) (sym (test_met low (free_test g.st ∷ []) c.if-bnorm.true)))

pub returns : goal.returns
unfolding of_bits
returns c =
    let g = c.args in
    let ts = marked_room_tests g.st g.store (length g.order.now) ++ (form_test g.st g.order.now ∷ []) in
    let low : Test = (not_above g.bnorm, 7) in
    let us = low ∷ free_test g.st ∷ [] in
    let e = gradient_first g.st g.store g.order.now c.in_ok-ordered.ensures in
    went_to ts (finite_number g.bnorm ∷ us) refl e refl
    (past (finite_number g.bnorm) us (ap not (sym c.is_finite.ensures) ∙ (ap not c.if-not-is_finite.false)) (past low (free_test g.st ∷ []) c.if-bnorm.false c.some_free.ensures))
