use mathlib.Core.Path.{sym, ap, ◌∙◌}
use mathlib.Core.Bool.{not}
use mathlib.Core.List.{[], ◌∷◌}
use lib.Ieee.{of_bits}
use Rattle.leaves.specs.Tests.{Test}
use Rattle.factor.specs.Tests.{finite_number, not_above, below}
use Rattle.leaves.proofs.Refusals.{test_met, past, none_left}
use Rattle.leaves.proofs.Replies.{refusal_number-some}
use Rattle.measures.proofs.Asked.{handed_on}
use Rattle.measures.proofs.Measured.{above-stopped, above_went}
use Rattle.measures.proofs.above.check_above.Goals as goal

pub returns-in_err-ordered : goal.returns-in_err-ordered
returns-in_err-ordered c =
    let g = c.args in
    handed_on c.from_residual.result _ c.from_residual.ensures.1 ∙ above-stopped g.st g.store g.order.now g.bnorm g.limit c.in_err-ordered.ensures (refusal_number-some _)

pub returns-then-not-is_finite : goal.returns-then-not-is_finite
returns-then-not-is_finite c =
    let g = c.args in
    above_went g.st g.store g.order.now g.bnorm g.limit c.in_ok-ordered.ensures
    (sym (test_met (finite_number g.bnorm) _ (ap not (sym c.is_finite.ensures) ∙ (ap not c.if-not-is_finite.true))))

pub returns-then-not-is_finite-2 : goal.returns-then-not-is_finite-2
returns-then-not-is_finite-2 c =
    let g = c.args in
    above_went g.st g.store g.order.now g.bnorm g.limit c.in_ok-ordered.ensures
    (past (finite_number g.bnorm) _ (ap not (sym c.is_finite.ensures) ∙ (ap not c.if-not-is_finite.false))
    (sym (test_met (finite_number g.limit) _ (ap not (sym c.is_finite-2.ensures) ∙ (ap not c.if-not-is_finite-2.true)))))

pub returns-then-bnorm : goal.returns-then-bnorm
unfolding of_bits
returns-then-bnorm c =
    let g = c.args in
    let low : Test = (not_above g.bnorm, 7) in
    above_went g.st g.store g.order.now g.bnorm g.limit c.in_ok-ordered.ensures
    (past (finite_number g.bnorm) _ (ap not (sym c.is_finite.ensures) ∙ (ap not c.if-not-is_finite.false))
    (past (finite_number g.limit) _ (ap not (sym c.is_finite-2.ensures) ∙ (ap not c.if-not-is_finite-2.false))
    (sym (test_met low _ c.if-bnorm.true))))

pub returns-then-limit : goal.returns-then-limit
unfolding of_bits
returns-then-limit c =
    let g = c.args in
    let low : Test = (not_above g.bnorm, 7) in
    let under : Test = (below g.limit, 7) in
    above_went g.st g.store g.order.now g.bnorm g.limit c.in_ok-ordered.ensures
    (past (finite_number g.bnorm) _ (ap not (sym c.is_finite.ensures) ∙ (ap not c.if-not-is_finite.false))
    (past (finite_number g.limit) _ (ap not (sym c.is_finite-2.ensures) ∙ (ap not c.if-not-is_finite-2.false))
    (past low (under ∷ []) c.if-bnorm.false (sym (test_met under [] c.if-limit.true)))))

pub returns-else-limit : goal.returns-else-limit
unfolding of_bits
returns-else-limit c =
    let g = c.args in
    let low : Test = (not_above g.bnorm, 7) in
    let under : Test = (below g.limit, 7) in
    above_went g.st g.store g.order.now g.bnorm g.limit c.in_ok-ordered.ensures
    (past (finite_number g.bnorm) _ (ap not (sym c.is_finite.ensures) ∙ (ap not c.if-not-is_finite.false))
    (past (finite_number g.limit) _ (ap not (sym c.is_finite-2.ensures) ∙ (ap not c.if-not-is_finite-2.false))
    (past low (under ∷ []) c.if-bnorm.false (past under [] c.if-limit.false none_left))))
