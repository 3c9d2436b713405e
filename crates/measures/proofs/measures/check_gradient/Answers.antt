use mathlib.Core.Path.{sym, ap, ◌∙◌}
use mathlib.Core.Bool.{not}
use mathlib.Core.List.{[], ◌∷◌}
use lib.Ieee.{of_bits}
use Rattle.leaves.specs.Tests.{Test}
use Rattle.factor.specs.Tests.{finite_number, not_above}
use Rattle.leaves.proofs.Refusals.{test_met, past, none_left}
use Rattle.leaves.proofs.Replies.{refusal_number-some}
use Rattle.measures.proofs.Asked.{handed_on}
use Rattle.measures.proofs.Measured.{gradient-stopped, gradient_went}
use Rattle.measures.proofs.measures.check_gradient.Goals as goal

pub returns-in_err-ordered : goal.returns-in_err-ordered
returns-in_err-ordered c =
    let g = c.args in
    handed_on c.from_residual.result _ c.from_residual.ensures.1 ∙ gradient-stopped g.st g.store g.order.now g.bnorm c.in_err-ordered.ensures (refusal_number-some _)

pub returns-then-not-is_finite : goal.returns-then-not-is_finite
returns-then-not-is_finite c =
    let g = c.args in
    gradient_went g.st g.store g.order.now g.bnorm c.in_ok-ordered.ensures
    (sym (test_met (finite_number g.bnorm) _ (ap not (sym c.is_finite.ensures) ∙ (ap not c.if-not-is_finite.true))))

pub returns-then-bnorm : goal.returns-then-bnorm
unfolding of_bits
returns-then-bnorm c =
    let g = c.args in
    let low : Test = (not_above g.bnorm, 7) in
    gradient_went g.st g.store g.order.now g.bnorm c.in_ok-ordered.ensures
    (past (finite_number g.bnorm) (low ∷ []) (ap not (sym c.is_finite.ensures) ∙ (ap not c.if-not-is_finite.false)) (sym (test_met low [] c.if-bnorm.true)))

pub returns : goal.returns
unfolding of_bits
returns c =
    let g = c.args in
    let low : Test = (not_above g.bnorm, 7) in
    gradient_went g.st g.store g.order.now g.bnorm c.in_ok-ordered.ensures
    (past (finite_number g.bnorm) (low ∷ []) (ap not (sym c.is_finite.ensures) ∙ (ap not c.if-not-is_finite.false)) (past low [] c.if-bnorm.false none_left))
