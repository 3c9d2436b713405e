use mathlib.Core.Path.{sym, ap, ◌∙◌}
use mathlib.Core.Bool.{not}
use lib.Ieee.{of_bits}
use lib.Seq.{length-take-le}
use Rattle.std.proofs.lemmas.Result.{err_from_is_err_and}
use Rattle.search.proofs.check.Asking.{first_met, diag_long, diag_met, radius_met, lambda_met, above_met, below_met, zero_met, none_met}
use Rattle.search.proofs.check.check_search.Goals as goal

pub returns-in_err-ordered : goal.returns-in_err-ordered
returns-in_err-ordered c =
    let g = c.args in
    let p = err_from_is_err_and c.from_residual.result c.from_residual.ensures.1 in
    rw (p.1, p.2) (first_met g.st g.store g.order.now g.diag.now g.radius g.lambda g.out c.least.ensures _ c.in_err-ordered.ensures)

pub slice_bounds-all_finite-end : goal.slice_bounds-all_finite-end
slice_bounds-all_finite-end c =
    let g = c.args in
    let m = c.least.ensures in
    let e = c.in_ok-ordered.ensures in
    sym (length-take-le _ _ (diag_long g.st g.store g.order.now g.diag.now g.radius g.lambda g.out m e))

pub returns-then-not-all_finite : goal.returns-then-not-all_finite
returns-then-not-all_finite c =
    let g = c.args in
    let m = c.least.ensures in
    let e = c.in_ok-ordered.ensures in
    diag_met g.st g.store g.order.now g.diag.now g.radius g.lambda g.out m e (ap not (sym c.all_finite.ensures) ∙ (ap not c.if-not-all_finite.true))

pub returns-then-not-is_finite : goal.returns-then-not-is_finite
returns-then-not-is_finite c =
    let g = c.args in
    let m = c.least.ensures in
    let e = c.in_ok-ordered.ensures in
    radius_met g.st g.store g.order.now g.diag.now g.radius g.lambda g.out m e (ap not (sym c.all_finite.ensures) ∙ (ap not c.if-not-all_finite.false)) (ap not (sym c.is_finite.ensures) ∙ (ap not c.if-not-is_finite.true))

pub returns-then-not-is_finite-2 : goal.returns-then-not-is_finite-2
returns-then-not-is_finite-2 c =
    let g = c.args in
    let m = c.least.ensures in
    let e = c.in_ok-ordered.ensures in
    lambda_met g.st g.store g.order.now g.diag.now g.radius g.lambda g.out m e (ap not (sym c.all_finite.ensures) ∙ (ap not c.if-not-all_finite.false)) (ap not (sym c.is_finite.ensures) ∙ (ap not c.if-not-is_finite.false)) (ap not (sym c.is_finite-2.ensures) ∙ (ap not c.if-not-is_finite-2.true))

pub returns-then-radius : goal.returns-then-radius
unfolding of_bits
returns-then-radius c =
    let g = c.args in
    let m = c.least.ensures in
    let e = c.in_ok-ordered.ensures in
    above_met g.st g.store g.order.now g.diag.now g.radius g.lambda g.out m e (ap not (sym c.all_finite.ensures) ∙ (ap not c.if-not-all_finite.false)) (ap not (sym c.is_finite.ensures) ∙ (ap not c.if-not-is_finite.false)) (ap not (sym c.is_finite-2.ensures) ∙ (ap not c.if-not-is_finite-2.false)) c.if-radius.true

pub returns-then-lambda : goal.returns-then-lambda
unfolding of_bits
returns-then-lambda c =
    let g = c.args in
    let m = c.least.ensures in
    let e = c.in_ok-ordered.ensures in
    below_met g.st g.store g.order.now g.diag.now g.radius g.lambda g.out m e (ap not (sym c.all_finite.ensures) ∙ (ap not c.if-not-all_finite.false)) (ap not (sym c.is_finite.ensures) ∙ (ap not c.if-not-is_finite.false)) (ap not (sym c.is_finite-2.ensures) ∙ (ap not c.if-not-is_finite-2.false)) c.if-radius.false c.if-lambda.true

pub slice_bounds-none_zero-end : goal.slice_bounds-none_zero-end
slice_bounds-none_zero-end c =
    let g = c.args in
    let m = c.least.ensures in
    let e = c.in_ok-ordered.ensures in
    sym (length-take-le _ _ (diag_long g.st g.store g.order.now g.diag.now g.radius g.lambda g.out m e))

pub returns-then-none_zero : goal.returns-then-none_zero
unfolding of_bits
returns-then-none_zero c =
    let g = c.args in
    let m = c.least.ensures in
    let e = c.in_ok-ordered.ensures in
    none_met g.st g.store g.order.now g.diag.now g.radius g.lambda g.out m e (ap not (sym c.all_finite.ensures) ∙ (ap not c.if-not-all_finite.false)) (ap not (sym c.is_finite.ensures) ∙ (ap not c.if-not-is_finite.false)) (ap not (sym c.is_finite-2.ensures) ∙ (ap not c.if-not-is_finite-2.false)) c.if-radius.false c.if-lambda.false (ap not (sym c.none_zero.ensures ∙ c.if-none_zero.true))

pub returns-else-none_zero : goal.returns-else-none_zero
unfolding of_bits
returns-else-none_zero c =
    let g = c.args in
    let m = c.least.ensures in
    let e = c.in_ok-ordered.ensures in
    zero_met g.st g.store g.order.now g.diag.now g.radius g.lambda g.out m e (ap not (sym c.all_finite.ensures) ∙ (ap not c.if-not-all_finite.false)) (ap not (sym c.is_finite.ensures) ∙ (ap not c.if-not-is_finite.false)) (ap not (sym c.is_finite-2.ensures) ∙ (ap not c.if-not-is_finite-2.false)) c.if-radius.false c.if-lambda.false (ap not (sym c.none_zero.ensures ∙ c.if-none_zero.false))
