use mathlib.Core.Path.{sym, ap, ◌∙◌}
use mathlib.Core.Bool.{not}
use lib.Ieee.{of_bits}
use lib.Seq.{length-take-le}
use Rattle.std.proofs.lemmas.Result.{err_from_is_err_and}
use Rattle.leaves.proofs.Replies.{refusal_number-some}
use Rattle.calls.proofs.Searches.{first_met, diag_long, diag_met, radius_met, lambda_met, above_met, below_met, zero_met, free_met}
use Rattle.calls.proofs.trust_region.check_search.Goals as goal

pub returns-in_err-ordered : goal.returns-in_err-ordered
returns-in_err-ordered c =
    let g = c.args in
    let p = err_from_is_err_and c.from_residual.result c.from_residual.ensures.1 in
    rw (p.1, p.2) (first_met g.st g.store g.order.now g.diag.now g.radius g.lambda g.out c.least.ensures c.in_err-ordered.ensures (refusal_number-some _))

pub slice_bounds-all_finite-end : goal.slice_bounds-all_finite-end
slice_bounds-all_finite-end c =
    let g = c.args in
    sym (length-take-le _ _ (diag_long g.st g.store g.order.now g.diag.now g.radius g.lambda g.out c.least.ensures c.in_ok-ordered.ensures))

pub returns-then-not-all_finite : goal.returns-then-not-all_finite
returns-then-not-all_finite c =
    let g = c.args in
    let d = ap not (sym c.all_finite.ensures) ∙ (ap not c.if-not-all_finite.true) in
    diag_met g.st g.store g.order.now g.diag.now g.radius g.lambda g.out c.least.ensures c.in_ok-ordered.ensures d

pub returns-then-not-is_finite : goal.returns-then-not-is_finite
returns-then-not-is_finite c =
    let g = c.args in
    let d = ap not (sym c.all_finite.ensures) ∙ (ap not c.if-not-all_finite.false) in
    let r = ap not (sym c.is_finite.ensures) ∙ (ap not c.if-not-is_finite.true) in
    radius_met g.st g.store g.order.now g.diag.now g.radius g.lambda g.out c.least.ensures c.in_ok-ordered.ensures d r

pub returns-then-not-is_finite-2 : goal.returns-then-not-is_finite-2
returns-then-not-is_finite-2 c =
    let g = c.args in
    let d = ap not (sym c.all_finite.ensures) ∙ (ap not c.if-not-all_finite.false) in
    let r = ap not (sym c.is_finite.ensures) ∙ (ap not c.if-not-is_finite.false) in
    let l = ap not (sym c.is_finite-2.ensures) ∙ (ap not c.if-not-is_finite-2.true) in
    lambda_met g.st g.store g.order.now g.diag.now g.radius g.lambda g.out c.least.ensures c.in_ok-ordered.ensures d r l

pub returns-then-radius : goal.returns-then-radius
unfolding of_bits
returns-then-radius c =
    let g = c.args in
    let d = ap not (sym c.all_finite.ensures) ∙ (ap not c.if-not-all_finite.false) in
    let r = ap not (sym c.is_finite.ensures) ∙ (ap not c.if-not-is_finite.false) in
    let l = ap not (sym c.is_finite-2.ensures) ∙ (ap not c.if-not-is_finite-2.false) in
    above_met g.st g.store g.order.now g.diag.now g.radius g.lambda g.out c.least.ensures c.in_ok-ordered.ensures d r l c.if-radius.true

pub returns-then-lambda : goal.returns-then-lambda
unfolding of_bits
returns-then-lambda c =
    let g = c.args in
    let d = ap not (sym c.all_finite.ensures) ∙ (ap not c.if-not-all_finite.false) in
    let r = ap not (sym c.is_finite.ensures) ∙ (ap not c.if-not-is_finite.false) in
    let l = ap not (sym c.is_finite-2.ensures) ∙ (ap not c.if-not-is_finite-2.false) in
    below_met g.st g.store g.order.now g.diag.now g.radius g.lambda g.out c.least.ensures c.in_ok-ordered.ensures d r l c.if-radius.false c.if-lambda.true

pub slice_bounds-none_zero-end : goal.slice_bounds-none_zero-end
slice_bounds-none_zero-end c =
    let g = c.args in
    sym (length-take-le _ _ (diag_long g.st g.store g.order.now g.diag.now g.radius g.lambda g.out c.least.ensures c.in_ok-ordered.ensures))

pub returns-then-not-none_zero : goal.returns-then-not-none_zero
unfolding of_bits
returns-then-not-none_zero c =
    let g = c.args in
    let d = ap not (sym c.all_finite.ensures) ∙ (ap not c.if-not-all_finite.false) in
    let r = ap not (sym c.is_finite.ensures) ∙ (ap not c.if-not-is_finite.false) in
    let l = ap not (sym c.is_finite-2.ensures) ∙ (ap not c.if-not-is_finite-2.false) in
    let n = ap not (sym c.none_zero.ensures) ∙ (ap not c.if-not-none_zero.true) in
    zero_met g.st g.store g.order.now g.diag.now g.radius g.lambda g.out c.least.ensures c.in_ok-ordered.ensures d r l c.if-radius.false c.if-lambda.false n

pub returns : goal.returns
unfolding of_bits
returns c =
    let g = c.args in
    let d = ap not (sym c.all_finite.ensures) ∙ (ap not c.if-not-all_finite.false) in
    let r = ap not (sym c.is_finite.ensures) ∙ (ap not c.if-not-is_finite.false) in
    let l = ap not (sym c.is_finite-2.ensures) ∙ (ap not c.if-not-is_finite-2.false) in
    let n = ap not (sym c.none_zero.ensures) ∙ (ap not c.if-not-none_zero.false) in
    free_met g.st g.store g.order.now g.diag.now g.radius g.lambda g.out c.least.ensures c.in_ok-ordered.ensures d r l c.if-radius.false c.if-lambda.false n c.some_free.ensures
