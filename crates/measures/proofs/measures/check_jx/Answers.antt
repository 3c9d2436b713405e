use mathlib.Core.Path.{refl, sym, ap, ◌∙◌}
use mathlib.Core.Bool.{not}
use mathlib.Core.List.{[], ◌∷◌}
use lib.ListN.{length}
use lib.Seq.{length-take-le}
use Rattle.factor.specs.Tests.{finite_test, solve_tests}
use Rattle.leaves.proofs.Refusals.{stopped, test_met, went_to, past, none_left}
use Rattle.leaves.proofs.Replies.{refusal_number-some}
use Rattle.factor.proofs.Passed.{solve_passed}
use Rattle.measures.proofs.Asked.{handed_on}
use Rattle.measures.proofs.measures.check_jx.Goals as goal

pub returns-in_err-ordered : goal.returns-in_err-ordered
returns-in_err-ordered c =
    let g = c.args in
    let ts = solve_tests g.st g.store g.order.now (length g.x.now) in
    let t = finite_test g.st g.x.now in
    handed_on c.from_residual.result _ c.from_residual.ensures.1 ∙ sym (stopped ts (t ∷ []) _ c.in_err-ordered.ensures (refusal_number-some _))

pub slice_bounds-all_finite-end : goal.slice_bounds-all_finite-end
slice_bounds-all_finite-end c =
    let g = c.args in
    let o = solve_passed g.st g.store g.order.now (length g.x.now) (sym c.in_ok-ordered.ensures) in
    sym (length-take-le g.st.n g.x.now o.room.each_long)

pub returns-then-all_finite : goal.returns-then-all_finite
returns-then-all_finite c =
    let g = c.args in
    let ts = solve_tests g.st g.store g.order.now (length g.x.now) in
    let t = finite_test g.st g.x.now in
    went_to ts (t ∷ []) refl c.in_ok-ordered.ensures refl (past t [] (ap not (sym c.all_finite.ensures ∙ c.if-all_finite.true)) none_left)

pub returns-else-all_finite : goal.returns-else-all_finite
returns-else-all_finite c =
    let g = c.args in
    let ts = solve_tests g.st g.store g.order.now (length g.x.now) in
    let t = finite_test g.st g.x.now in
    went_to ts (t ∷ []) refl c.in_ok-ordered.ensures refl (sym (test_met t [] (ap not (sym c.all_finite.ensures ∙ c.if-all_finite.false))))
