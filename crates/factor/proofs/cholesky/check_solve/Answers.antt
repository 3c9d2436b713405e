use mathlib.Core.Path.{refl, sym, ap, ◌∙◌}
use Prim.Native.Nat.{min}
use mathlib.Core.Bool.{not}
use mathlib.Core.List.{[], ◌∷◌, ◌++◌}
use lib.ListN.{length}
use lib.Seq.{length-take-le}
use Rattle.factor.specs.Tests.{held_test, finite_test, solve_tests}
use Rattle.leaves.proofs.Refusals.{stopped}
use Rattle.factor.proofs.Holds.{further_met, further_passed, rhs_fits}
use Rattle.leaves.proofs.Replies.{refusal_number-some}
use Rattle.factor.proofs.Answers.{handed_on}
use Rattle.factor.proofs.cholesky.check_solve.Goals as goal

pub returns-in_err-lower : goal.returns-in_err-lower
returns-in_err-lower c =
    let g = c.args in
    let ts = solve_tests g.st g.store g.order.now (min (length g.rhs.now) g.out) ++ (held_test g.st ∷ []) in
    rw (handed_on _ _ c.from_residual.ensures.1) (record { value = tt; failed = sym (stopped ts (finite_test g.st g.rhs.now ∷ []) _ c.in_err-lower.ensures.failed (refusal_number-some _)) })

pub slice_bounds-all_finite-end : goal.slice_bounds-all_finite-end
slice_bounds-all_finite-end c =
    let g = c.args in
    sym (length-take-le g.st.n g.rhs.now (rhs_fits g.st g.store g.order.now (length g.rhs.now) g.out (sym c.in_ok-lower.ensures.failed)))

pub returns-then-all_finite : goal.returns-then-all_finite
returns-then-all_finite c =
    let g = c.args in
    let ts = solve_tests g.st g.store g.order.now (min (length g.rhs.now) g.out) ++ (held_test g.st ∷ []) in
    record { value = c.in_ok-lower.ensures.value; failed = further_passed ts (finite_test g.st g.rhs.now) refl c.in_ok-lower.ensures.failed (ap not (sym c.all_finite.ensures ∙ c.if-all_finite.true)) }

pub returns-else-all_finite : goal.returns-else-all_finite
returns-else-all_finite c =
    let g = c.args in
    let ts = solve_tests g.st g.store g.order.now (min (length g.rhs.now) g.out) ++ (held_test g.st ∷ []) in
    record { value = tt; failed = further_met ts (finite_test g.st g.rhs.now) refl c.in_ok-lower.ensures.failed (ap not (sym c.all_finite.ensures ∙ c.if-all_finite.false)) }
