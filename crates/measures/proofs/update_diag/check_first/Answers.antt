use Prim.Native.Nat.{◌≤◌, min}
use mathlib.Core.Path.{sym, ap, ◌∙◌}
use native.Mathlib.Omega.{arith}
use mathlib.Core.Bool.{not}
use mathlib.Core.List.{[], ◌∷◌}
use lib.ListN.{length}
use lib.Seq.{length-take-le}
use lib.Ieee.{of_bits}
use Rattle.leaves.specs.Tests.{Test}
use Rattle.factor.specs.Tests.{finite_test, finite_number, not_above}
use Rattle.leaves.proofs.Refusals.{test_met, past, none_left}
use Rattle.leaves.proofs.Replies.{refusal_number-some}
use Rattle.factor.proofs.Passed.{room_passed}
use Rattle.measures.proofs.Asked.{handed_on}
use Rattle.measures.proofs.update_diag.Rescaled.{first_stopped, first_went}
use Rattle.measures.proofs.update_diag.check_first.Goals as goal

pub returns-in_err-room : goal.returns-in_err-room
returns-in_err-room c =
    let g = c.args in
    handed_on c.from_residual.result _ c.from_residual.ensures.1 ∙ first_stopped g.st g.store g.diag.now g.x.now g.bound c.least.ensures c.in_err-room.ensures (refusal_number-some _)

pub slice_bounds-all_finite-end : goal.slice_bounds-all_finite-end
slice_bounds-all_finite-end c =
    let g = c.args in
    let p = room_passed g.st g.store c.least.result (sym c.in_ok-room.ensures) in
    let l : g.st.n ≤ min (length g.diag.now) (length g.x.now) = rw (← c.least.ensures) p.each_long in
    sym (length-take-le g.st.n g.x.now (omega arith))

pub returns-then-not-all_finite : goal.returns-then-not-all_finite
returns-then-not-all_finite c =
    let g = c.args in
    first_went g.st g.store g.diag.now g.x.now g.bound c.least.ensures c.in_ok-room.ensures
    (sym (test_met (finite_test g.st g.x.now) _ (ap not (sym c.all_finite.ensures) ∙ (ap not c.if-not-all_finite.true))))

pub returns-then-not-is_finite : goal.returns-then-not-is_finite
returns-then-not-is_finite c =
    let g = c.args in
    first_went g.st g.store g.diag.now g.x.now g.bound c.least.ensures c.in_ok-room.ensures
    (past (finite_test g.st g.x.now) _ (ap not (sym c.all_finite.ensures) ∙ (ap not c.if-not-all_finite.false))
    (sym (test_met (finite_number g.bound) _ (ap not (sym c.is_finite.ensures) ∙ (ap not c.if-not-is_finite.true)))))

pub returns-then-bound : goal.returns-then-bound
unfolding of_bits
returns-then-bound c =
    let g = c.args in
    let low : Test = (not_above g.bound, 7) in
    first_went g.st g.store g.diag.now g.x.now g.bound c.least.ensures c.in_ok-room.ensures
    (past (finite_test g.st g.x.now) _ (ap not (sym c.all_finite.ensures) ∙ (ap not c.if-not-all_finite.false))
    (past (finite_number g.bound) (low ∷ []) (ap not (sym c.is_finite.ensures) ∙ (ap not c.if-not-is_finite.false)) (sym (test_met low [] c.if-bound.true))))

pub returns : goal.returns
unfolding of_bits
returns c =
    let g = c.args in
    let low : Test = (not_above g.bound, 7) in
    first_went g.st g.store g.diag.now g.x.now g.bound c.least.ensures c.in_ok-room.ensures
    (past (finite_test g.st g.x.now) _ (ap not (sym c.all_finite.ensures) ∙ (ap not c.if-not-all_finite.false))
    (past (finite_number g.bound) (low ∷ []) (ap not (sym c.is_finite.ensures) ∙ (ap not c.if-not-is_finite.false)) (past low [] c.if-bound.false none_left)))
