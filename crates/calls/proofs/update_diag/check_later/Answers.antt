use mathlib.Core.Path.{refl, sym, ap, ◌∙◌}
use mathlib.Core.Bool.{not}
use mathlib.Core.List.{[], ◌∷◌}
use lib.ListN.{length}
use lib.Seq.{length-take-le}
use Rattle.leaves.proofs.Refusals.{test_met, went_to, past}
use Rattle.factor.specs.Tests.{finite_test}
use Rattle.calls.specs.State.{whole}
use Rattle.calls.specs.Tests.{marked_room_tests, free_test}
use Rattle.calls.proofs.Measured.{room_long}
use Rattle.calls.proofs.Passed.{first_failed}
use Rattle.calls.proofs.update_diag.check_later.Goals as goal

pub returns-in_err-room : goal.returns-in_err-room
returns-in_err-room c =
    let g = c.args in
    let ts = marked_room_tests g.st g.store (length g.diag.now) in
    let t = finite_test (whole g.st) g.diag.now in
    first_failed ts (t ∷ free_test g.st ∷ []) _ _ c.from_residual.ensures.1 c.in_err-room.ensures

pub slice_bounds-all_finite-end : goal.slice_bounds-all_finite-end
slice_bounds-all_finite-end c =
    let g = c.args in
    sym (length-take-le g.st.n g.diag.now (room_long g.st g.store (length g.diag.now) [] refl (sym c.in_ok-room.ensures)))

pub returns-then-not-all_finite : goal.returns-then-not-all_finite
returns-then-not-all_finite c =
    let g = c.args in
    let ts = marked_room_tests g.st g.store (length g.diag.now) in
    let t = finite_test (whole g.st) g.diag.now in
    let us = free_test g.st ∷ [] in
    went_to ts (t ∷ us) refl c.in_ok-room.ensures refl (sym (test_met t us (ap not (sym c.all_finite.ensures) ∙ (ap not c.if-not-all_finite.true))))

pub returns : goal.returns
returns c =
    let g = c.args in
    let ts = marked_room_tests g.st g.store (length g.diag.now) in
    let t = finite_test (whole g.st) g.diag.now in
    let us = free_test g.st ∷ [] in
    went_to ts (t ∷ us) refl c.in_ok-room.ensures refl (past t us (ap not (sym c.all_finite.ensures) ∙ (ap not c.if-not-all_finite.false)) c.some_free.ensures)
