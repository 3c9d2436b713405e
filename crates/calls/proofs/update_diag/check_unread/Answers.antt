use mathlib.Core.Path.{refl}
use mathlib.Core.List.{[], ◌∷◌}
use Rattle.leaves.proofs.Refusals.{went_to}
use Rattle.calls.specs.Tests.{marked_room_tests, free_test}
use Rattle.calls.proofs.Passed.{first_failed}
use Rattle.calls.proofs.update_diag.check_unread.Goals as goal

pub returns-in_err-room : goal.returns-in_err-room
returns-in_err-room c =
    let g = c.args in
    first_failed (marked_room_tests g.st g.store g.diag) (free_test g.st ∷ []) _ _ c.from_residual.ensures.1 c.in_err-room.ensures

pub returns : goal.returns
returns c =
    let g = c.args in
    went_to (marked_room_tests g.st g.store g.diag) (free_test g.st ∷ []) refl c.in_ok-room.ensures refl c.some_free.ensures
