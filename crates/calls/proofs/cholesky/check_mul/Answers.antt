use mathlib.Core.Path.{refl, sym, ◌∙◌}
use mathlib.Core.List.{[], ◌∷◌}
use Rattle.factor.specs.Tests.{held_test}
use Rattle.leaves.proofs.Refusals.{went_to, past, test_met}
use Rattle.calls.specs.State.{whole}
use Rattle.calls.specs.Tests.{marked_room_tests, free_test}
use Rattle.calls.proofs.Passed.{first_failed}
use Rattle.calls.proofs.cholesky.check_mul.Goals as goal

pub returns-in_err-room : goal.returns-in_err-room
returns-in_err-room c =
    let g = c.args in
    let ts = marked_room_tests g.st g.store g.out in
    first_failed ts (held_test (whole g.st) ∷ free_test g.st ∷ []) _ _ c.from_residual.ensures.1 c.in_err-room.ensures

pub returns-then-is_nothing : goal.returns-then-is_nothing
returns-then-is_nothing c =
    let g = c.args in
    let ts = marked_room_tests g.st g.store g.out in
    let t = held_test (whole g.st) in
    let us = free_test g.st ∷ [] in
    went_to ts (t ∷ us) refl c.in_ok-room.ensures refl (sym (test_met t us (sym c.is_nothing.ensures ∙ c.if-is_nothing.true)))

pub returns : goal.returns
returns c =
    let g = c.args in
    let ts = marked_room_tests g.st g.store g.out in
    let t = held_test (whole g.st) in
    let us = free_test g.st ∷ [] in
    went_to ts (t ∷ us) refl c.in_ok-room.ensures refl (past t us (sym c.is_nothing.ensures ∙ c.if-is_nothing.false) c.some_free.ensures)
