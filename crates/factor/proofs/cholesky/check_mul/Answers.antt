use mathlib.Core.Path.{refl, sym}
use mathlib.Core.List.{[], ◌∷◌}
use Rattle.factor.specs.Tests.{room_tests, held_test}
use Rattle.leaves.proofs.Refusals.{stopped}
use Rattle.leaves.proofs.Replies.{refusal_number-some}
use Rattle.factor.proofs.Answers.{handed_on}
use Rattle.factor.proofs.Holds.{held_too}
use Rattle.factor.proofs.Passed.{room_passed}
use Rattle.factor.proofs.cholesky.check_mul.Goals as goal

pub returns-in_err-room : goal.returns-in_err-room
returns-in_err-room c =
    let g = c.args in
    let ts = room_tests g.st g.store g.out in
    rw (handed_on _ _ c.from_residual.ensures.1) (record { value = tt; failed = sym (stopped ts (held_test g.st ∷ []) _ c.in_err-room.ensures (refusal_number-some _)) })

pub returns : goal.returns
returns c =
    let g = c.args in
    let e = c.in_ok-room.ensures in
    let p = (room_passed g.st g.store g.out (sym e)).filled in
    let x = c.lower_held.ensures in
    record { value = x.value; failed = held_too g.st.held p (room_tests g.st g.store g.out) (held_test g.st ∷ []) refl e x.failed }
