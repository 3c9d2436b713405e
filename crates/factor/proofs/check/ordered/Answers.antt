use mathlib.Core.Path.{◌≡◌, refl, sym, ap, ◌∙◌}
use mathlib.Core.Bool.{not}
use mathlib.Core.List.{[], ◌∷◌}
use Prim.Native.Nat.{◌≤◌, min}
use native.Mathlib.Omega.{arith}
use lib.ListN.{length}
use Rattle.leaves.specs.Tests.{first_of}
use Rattle.factor.specs.State.{state_of}
use Rattle.factor.specs.Tests.{room_tests, order_test}
use Rattle.leaves.proofs.Refusals.{stopped, went_on, test_met, test_passed}
use Rattle.factor.proofs.Passed.{room_passed}
use Rattle.leaves.proofs.Replies.{refusal_number-some}
use Rattle.factor.proofs.Answers.{handed_on}
use Rattle.factor.proofs.check.ordered.Goals as goal

pub returns-in_err-room : goal.returns-in_err-room
returns-in_err-room c =
    let g = c.args in
    let ts = room_tests (state_of g.m g.n g.held) g.store (min (length g.order.now) g.shortest) in
    let us = order_test (state_of g.m g.n g.held) g.order.now ∷ [] in
    rw (handed_on _ _ c.from_residual.ensures.1) (sym (stopped ts us _ (rw (← c.least.ensures) c.in_err-room.ensures) (refusal_number-some _)))

pub is_permutation-requires : goal.is_permutation-requires
is_permutation-requires c =
    let g = c.args in
    let m = c.least.ensures in
    let p = room_passed (state_of g.m g.n g.held) g.store c.least.result (sym c.in_ok-room.ensures) in
    let l : g.n ≤ min (length g.order.now) g.shortest = rw (← m) p.each_long in
    record { n_bound = p.sizes.cols_few; n_in_bounds = omega arith }

pub returns-then-is_permutation : goal.returns-then-is_permutation
unfolding first_of
returns-then-is_permutation c =
    let g = c.args in
    let ts = room_tests (state_of g.m g.n g.held) g.store (min (length g.order.now) g.shortest) in
    let us = order_test (state_of g.m g.n g.held) g.order.now ∷ [] in
    let e : 0 ≡ first_of ts = rw (← c.least.ensures) c.in_ok-room.ensures in
    sym (went_on ts us _ refl e refl ∙ test_passed (order_test (state_of g.m g.n g.held) g.order.now) [] (ap not (sym c.is_permutation.ensures ∙ c.if-is_permutation.true)))

pub returns-else-is_permutation : goal.returns-else-is_permutation
returns-else-is_permutation c =
    let g = c.args in
    let ts = room_tests (state_of g.m g.n g.held) g.store (min (length g.order.now) g.shortest) in
    let us = order_test (state_of g.m g.n g.held) g.order.now ∷ [] in
    let e : 0 ≡ first_of ts = rw (← c.least.ensures) c.in_ok-room.ensures in
    sym (went_on ts us _ refl e refl ∙ test_met (order_test (state_of g.m g.n g.held) g.order.now) [] (ap not (sym c.is_permutation.ensures ∙ c.if-is_permutation.false)))
