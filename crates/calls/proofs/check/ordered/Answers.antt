use mathlib.Core.Path.{◌≡◌, refl, sym, ap, ◌∙◌}
use mathlib.Core.Bool.{true, false, not}
use mathlib.Core.List.{[], ◌∷◌}
use Prim.Native.Nat.{◌≤◌, min}
use native.Mathlib.Omega.{arith}
use lib.ListN.{length}
use Rattle.leaves.specs.Tests.{first_of}
use Rattle.leaves.proofs.Refusals.{went_on, test_met, test_passed}
use Rattle.calls.specs.State.{cols}
use Rattle.calls.specs.Tests.{marked_room_tests, is_order, form_test}
use Rattle.calls.proofs.Passed.{first_failed, free_count-fits}
use Rattle.calls.proofs.Counts.{room_passed}
use Rattle.calls.proofs.check.ordered.Goals as goal

pub returns-in_err-room : goal.returns-in_err-room
returns-in_err-room c =
    let g = c.args in
    let ts = marked_room_tests g.st g.store (min (length g.order.now) g.shortest) in
    let us = form_test g.st g.order.now ∷ [] in
    first_failed ts us _ _ c.from_residual.ensures.1 (rw (← c.least.ensures) c.in_err-room.ensures)

pub is_order-requires : goal.is_order-requires
is_order-requires c =
    let g = c.args in
    let m = c.least.ensures in
    let p = room_passed g.st g.store c.least.result (sym c.in_ok-room.ensures) in
    let l : g.st.n ≤ min (length g.order.now) g.shortest = rw (← m) p.1 in
    (rw c.free_count.ensures (free_count-fits g.st.n g.st.marks), p.0, omega arith)

pub returns-then-is_order : goal.returns-then-is_order
unfolding first_of
returns-then-is_order c =
    let g = c.args in
    let ts = marked_room_tests g.st g.store (min (length g.order.now) g.shortest) in
    let us = form_test g.st g.order.now ∷ [] in
    let e : 0 ≡ first_of ts = rw (← c.least.ensures) c.in_ok-room.ensures in
    let o : is_order (cols g.st) g.st.n g.order.now ≡ true = rw (← c.free_count.ensures) (sym c.is_order.ensures ∙ c.if-is_order.true) in
    sym (went_on ts us _ refl e refl ∙ test_passed (form_test g.st g.order.now) [] (ap not o))

pub returns-else-is_order : goal.returns-else-is_order
returns-else-is_order c =
    let g = c.args in
    let ts = marked_room_tests g.st g.store (min (length g.order.now) g.shortest) in
    let us = form_test g.st g.order.now ∷ [] in
    let e : 0 ≡ first_of ts = rw (← c.least.ensures) c.in_ok-room.ensures in
    let o : is_order (cols g.st) g.st.n g.order.now ≡ false = rw (← c.free_count.ensures) (sym c.is_order.ensures ∙ c.if-is_order.false) in
    sym (went_on ts us _ refl e refl ∙ test_met (form_test g.st g.order.now) [] (ap not o))
