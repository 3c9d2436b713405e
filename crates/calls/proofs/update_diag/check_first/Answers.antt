use Prim.Native.Nat.{◌≤◌, min}
use mathlib.Core.Path.{◌≡◌, refl, sym, ap, ◌∙◌}
use mathlib.Core.Bool.{not}
use mathlib.Core.List.{[], ◌∷◌}
use native.Mathlib.Omega.{arith}
use lib.ListN.{length}
use lib.Seq.{length-take-le}
use lib.Ieee.{of_bits}
use Rattle.leaves.specs.Tests.{Test, first_of}
use Rattle.leaves.proofs.Refusals.{test_met, went_to, past}
use Rattle.factor.specs.Tests.{finite_test, finite_number, not_above}
use Rattle.calls.specs.State.{whole}
use Rattle.calls.specs.Tests.{marked_room_tests, free_test}
use Rattle.calls.proofs.Measured.{room_long}
use Rattle.calls.proofs.Passed.{first_failed}
use Rattle.calls.proofs.update_diag.check_first.Goals as goal

pub returns-in_err-room : goal.returns-in_err-room
returns-in_err-room c =
    let g = c.args in
    let ts = marked_room_tests g.st g.store (min (length g.diag.now) (length g.x.now)) in
    let f = finite_test (whole g.st) g.x.now in
    let n = finite_number g.bound in
    let low : Test = (not_above g.bound, 7) in
    let us = f ∷ n ∷ low ∷ free_test g.st ∷ [] in
    first_failed ts us _ _ c.from_residual.ensures.1 (rw (← c.least.ensures) c.in_err-room.ensures)

pub slice_bounds-all_finite-end : goal.slice_bounds-all_finite-end
slice_bounds-all_finite-end c =
    let g = c.args in
    let p = room_long g.st g.store c.least.result [] refl (sym c.in_ok-room.ensures) in
    let l : g.st.n ≤ min (length g.diag.now) (length g.x.now) = rw (← c.least.ensures) p in
    sym (length-take-le g.st.n g.x.now (omega arith))

pub returns-then-not-all_finite : goal.returns-then-not-all_finite
returns-then-not-all_finite c =
    let g = c.args in
    let ts = marked_room_tests g.st g.store (min (length g.diag.now) (length g.x.now)) in
    let f = finite_test (whole g.st) g.x.now in
    let n = finite_number g.bound in
    let low : Test = (not_above g.bound, 7) in
    let us = n ∷ low ∷ free_test g.st ∷ [] in
    let e : 0 ≡ first_of ts = rw (← c.least.ensures) c.in_ok-room.ensures in
    went_to ts (f ∷ us) refl e refl (sym (test_met f us (ap not (sym c.all_finite.ensures) ∙ (ap not c.if-not-all_finite.true))))

pub returns-then-not-is_finite : goal.returns-then-not-is_finite
returns-then-not-is_finite c =
    let g = c.args in
    let ts = marked_room_tests g.st g.store (min (length g.diag.now) (length g.x.now)) in
    let f = finite_test (whole g.st) g.x.now in
    let n = finite_number g.bound in
    let low : Test = (not_above g.bound, 7) in
    let us = low ∷ free_test g.st ∷ [] in
    let e : 0 ≡ first_of ts = rw (← c.least.ensures) c.in_ok-room.ensures in
    went_to ts (f ∷ n ∷ us) refl e refl
    (past f (n ∷ us) (ap not (sym c.all_finite.ensures) ∙ (ap not c.if-not-all_finite.false)) (sym (test_met n us (ap not (sym c.is_finite.ensures) ∙ (ap not c.if-not-is_finite.true)))))

pub returns-then-bound : goal.returns-then-bound
unfolding of_bits
returns-then-bound c =
    let g = c.args in
    let ts = marked_room_tests g.st g.store (min (length g.diag.now) (length g.x.now)) in
    let f = finite_test (whole g.st) g.x.now in
    let n = finite_number g.bound in
    let low : Test = (not_above g.bound, 7) in
    let us = free_test g.st ∷ [] in
    let e : 0 ≡ first_of ts = rw (← c.least.ensures) c.in_ok-room.ensures in
    went_to ts (f ∷ n ∷ low ∷ us) refl e refl
    (past f (n ∷ low ∷ us) (ap not (sym c.all_finite.ensures) ∙ (ap not c.if-not-all_finite.false))
    (past n (low ∷ us) (ap not (sym c.is_finite.ensures) ∙ (ap not c.if-not-is_finite.false)) (sym (test_met low us c.if-bound.true))))

pub returns : goal.returns
unfolding of_bits
returns c =
    let g = c.args in
    let ts = marked_room_tests g.st g.store (min (length g.diag.now) (length g.x.now)) in
    let f = finite_test (whole g.st) g.x.now in
    let n = finite_number g.bound in
    let low : Test = (not_above g.bound, 7) in
    let us = free_test g.st ∷ [] in
    let e : 0 ≡ first_of ts = rw (← c.least.ensures) c.in_ok-room.ensures in
    went_to ts (f ∷ n ∷ low ∷ us) refl e refl
    (past f (n ∷ low ∷ us) (ap not (sym c.all_finite.ensures) ∙ (ap not c.if-not-all_finite.false))
    (past n (low ∷ us) (ap not (sym c.is_finite.ensures) ∙ (ap not c.if-not-is_finite.false)) (past low us c.if-bound.false c.some_free.ensures)))
