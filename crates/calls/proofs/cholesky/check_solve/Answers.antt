-- the tests of the order list, with the shorter of the two lent slices
use mathlib.Core.Path.{◌≡◌, refl, sym, ap, ◌∙◌}
use Prim.Native.Nat.{ℕ, min}
use native.Mathlib.Omega.{arith}
use mathlib.Core.Bool.{not}
use mathlib.Core.List.{List, [], ◌∷◌}
use lib.ListN.{length}
use lib.Seq.{length-take-le}
use Rattle.leaves.specs.Tests.{first_of}
use Rattle.factor.specs.Tests.{held_test, finite_test}
use Rattle.leaves.proofs.Refusals.{went_to, past, test_met}
use Rattle.calls.specs.declared.state.State.{State}
use Rattle.calls.specs.State.{whole}
use Rattle.calls.specs.Tests.{marked_solve_tests, free_test}
use Rattle.calls.proofs.Helds.{each_fits}
use Rattle.calls.proofs.Passed.{first_failed}
use Rattle.calls.proofs.cholesky.check_solve.Goals as goal

by_shorter : (st : State) (store : ℕ) (order : List ℕ) {c k l : ℕ} → c ≡ first_of (marked_solve_tests st store order k) → k ≡ l → c ≡ first_of (marked_solve_tests st store order l)
by_shorter st store order e h = e ∙ ap (λ (s : ℕ). first_of (marked_solve_tests st store order s)) h

pub returns-in_err-ordered : goal.returns-in_err-ordered
returns-in_err-ordered c =
    let g = c.args in
    let ts = marked_solve_tests g.st g.store g.order.now (min (length g.rhs.now) g.out) in
    let us = held_test (whole g.st) ∷ finite_test (whole g.st) g.rhs.now ∷ free_test g.st ∷ [] in
    first_failed ts us _ _ c.from_residual.ensures.1 (by_shorter g.st g.store g.order.now c.in_err-ordered.ensures c.least.ensures)

pub returns-then-is_nothing : goal.returns-then-is_nothing
returns-then-is_nothing c =
    let g = c.args in
    let ts = marked_solve_tests g.st g.store g.order.now (min (length g.rhs.now) g.out) in
    let t = held_test (whole g.st) in
    let us = finite_test (whole g.st) g.rhs.now ∷ free_test g.st ∷ [] in
    went_to ts (t ∷ us) refl (by_shorter g.st g.store g.order.now c.in_ok-ordered.ensures c.least.ensures) refl
    (sym (test_met t us (sym c.is_nothing.ensures ∙ c.if-is_nothing.true)))

pub slice_bounds-all_finite-end : goal.slice_bounds-all_finite-end
slice_bounds-all_finite-end c =
    let g = c.args in
    let e = by_shorter g.st g.store g.order.now c.in_ok-ordered.ensures c.least.ensures in
    let l = each_fits g.st g.store g.order.now (min (length g.rhs.now) g.out) (sym e) in
    sym (length-take-le g.st.n g.rhs.now (omega arith))

pub returns-then-not-all_finite : goal.returns-then-not-all_finite
returns-then-not-all_finite c =
    let g = c.args in
    let ts = marked_solve_tests g.st g.store g.order.now (min (length g.rhs.now) g.out) in
    let t = held_test (whole g.st) in
    let f = finite_test (whole g.st) g.rhs.now in
    let us = free_test g.st ∷ [] in
    went_to ts (t ∷ f ∷ us) refl (by_shorter g.st g.store g.order.now c.in_ok-ordered.ensures c.least.ensures) refl
    (past t (f ∷ us) (sym c.is_nothing.ensures ∙ c.if-is_nothing.false) (sym (test_met f us (ap not (sym c.all_finite.ensures) ∙ (ap not c.if-not-all_finite.true)))))

pub returns : goal.returns
returns c =
    let g = c.args in
    let ts = marked_solve_tests g.st g.store g.order.now (min (length g.rhs.now) g.out) in
    let t = held_test (whole g.st) in
    let f = finite_test (whole g.st) g.rhs.now in
    let us = free_test g.st ∷ [] in
    went_to ts (t ∷ f ∷ us) refl (by_shorter g.st g.store g.order.now c.in_ok-ordered.ensures c.least.ensures) refl
    (past t (f ∷ us) (sym c.is_nothing.ensures ∙ c.if-is_nothing.false) (past f us (ap not (sym c.all_finite.ensures) ∙ (ap not c.if-not-all_finite.false)) c.some_free.ensures))
