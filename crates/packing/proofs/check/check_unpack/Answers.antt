use Prim.Native.Nat.{min}
use mathlib.Core.Path.{◌≡◌, refl, sym, ap, ◌∙◌}
use mathlib.Core.Bool.{not}
use mathlib.Core.List.{[], ◌∷◌}
use native.Mathlib.Omega.{arith}
use lib.ListN.{length, take}
use lib.Seq.{length-take-le}
use borrow.Author.Tests.{eq-eqb, ne_eqb}
use Rattle.leaves.specs.Tests.{first_of, all_finite}
use Rattle.leaves.proofs.Insides.{one_row}
use Rattle.leaves.proofs.Refusals.{went_to, past, none_left, test_met}
use Rattle.calls.specs.Tests.{form_test, free_test}
use Rattle.calls.proofs.Counts.{failed_some, failed_none}
use Rattle.calls.proofs.Passed.{first_failed}
use Rattle.packing.specs.Packing.{pack_need}
use Rattle.packing.proofs.Lents.{lent_tests, lent, form_met, form_passed, finite_test}
use Rattle.packing.proofs.check.check_unpack.Goals as goal

pub returns-in_err-lent : goal.returns-in_err-lent
returns-in_err-lent c =
    let g = c.args in
    let ts = lent_tests g.st g.store (min g.order (length g.places.now)) (length g.room.now) in
    let t = form_test g.st g.places.now in
    let u = finite_test g.st g.room.now in
    let f = free_test g.st in
    first_failed ts (t ∷ u ∷ f ∷ []) _ _ c.from_residual.ensures.1 (rw (← c.least.ensures) c.in_err-lent.ensures)

pub returns-then-is_err : goal.returns-then-is_err
returns-then-is_err c =
    let g = c.args in
    let ts = lent_tests g.st g.store (min g.order (length g.places.now)) (length g.room.now) in
    let t = form_test g.st g.places.now in
    let u = finite_test g.st g.room.now in
    let f = free_test g.st in
    let e : 0 ≡ first_of ts = rw (← c.least.ensures) c.in_ok-lent.ensures in
    let p = lent g.st g.store (min g.order (length g.places.now)) (length g.room.now) (sym e) in
    let l = p.each_long in
    let h = form_met g.st.n g.st.marks g.places.now (one_row p.sizes) p.none_past (omega arith) (failed_some _ (sym c.if-is_err.ensures.value) c.form.ensures) in
    went_to ts (t ∷ u ∷ f ∷ []) refl e refl (sym (test_met t (u ∷ f ∷ []) h))

pub pack_need-need-requires : goal.pack_need-need-requires
pack_need-need-requires c =
    let g = c.args in
    let ts = lent_tests g.st g.store (min g.order (length g.places.now)) (length g.room.now) in
    let e : 0 ≡ first_of ts = rw (← c.least.ensures) c.in_ok-lent.ensures in
    let p = lent g.st g.store (min g.order (length g.places.now)) (length g.room.now) (sym e) in
    p.sizes.cols_few

pub slice_bounds-all_finite-end : goal.slice_bounds-all_finite-end
slice_bounds-all_finite-end c =
    let g = c.args in
    let ts = lent_tests g.st g.store (min g.order (length g.places.now)) (length g.room.now) in
    let e : 0 ≡ first_of ts = rw (← c.least.ensures) c.in_ok-lent.ensures in
    let p = lent g.st g.store (min g.order (length g.places.now)) (length g.room.now) (sym e) in
    let r = p.room_long in
    let q = c.pack_need-need.ensures in
    sym (length-take-le c.pack_need-need.result g.room.now (omega arith))

pub returns-then-not-all_finite : goal.returns-then-not-all_finite
returns-then-not-all_finite c =
    let g = c.args in
    let ts = lent_tests g.st g.store (min g.order (length g.places.now)) (length g.room.now) in
    let t = form_test g.st g.places.now in
    let u = finite_test g.st g.room.now in
    let f = free_test g.st in
    let e : 0 ≡ first_of ts = rw (← c.least.ensures) c.in_ok-lent.ensures in
    let p = lent g.st g.store (min g.order (length g.places.now)) (length g.room.now) (sym e) in
    let l = p.each_long in
    let h = form_passed g.st.n g.st.marks g.places.now (one_row p.sizes) p.none_past (omega arith) (failed_none _ (sym c.if-is_err.ensures.value) c.form.ensures) in
    let a : all_finite (take (pack_need g.st.n) g.room.now) ≡ c.all_finite.result = rw (← c.pack_need-need.ensures) (sym c.all_finite.ensures) in
    went_to ts (t ∷ u ∷ f ∷ []) refl e refl (past t (u ∷ f ∷ []) h (sym (test_met u (f ∷ []) (ap not a ∙ (ap not c.if-not-all_finite.true)))))

pub returns-then-free_count-eq0 : goal.returns-then-free_count-eq0
returns-then-free_count-eq0 c =
    let g = c.args in
    let ts = lent_tests g.st g.store (min g.order (length g.places.now)) (length g.room.now) in
    let t = form_test g.st g.places.now in
    let u = finite_test g.st g.room.now in
    let f = free_test g.st in
    let e : 0 ≡ first_of ts = rw (← c.least.ensures) c.in_ok-lent.ensures in
    let p = lent g.st g.store (min g.order (length g.places.now)) (length g.room.now) (sym e) in
    let l = p.each_long in
    let h = form_passed g.st.n g.st.marks g.places.now (one_row p.sizes) p.none_past (omega arith) (failed_none _ (sym c.if-is_err.ensures.value) c.form.ensures) in
    let a : all_finite (take (pack_need g.st.n) g.room.now) ≡ c.all_finite.result = rw (← c.pack_need-need.ensures) (sym c.all_finite.ensures) in
    went_to ts (t ∷ u ∷ f ∷ []) refl e refl
    (past t (u ∷ f ∷ []) h (past u (f ∷ []) (ap not a ∙ (ap not c.if-not-all_finite.false)) (sym (test_met f [] (eq-eqb _ 0 (sym c.free_count.ensures ∙ c.if-free_count-eq0.true))))))

pub returns-else-free_count-eq0 : goal.returns-else-free_count-eq0
returns-else-free_count-eq0 c =
    let g = c.args in
    let ts = lent_tests g.st g.store (min g.order (length g.places.now)) (length g.room.now) in
    let t = form_test g.st g.places.now in
    let u = finite_test g.st g.room.now in
    let f = free_test g.st in
    let e : 0 ≡ first_of ts = rw (← c.least.ensures) c.in_ok-lent.ensures in
    let p = lent g.st g.store (min g.order (length g.places.now)) (length g.room.now) (sym e) in
    let l = p.each_long in
    let h = form_passed g.st.n g.st.marks g.places.now (one_row p.sizes) p.none_past (omega arith) (failed_none _ (sym c.if-is_err.ensures.value) c.form.ensures) in
    let a : all_finite (take (pack_need g.st.n) g.room.now) ≡ c.all_finite.result = rw (← c.pack_need-need.ensures) (sym c.all_finite.ensures) in
    went_to ts (t ∷ u ∷ f ∷ []) refl e refl
    (past t (u ∷ f ∷ []) h (past u (f ∷ []) (ap not a ∙ (ap not c.if-not-all_finite.false)) (past f [] (ne_eqb _ 0 (λ x. c.if-free_count-eq0.false (c.free_count.ensures ∙ x))) none_left)))
