use mathlib.Core.Path.{refl, sym, ◌∙◌}
use borrow.Author.Rules.{rules}
use borrow.Author.Tests.{eq-eqb, ne_eqb}
use lib.ListN.{length}
use lib.Seq.{length-take-le}
use Rattle.leaves.specs.Tests.{first_of}
use Rattle.leaves.proofs.Insides.{inside, jacobian_small}
use Rattle.leaves.proofs.Refusals.{went_to}
use Rattle.calls.specs.inner.Factorable.{length_tests}
use Rattle.calls.proofs.Factors.{lengths_passed, later_tests}
use Rattle.calls.proofs.Passed.{first_failed}
use Rattle.calls.proofs.pivoted_qr.check_factor.Goals as goal

pub returns-in_err-check_lengths : goal.returns-in_err-check_lengths
returns-in_err-check_lengths c =
    let g = c.args in
    first_failed (length_tests g.m g.n g.marks (length g.jacobian.now) (length g.residuals.now) g.store g.order g.bench) (later_tests g.m g.n g.marks g.jacobian.now g.residuals.now g.store g.order g.bench) _ _ c.from_residual.ensures.1 c.in_err-check_lengths.ensures

pub overflow_mul-mn : goal.overflow_mul-mn
overflow_mul-mn c =
    let g = c.args in
    let p = lengths_passed g.m g.n g.marks (length g.jacobian.now) (length g.residuals.now) g.store g.order g.bench (sym c.in_ok-check_lengths.ensures) in
    let j = jacobian_small (inside g.m g.n p.inside) in
    search rules

pub slice_bounds-all_finite-end : goal.slice_bounds-all_finite-end
slice_bounds-all_finite-end c =
    let g = c.args in
    let p = lengths_passed g.m g.n g.marks (length g.jacobian.now) (length g.residuals.now) g.store g.order g.bench (sym c.in_ok-check_lengths.ensures) in
    sym (length-take-le _ _ p.jacobian_long)

pub returns-then-not-all_finite : goal.returns-then-not-all_finite
unfolding first_of
returns-then-not-all_finite c =
    let g = c.args in
    went_to (length_tests g.m g.n g.marks (length g.jacobian.now) (length g.residuals.now) g.store g.order g.bench) (later_tests g.m g.n g.marks g.jacobian.now g.residuals.now g.store g.order g.bench) refl c.in_ok-check_lengths.ensures refl (rw (sym c.all_finite.ensures ∙ c.if-not-all_finite.true, first_of) refl)

pub slice_bounds-all_finite-end-2 : goal.slice_bounds-all_finite-end-2
slice_bounds-all_finite-end-2 c =
    let g = c.args in
    let p = lengths_passed g.m g.n g.marks (length g.jacobian.now) (length g.residuals.now) g.store g.order g.bench (sym c.in_ok-check_lengths.ensures) in
    sym (length-take-le _ _ p.residuals_long)

pub returns-then-not-all_finite-2 : goal.returns-then-not-all_finite-2
unfolding first_of
returns-then-not-all_finite-2 c =
    let g = c.args in
    went_to (length_tests g.m g.n g.marks (length g.jacobian.now) (length g.residuals.now) g.store g.order g.bench) (later_tests g.m g.n g.marks g.jacobian.now g.residuals.now g.store g.order g.bench) refl c.in_ok-check_lengths.ensures refl (rw (sym c.all_finite.ensures ∙ c.if-not-all_finite.false, sym c.all_finite-2.ensures ∙ c.if-not-all_finite-2.true, first_of) refl)

pub returns-then-free_count-eq0 : goal.returns-then-free_count-eq0
unfolding first_of
returns-then-free_count-eq0 c =
    let g = c.args in
    went_to (length_tests g.m g.n g.marks (length g.jacobian.now) (length g.residuals.now) g.store g.order g.bench) (later_tests g.m g.n g.marks g.jacobian.now g.residuals.now g.store g.order g.bench) refl c.in_ok-check_lengths.ensures refl (rw (sym c.all_finite.ensures ∙ c.if-not-all_finite.false, sym c.all_finite-2.ensures ∙ c.if-not-all_finite-2.false, eq-eqb _ 0 (sym c.free_count.ensures ∙ c.if-free_count-eq0.true), first_of) refl)

pub returns-else-free_count-eq0 : goal.returns-else-free_count-eq0
unfolding first_of
returns-else-free_count-eq0 c =
    let g = c.args in
    went_to (length_tests g.m g.n g.marks (length g.jacobian.now) (length g.residuals.now) g.store g.order g.bench) (later_tests g.m g.n g.marks g.jacobian.now g.residuals.now g.store g.order g.bench) refl c.in_ok-check_lengths.ensures refl (rw (sym c.all_finite.ensures ∙ c.if-not-all_finite.false, sym c.all_finite-2.ensures ∙ c.if-not-all_finite-2.false, ne_eqb _ 0 (λ e. c.if-free_count-eq0.false (c.free_count.ensures ∙ e)), first_of) refl)
