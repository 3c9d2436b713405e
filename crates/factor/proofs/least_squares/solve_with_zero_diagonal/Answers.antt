use mathlib.Core.Path.{refl, ◌∙◌}
use lib.ListN.{length}
use borrow.Author.Rules.{rules}
use Rattle.factor.proofs.least_squares.Outcomes.{solvable, zero_call-refused, zero_call-answered, zero_call_broken}
use Rattle.factor.proofs.Answers.{passed_check}
use Rattle.factor.proofs.least_squares.solve_with_zero_diagonal.Goals as goal

pub returns-in-Err : goal.returns-in-Err
returns-in-Err c =
    let g = c.args in
    zero_call-refused g.st g.order.now g.store.now g.out.now _ c.in-Err.ensures

pub invariant_of-p : goal.invariant_of-p
invariant_of-p c =
    let g = c.args in
    let s = solvable g.st g.store.now g.order.now (length g.out.now) (passed_check _ c.ordered.ensures c.in_default.not-Err) in
    record { some = s.some; sized = s.sized }

pub invariant_of-zero_finite : goal.invariant_of-zero_finite
invariant_of-zero_finite c =
    let g = c.args in
    record { names = (solvable g.st g.store.now g.order.now (length g.out.now) (passed_check _ c.ordered.ensures c.in_default.not-Err)).named }

pub zero_finite-requires : goal.zero_finite-requires
zero_finite-requires c =
    let g = c.args in
    record { same_n = refl; n_in_bounds = (solvable g.st g.store.now g.order.now (length g.out.now) (passed_check _ c.ordered.ensures c.in_default.not-Err)).each_long }

pub returns-then-zero_finite : goal.returns-then-zero_finite
returns-then-zero_finite c =
    let g = c.args in
    let x = c.zero_finite in
    zero_call-answered g.st g.order.now g.store.now g.out.now (passed_check _ c.ordered.ensures c.in_default.not-Err) x.ensures.value c.if-zero_finite.true c.with_held.ensures (search rules ∙ x.ensures.cells) x.ensures.out_after

pub returns : goal.returns
returns c =
    let g = c.args in
    let x = c.zero_finite in
    zero_call_broken g.st g.order.now g.store.now g.out.now (passed_check _ c.ordered.ensures c.in_default.not-Err) x.ensures.value c.if-zero_finite.false c.with_held-2.ensures (search rules ∙ x.ensures.cells) x.ensures.out_after
