use mathlib.Core.Path.{refl, ◌∙◌}
use native.Mathlib.Omega.{arith}
use Prim.Native.Nat.{min}
use lib.ListN.{length}
use borrow.Author.Rules.{rules}
use Rattle.factor.proofs.least_squares.Outcomes.{solvable_before, damped_call-refused, damped_call-answered, damped_call_broken}
use Rattle.factor.proofs.Answers.{passed_check}
use Rattle.factor.proofs.least_squares.solve_with_diagonal.Goals as goal

pub returns-in-Err : goal.returns-in-Err
returns-in-Err c =
    let g = c.args in
    damped_call-refused g.st g.diag.now g.order.now g.store.now g.out.now _ c.in-Err.ensures

pub invariant_of-p : goal.invariant_of-p
invariant_of-p c =
    let g = c.args in
    let s = solvable_before g.st g.store.now g.order.now (min (length g.diag.now) (length g.out.now)) g.diag.now (passed_check _ c.check_damped.ensures c.in_default.not-Err) in
    record { some = s.some; sized = s.sized }

pub invariant_of-damped_finite : goal.invariant_of-damped_finite
invariant_of-damped_finite c =
    let g = c.args in
    record { names = (solvable_before g.st g.store.now g.order.now (min (length g.diag.now) (length g.out.now)) g.diag.now (passed_check _ c.check_damped.ensures c.in_default.not-Err)).named }

pub damped_finite-requires : goal.damped_finite-requires
damped_finite-requires c =
    let g = c.args in
    let l = (solvable_before g.st g.store.now g.order.now (min (length g.diag.now) (length g.out.now)) g.diag.now (passed_check _ c.check_damped.ensures c.in_default.not-Err)).each_long in
    record { same_n = refl; n_in_bounds = (omega arith, omega arith) }

pub returns-then-damped_finite : goal.returns-then-damped_finite
returns-then-damped_finite c =
    let g = c.args in
    let x = c.damped_finite in
    damped_call-answered g.st g.diag.now g.order.now g.store.now g.out.now (passed_check _ c.check_damped.ensures c.in_default.not-Err) x.ensures.value c.if-damped_finite.true c.with_held.ensures (search rules ∙ x.ensures.cells) x.ensures.out_after

pub returns : goal.returns
returns c =
    let g = c.args in
    let x = c.damped_finite in
    damped_call_broken g.st g.diag.now g.order.now g.store.now g.out.now (passed_check _ c.check_damped.ensures c.in_default.not-Err) x.ensures.value c.if-damped_finite.false c.with_held-2.ensures (search rules ∙ x.ensures.cells) x.ensures.out_after
