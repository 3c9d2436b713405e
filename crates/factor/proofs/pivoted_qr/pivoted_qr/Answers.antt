use mathlib.Core.Path.{sym, ◌∙◌}
use lib.ListN.{length}
use borrow.Author.Rules.{rules}
use Rattle.factor.proofs.Answers.{passed_check}
use Rattle.factor.proofs.pivoted_qr.Factorings.{factoring-refused, factoring-answered, factoring_broken}
use Rattle.factor.proofs.Passed.{factor_passed, factor_inside}
use Rattle.factor.proofs.pivoted_qr.pivoted_qr.Goals as goal

pub returns-in-Err : goal.returns-in-Err
returns-in-Err c =
    let g = c.args in
    rw c.empty.ensures (factoring-refused g.m g.n g.jacobian.now g.residuals.now g.store.now g.order.now g.bench.now _ c.in-Err.ensures)

pub invariant_of-qr : goal.invariant_of-qr
invariant_of-qr c =
    let g = c.args in
    let z = sym (passed_check _ c.check_factor.ensures c.in_default.not-Err) in
    let p = factor_passed g.m g.n g.jacobian.now g.residuals.now (length g.store.now) (length g.order.now) (length g.bench.now) z in
    record { sizes = factor_inside g.m g.n g.jacobian.now g.residuals.now (length g.store.now) (length g.order.now) (length g.bench.now) z; store_long = p.store_long; order_long = p.order_long; bench_long = p.bench_long }

pub factor_working-answer-requires : goal.factor_working-answer-requires
factor_working-answer-requires c =
    let g = c.args in
    let p = factor_passed g.m g.n g.jacobian.now g.residuals.now (length g.store.now) (length g.order.now) (length g.bench.now) (sym (passed_check _ c.check_factor.ensures c.in_default.not-Err)) in
    record { jacobian_long = p.jacobian_long; residuals_long = p.residuals_long }

pub returns-then-is_ok : goal.returns-then-is_ok
returns-then-is_ok c =
    let g = c.args in
    factoring-answered g.m g.n g.jacobian.now g.residuals.now g.store.now g.order.now g.bench.now _ (passed_check _ c.check_factor.ensures c.in_default.not-Err) (sym c.is_ok.ensures.value ∙ c.if-is_ok.true) c.factor_working-answer.ensures.whole (search rules) (search rules) (search rules)

pub returns-else-is_ok : goal.returns-else-is_ok
returns-else-is_ok c =
    let g = c.args in
    rw c.empty-state.ensures (factoring_broken g.m g.n g.jacobian.now g.residuals.now g.store.now g.order.now g.bench.now _ (passed_check _ c.check_factor.ensures c.in_default.not-Err) (sym c.is_ok.ensures.value ∙ c.if-is_ok.false) c.factor_working-answer.ensures.whole (search rules) (search rules) (search rules))
