use mathlib.Core.Path.{refl, sym, ◌∙◌}
use mathlib.Core.List.{[], ◌∷◌}
use native.Mathlib.Omega.{arith}
use lib.Dec.{ltb}
use borrow.Author.Tests.{lt-ltb, le-ltb}
use Rattle.leaves.specs.Tests.{Test, first_of}
use Rattle.factor.specs.State.{bench_need}
use Rattle.factor.specs.Tests.{size_tests}
use Rattle.leaves.proofs.Refusals.{passed_iff, stopped, went_on, test_met, test_passed}
use Rattle.leaves.proofs.Insides.{inside, jacobian_small}
use Rattle.leaves.proofs.Replies.{refusal_number-some}
use Rattle.factor.proofs.Answers.{handed_on}
use Rattle.factor.proofs.filled.check_filled.Goals as goal

pub returns-in_err-sizes : goal.returns-in_err-sizes
returns-in_err-sizes c =
    let g = c.args in
    rw (handed_on _ _ c.from_residual.ensures.1) (sym (stopped (size_tests g.m g.n g.store g.order) ((ltb g.bench (bench_need g.m g.n), 3) ∷ []) _ c.in_err-sizes.ensures (refusal_number-some _)))

pub overflow_mul-m : goal.overflow_mul-m
overflow_mul-m c =
    let g = c.args in
    let i = inside g.m g.n ((passed_iff (size_tests g.m g.n g.store g.order) refl).0 (sym c.in_ok-sizes.ensures)).0 in
    omega (arith, jacobian_small i)

pub overflow_add-m : goal.overflow_add-m
overflow_add-m c =
    let g = c.args in
    let i = inside g.m g.n ((passed_iff (size_tests g.m g.n g.store g.order) refl).0 (sym c.in_ok-sizes.ensures)).0 in
    omega (arith, jacobian_small i, i.rows_few)

pub returns-then-bench-m : goal.returns-then-bench-m
returns-then-bench-m c =
    let g = c.args in
    let t : Test = (ltb g.bench (bench_need g.m g.n), 3) in
    sym (went_on (size_tests g.m g.n g.store g.order) (t ∷ []) _ refl c.in_ok-sizes.ensures refl ∙ test_met t [] (lt-ltb _ _ c.if-bench-m.true))

pub returns-else-bench-m : goal.returns-else-bench-m
unfolding first_of
returns-else-bench-m c =
    let g = c.args in
    let t : Test = (ltb g.bench (bench_need g.m g.n), 3) in
    sym (went_on (size_tests g.m g.n g.store g.order) (t ∷ []) _ refl c.in_ok-sizes.ensures refl ∙ test_passed t [] (le-ltb _ _ c.if-bench-m.false))
