use lib.ListN.{length}
use Rattle.factor.specs.declared.state.State.{State as Plain}
use Rattle.measures.specs.Measures as plain
use Rattle.calls.specs.State.{without_frozen}
use Rattle.calls.specs.Outcome.{narrowed_in}
use Rattle.calls.specs.Measures.{marked_determined}
use Rattle.calls.proofs.Measured.{rank_tests, rank_ready}
use Rattle.calls.proofs.Resting.{counted_in, rest_unmarked, rest_refused, rest_worked, rest_granted}
use Rattle.calls.proofs.measure.determined.Goals as goal

pub returns-then-marks-eq0 : goal.returns-then-marks-eq0
unfolding marked_determined
returns-then-marks-eq0 c =
    let g = c.args in
    let s = g.store.now in
    rest_unmarked g.st s (rank_tests g.st (length s)) (λ (p : Plain). plain.determined_call p s) (plain.determined_call (without_frozen g.st) (narrowed_in g.st s))
    c.if-marks-eq0.true c.whole.ensures c.determined-t.ensures c.marked.ensures

pub returns-in-Err : goal.returns-in-Err
unfolding marked_determined
returns-in-Err c =
    let g = c.args in
    let s = g.store.now in
    rest_refused g.st s (rank_tests g.st (length s)) (λ (p : Plain). plain.determined_call p s) (plain.determined_call (without_frozen g.st) (narrowed_in g.st s))
    _ c.if-marks-eq0.false c.in-Err.ensures

pub invariant_of-p : goal.invariant_of-p
invariant_of-p c =
    let g = c.args in
    record { reducible = counted_in (rank_ready g.st g.store.now c.in_default.ensures) c.free_count-free.ensures }

pub unwrap-requires : goal.unwrap-requires
unwrap-requires c =
    let g = c.args in
    rest_granted (rank_ready g.st g.store.now c.in_default.ensures) c.rest.result c.rest.ensures

pub returns : goal.returns
unfolding marked_determined
returns c =
    let g = c.args in
    let s = g.store.now in
    rest_worked g.st s (rank_tests g.st (length s)) (λ (p : Plain). plain.determined_call p s) (plain.determined_call (without_frozen g.st) (narrowed_in g.st s))
    (rank_ready g.st g.store.now c.in_default.ensures) c.rest.result c.rest.ensures c.if-marks-eq0.false c.in_default.ensures c.determined-answer.ensures
