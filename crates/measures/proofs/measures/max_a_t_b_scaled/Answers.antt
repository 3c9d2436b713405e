use mathlib.Core.Path.{refl}
use lib.ListN.{length}
use Rattle.leaves.proofs.Replies.{refusal_number-some}
use Rattle.factor.proofs.Copied.{rested_by_lem}
use Rattle.measures.proofs.Asked.{rest_granted}
use Rattle.measures.proofs.Measured.{one_inside, ordered_form, gradient_passed, gradient-refused, gradient-worked}
use Rattle.measures.proofs.measures.max_a_t_b_scaled.Goals as goal

pub returns-in-Err : goal.returns-in-Err
returns-in-Err c =
    let g = c.args in
    gradient-refused g.st g.order.now g.bnorm g.store.now c.in-Err.ensures (refusal_number-some c.in-Err.no)

pub invariant_of-problem : goal.invariant_of-problem
invariant_of-problem c =
    let g = c.args in
    let f = ordered_form g.st g.store.now g.order.now (length g.order.now) (gradient_passed g.st (length g.store.now) g.order.now g.bnorm c.in_default.ensures refl) in
    record { some = f.some; sized = f.sized; names = f.names }

pub unwrap-requires : goal.unwrap-requires
unwrap-requires c =
    let g = c.args in
    let f = ordered_form g.st g.store.now g.order.now (length g.order.now) (gradient_passed g.st (length g.store.now) g.order.now g.bnorm c.in_default.ensures refl) in
    rest_granted (one_inside f.some f.sized) g.store.now f.sized c.rest.result c.rest.ensures

pub returns : goal.returns
returns c =
    let g = c.args in
    let f = ordered_form g.st g.store.now g.order.now (length g.order.now) (gradient_passed g.st (length g.store.now) g.order.now g.bnorm c.in_default.ensures refl) in
    gradient-worked g.st g.order.now g.bnorm g.store.now c.in_default.ensures refl c.max_a_t_b_scaled-answer.ensures (rested_by_lem (one_inside f.some f.sized) g.store.now f.sized c.rest.ensures)
