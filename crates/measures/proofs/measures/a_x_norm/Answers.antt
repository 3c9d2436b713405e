use mathlib.Core.Path.{refl}
use lib.ListN.{length}
use lib.Ieee.{of_bits}
use Rattle.leaves.proofs.Overs.{lent_long}
use Rattle.leaves.proofs.Replies.{refusal_number-some}
use Rattle.factor.proofs.Copied.{rested_by_lem}
use Rattle.measures.proofs.Asked.{rest_granted}
use Rattle.measures.proofs.Measured.{one_inside, ordered_form, jx_passed, jx_refused, jx_worked}
use Rattle.measures.proofs.measures.a_x_norm.Goals as goal

pub returns-in-Err : goal.returns-in-Err
returns-in-Err c =
    let g = c.args in
    jx_refused g.st g.order.now g.x.now g.store.now c.in-Err.ensures (refusal_number-some c.in-Err.no)

pub invariant_of-problem : goal.invariant_of-problem
invariant_of-problem c =
    let g = c.args in
    let f = ordered_form g.st g.store.now g.order.now (length g.x.now) (jx_passed g.st (length g.store.now) g.order.now g.x.now c.in_default.ensures refl) in
    record { some = f.some; sized = f.sized; names = f.names }

pub a_x_norm-answer-requires : goal.a_x_norm-answer-requires
unfolding of_bits
a_x_norm-answer-requires c =
    let g = c.args in
    let o = jx_passed g.st (length g.store.now) g.order.now g.x.now c.in_default.ensures refl in
    (o.room.each_long, lent_long g.st.n _ c.filled-w.ensures o.room.sizes.cols_few)

pub unwrap-requires : goal.unwrap-requires
unwrap-requires c =
    let g = c.args in
    let f = ordered_form g.st g.store.now g.order.now (length g.x.now) (jx_passed g.st (length g.store.now) g.order.now g.x.now c.in_default.ensures refl) in
    rest_granted (one_inside f.some f.sized) g.store.now f.sized c.rest.result c.rest.ensures

pub returns : goal.returns
returns c =
    let g = c.args in
    let f = ordered_form g.st g.store.now g.order.now (length g.x.now) (jx_passed g.st (length g.store.now) g.order.now g.x.now c.in_default.ensures refl) in
    jx_worked g.st g.order.now g.x.now g.store.now c.in_default.ensures refl c.a_x_norm-answer.ensures (rested_by_lem (one_inside f.some f.sized) g.store.now f.sized c.rest.ensures)
