use borrow.Author.Rules.{rules}
use mathlib.Core.Path.{refl, sym, ◌∙◌}
use lib.Ieee.{of_bits}
use lib.ListN.{take}
use lib.Seq.{length-take-le}
use Rattle.leaves.specs.Norm.{ranges_of}
use Rattle.factor.specs.Room.{load, lay, emptied}
use Rattle.search.specs.Measured.{measured_by}
use Rattle.search.specs.Search.{problem_of, answer_of}
use Rattle.leaves.proofs.Replies.{refusal_number-some}
use Rattle.leaves.proofs.Overs.{lent_fits, lent_long}
use Rattle.search.proofs.Workings.{order_long, order_below}
use Rattle.search.proofs.Calling.{call_is_refused, few, diag_long, out_long, ready, lent_back, call_is_run}
use Rattle.search.proofs.trust_region.determine_lambda_and_parameter_update.Goals as goal

pub returns-in-Err : goal.returns-in-Err
returns-in-Err c =
    let g = c.args in
    call_is_refused g.st g.store.now g.order.now g.diag.now g.radius g.lambda g.out.now c.in-Err.ensures (refusal_number-some c.in-Err.no)

pub slice_bounds-region-end : goal.slice_bounds-region-end
slice_bounds-region-end c =
    let g = c.args in
    sym (length-take-le g.st.n g.diag.now (diag_long g.st g.store.now g.order.now g.diag.now g.radius g.lambda g.out.now c.in_default.ensures refl))

pub slice_bounds-v-end : goal.slice_bounds-v-end
unfolding of_bits
slice_bounds-v-end c =
    let g = c.args in
    lent_fits g.st.n _ c.filled-v.ensures (few g.st g.store.now g.order.now g.diag.now g.radius g.lambda g.out.now c.in_default.ensures refl)

pub slice_bounds-region-end-2 : goal.slice_bounds-region-end-2
unfolding of_bits
slice_bounds-region-end-2 c =
    let g = c.args in
    sym (lent_long g.st.n _ c.filled-v.ensures (few g.st g.store.now g.order.now g.diag.now g.radius g.lambda g.out.now c.in_default.ensures refl))

pub slice_bounds-w-end : goal.slice_bounds-w-end
unfolding of_bits
slice_bounds-w-end c =
    let g = c.args in
    lent_fits g.st.n _ c.filled-w.ensures (few g.st g.store.now g.order.now g.diag.now g.radius g.lambda g.out.now c.in_default.ensures refl)

pub slice_bounds-region-end-3 : goal.slice_bounds-region-end-3
unfolding of_bits
slice_bounds-region-end-3 c =
    let g = c.args in
    sym (lent_long g.st.n _ c.filled-w.ensures (few g.st g.store.now g.order.now g.diag.now g.radius g.lambda g.out.now c.in_default.ensures refl))

pub slice_bounds-run_into-end : goal.slice_bounds-run_into-end
slice_bounds-run_into-end c =
    let g = c.args in
    out_long g.st g.store.now g.order.now g.diag.now g.radius g.lambda g.out.now c.in_default.ensures refl

pub slice_bounds-run_into-end-2 : goal.slice_bounds-run_into-end-2
slice_bounds-run_into-end-2 c =
    let g = c.args in
    sym (length-take-le g.st.n g.out.now (out_long g.st g.store.now g.order.now g.diag.now g.radius g.lambda g.out.now c.in_default.ensures refl))

pub invariant_of-region : goal.invariant_of-region
invariant_of-region c =
    let g = c.args in
    let p = ready g.st g.store.now g.order.now g.diag.now g.radius g.lambda g.out.now c.in_default.ensures refl in
    record { names = record { long = order_long g.st g.store.now g.order.now p; below = order_below g.st g.store.now g.order.now p } }

pub invariant_of-region-2 : goal.invariant_of-region-2
unfolding of_bits
invariant_of-region-2 c =
    let g = c.args in
    let f = few g.st g.store.now g.order.now g.diag.now g.radius g.lambda g.out.now c.in_default.ensures refl in
    record {
      ready = ready g.st g.store.now g.order.now g.diag.now g.radius g.lambda g.out.now c.in_default.ensures refl;
      order_n = refl;
      diag_len = length-take-le g.st.n g.diag.now (diag_long g.st g.store.now g.order.now g.diag.now g.radius g.lambda g.out.now c.in_default.ensures refl);
      v_len = lent_long g.st.n _ c.filled-v.ensures f;
      w_len = lent_long g.st.n _ c.filled-w.ensures f;
    }

pub run_into-answer-requires : goal.run_into-answer-requires
run_into-answer-requires c =
    let g = c.args in
    record { out_len = length-take-le g.st.n g.out.now (out_long g.st g.store.now g.order.now g.diag.now g.radius g.lambda g.out.now c.in_default.ensures refl) }

pub returns : goal.returns
returns c =
    let g = c.args in
    let r = c.run_into-answer in
    let asked = problem_of g.st g.order.now (take g.st.n g.diag.now) g.radius (load g.st.n g.store.now) in
    let h =
    call_is_run g.st g.store.now g.order.now g.diag.now g.radius g.lambda g.out.now c.in_default.ensures refl (lent_back g.st g.st.n (lay (emptied (load g.st.n g.store.now))) g.out.now (ranges_of (measured_by asked g.lambda)) (answer_of asked g.lambda) (r.auto.out ∙ length-take-le g.st.n g.out.now (out_long g.st g.store.now g.order.now g.diag.now g.radius g.lambda g.out.now c.in_default.ensures refl)) r.ensures.ended)
    in
    search (rules, h)
