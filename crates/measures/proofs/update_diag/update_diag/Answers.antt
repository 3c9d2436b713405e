use mathlib.Core.Path.{refl, sym, ap, ◌∙◌}
use mathlib.Core.List.{List}
use lib.ListN.{length}
use lib.Ieee.{Float, of_bits}
use Rattle.leaves.proofs.Overs.{lent_fits, lent_long}
use Rattle.leaves.proofs.Replies.{refusal_number-some}
use Rattle.factor.proofs.Copied.{norms-copied, rested_by_lem}
use Rattle.factor.proofs.Passed.{passed_sized}
use Rattle.measures.specs.Rescale.{rescaled}
use Rattle.measures.proofs.Asked.{norms-granted, rest_granted}
use Rattle.measures.proofs.Measured.{again_fits, again_long, lent_again}
use Rattle.measures.proofs.update_diag.Rescaled.{scaling_passed, scaling_refused, scaling_worked}
use Rattle.measures.proofs.update_diag.update_diag.Goals as goal

pub returns-in-Err : goal.returns-in-Err
returns-in-Err c =
    let g = c.args in
    scaling_refused g.st g.mode g.diag.now g.x.now g.bound g.store.now c.in-Err.ensures (refusal_number-some c.in-Err.no)

pub slice_bounds-s-end : goal.slice_bounds-s-end
unfolding of_bits
slice_bounds-s-end c =
    let g = c.args in
    let p = scaling_passed g.st g.mode (length g.store.now) g.diag.now g.x.now g.bound c.in_default.ensures refl in
    lent_fits g.st.n _ c.filled-s.ensures p.0.sizes.cols_few

pub slice_bounds-norms-end : goal.slice_bounds-norms-end
unfolding of_bits
slice_bounds-norms-end c =
    let g = c.args in
    let p = scaling_passed g.st g.mode (length g.store.now) g.diag.now g.x.now g.bound c.in_default.ensures refl in
    sym (lent_long g.st.n _ c.filled-s.ensures p.0.sizes.cols_few)

pub unwrap-requires : goal.unwrap-requires
unfolding of_bits
unwrap-requires c =
    let g = c.args in
    let p = scaling_passed g.st g.mode (length g.store.now) g.diag.now g.x.now g.bound c.in_default.ensures refl in
    let z = passed_sized g.st g.store.now (length g.diag.now) p.0 in
    let w = lent_long g.st.n _ c.filled-s.ensures p.0.sizes.cols_few in
    norms-granted p.0.sizes g.store.now _ z w c.norms.result c.norms.ensures

pub slice_bounds-s-end-2 : goal.slice_bounds-s-end-2
unfolding of_bits
slice_bounds-s-end-2 c =
    let g = c.args in
    let p = scaling_passed g.st g.mode (length g.store.now) g.diag.now g.x.now g.bound c.in_default.ensures refl in
    let w = lent_long g.st.n _ c.filled-s.ensures p.0.sizes.cols_few in
    again_fits g.st.n c.filled-s.result c.norms.new.w (c.norms.auto.w ∙ w)

pub slice_bounds-rescale-end : goal.slice_bounds-rescale-end
unfolding of_bits
slice_bounds-rescale-end c =
    let g = c.args in
    let p = scaling_passed g.st g.mode (length g.store.now) g.diag.now g.x.now g.bound c.in_default.ensures refl in
    let w = lent_long g.st.n _ c.filled-s.ensures p.0.sizes.cols_few in
    sym (again_long g.st.n c.filled-s.result c.norms.new.w (c.norms.auto.w ∙ w))

pub rescale-answer-requires : goal.rescale-answer-requires
unfolding of_bits
rescale-answer-requires c =
    let g = c.args in
    let p = scaling_passed g.st g.mode (length g.store.now) g.diag.now g.x.now g.bound c.in_default.ensures refl in
    let w = lent_long g.st.n _ c.filled-s.ensures p.0.sizes.cols_few in
    record { n_bound = (p.0.sizes.cols_few, again_long g.st.n c.filled-s.result c.norms.new.w (c.norms.auto.w ∙ w)); n_in_bounds = (p.0.each_long, p.1) }

pub unwrap-requires-2 : goal.unwrap-requires-2
unwrap-requires-2 c =
    let g = c.args in
    let p = scaling_passed g.st g.mode (length g.store.now) g.diag.now g.x.now g.bound c.in_default.ensures refl in
    let z = passed_sized g.st g.store.now (length g.diag.now) p.0 in
    rest_granted p.0.sizes g.store.now z c.rest.result c.rest.ensures

pub returns : goal.returns
unfolding of_bits
returns c =
    let g = c.args in
    let p = scaling_passed g.st g.mode (length g.store.now) g.diag.now g.x.now g.bound c.in_default.ensures refl in
    let z = passed_sized g.st g.store.now (length g.diag.now) p.0 in
    let w = lent_long g.st.n _ c.filled-s.ensures p.0.sizes.cols_few in
    let s = lent_again g.st.n c.filled-s.result c.norms.new.w (c.norms.auto.w ∙ w) ∙ norms-copied p.0.sizes g.store.now _ z w c.norms.ensures in
    scaling_worked g.st g.mode g.diag.now g.x.now g.bound g.store.now c.in_default.ensures refl
    (c.rescale-answer.ensures ∙ ap (λ (l : List Float). rescaled g.mode g.st.n l g.diag.now g.x.now g.bound) s) (rested_by_lem p.0.sizes g.store.now z c.rest.ensures)
