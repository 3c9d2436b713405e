use mathlib.Core.Path.{refl}
use Rattle.leaves.proofs.Replies.{refusal_number-some}
use Rattle.factor.proofs.Copied.{rested_by_lem}
use Rattle.measures.proofs.Asked.{rest_granted}
use Rattle.measures.proofs.Measured.{rank_inside, rank_sized, singular_refused, singular_worked}
use Rattle.measures.proofs.measures.is_non_singular.Goals as goal

pub returns-in-Err : goal.returns-in-Err
returns-in-Err c =
    let g = c.args in
    singular_refused g.st g.store.now c.in-Err.ensures (refusal_number-some c.in-Err.no)

pub unwrap-requires : goal.unwrap-requires
unwrap-requires c =
    let g = c.args in
    let r = c.in_default.ensures in
    rest_granted (rank_inside g.st g.store.now r refl) g.store.now (rank_sized g.st g.store.now r refl) c.rest.result c.rest.ensures

pub returns : goal.returns
returns c =
    let g = c.args in
    let r = c.in_default.ensures in
    let i = rank_inside g.st g.store.now r refl in
    let s = rank_sized g.st g.store.now r refl in
    singular_worked g.st g.store.now r refl c.full_rank-answer.ensures (rested_by_lem i g.store.now s c.rest.ensures)
