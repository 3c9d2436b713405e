use mathlib.Core.Path.{◌≡◌, sym, ◌∙◌}
use native.Mathlib.Omega.{arith}
use lib.ListN.{length, get_or, take}
use lib.Seq.{length-take-le}
use Rattle.leaves.proofs.Folds.{front_turn, front_end}
use Rattle.factor.specs.Solve.{gather}
use Rattle.factor.proofs.Solves.{gather-length}
use Rattle.search.specs.inner.Read.{turned_by}
use Rattle.search.proofs.Lists.{turned_at_lem, gathered_at}
use Rattle.search.proofs.vectors.turn_into.Goals as goal

pub loop-k-preserved : goal.loop-k-preserved
loop-k-preserved c =
    let l = c.loop-k in
    let g = c.args in
    let h = c.loop-k-test.true in
    let b = g.order.names.below l.k h in
    let os = take g.order.n g.order.places.now in
    let zs = gather os (turned_by g.norm g.v.now g.diag.now) in
    let e : length zs ≡ length g.w.now = gather-length os (turned_by g.norm g.v.now g.diag.now) ∙ length-take-le g.order.n g.order.places.now g.order.names.long ∙ sym c.requires.v_len.2 in
    let at = turned_at_lem g.norm g.v.now g.diag.now (get_or g.order.places.now l.k 0) (omega arith) (omega arith) ∙ gathered_at g.order.n g.order.places.now (turned_by g.norm g.v.now g.diag.now) l.k h g.order.names.long in
    front_turn zs _ l.w _ l.k (omega arith) e at l.invariant

pub returns : goal.returns
returns c =
    let l = c.loop-k in
    let g = c.args in
    let os = take g.order.n g.order.places.now in
    let zs = gather os (turned_by g.norm g.v.now g.diag.now) in
    let e : length zs ≡ length g.w.now = gather-length os (turned_by g.norm g.v.now g.diag.now) ∙ length-take-le g.order.n g.order.places.now g.order.names.long ∙ sym c.requires.v_len.2 in
    front_end zs _ l.w l.k e (omega (arith, c.loop-k-test.false)) l.invariant
