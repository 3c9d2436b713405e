use mathlib.Core.Path.{◌≡◌, sym, ◌∙◌}
use native.Mathlib.Omega.{arith}
use lib.ListN.{length, get_or, take}
use lib.Seq.{length-take-le}
use Rattle.leaves.specs.Vector.{scale_all}
use Rattle.leaves.proofs.Folds.{front_turn, front_end, scale_at}
use Rattle.factor.specs.Solve.{gather}
use Rattle.factor.proofs.Solves.{gather-length}
use Rattle.search.proofs.Lists.{gathered_at}
use Rattle.search.proofs.vectors.scale_by.Goals as goal

pub loop-k-preserved : goal.loop-k-preserved
loop-k-preserved c =
    let l = c.loop-k in
    let g = c.args in
    let h = c.loop-k-test.true in
    let b = g.order.names.below l.k h in
    let os = take g.order.n g.order.places.now in
    let zs = gather os (scale_all g.a g.x.now) in
    let e : length zs ≡ length g.w.now = gather-length os (scale_all g.a g.x.now) ∙ length-take-le g.order.n g.order.places.now g.order.names.long ∙ sym c.requires.x_len.1 in
    let at = scale_at g.a g.x.now (get_or g.order.places.now l.k 0) (omega arith) ∙ gathered_at g.order.n g.order.places.now (scale_all g.a g.x.now) l.k h g.order.names.long in
    front_turn zs _ l.w _ l.k (omega arith) e at l.invariant

pub returns : goal.returns
returns c =
    let l = c.loop-k in
    let g = c.args in
    let os = take g.order.n g.order.places.now in
    let zs = gather os (scale_all g.a g.x.now) in
    let e : length zs ≡ length g.w.now = gather-length os (scale_all g.a g.x.now) ∙ length-take-le g.order.n g.order.places.now g.order.names.long ∙ sym c.requires.x_len.1 in
    front_end zs _ l.w l.k e (omega (arith, c.loop-k-test.false)) l.invariant
