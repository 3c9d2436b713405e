use mathlib.Core.Path.{◌≡◌, sym, ◌∙◌}
use native.Mathlib.Omega.{arith}
use lib.ListN.{length, take}
use lib.Seq.{get_or-take, length-take-le}
use Rattle.factor.proofs.Solves.{scatter_turn, scatter-end}
use Rattle.search.proofs.vectors.place.Goals as goal

pub loop-k-preserved : goal.loop-k-preserved
loop-k-preserved c =
    let l = c.loop-k in
    let g = c.args in
    let h = c.loop-k-test.true in
    let os = take g.order.n g.order.places.now in
    let e : length os ≡ g.order.n = length-take-le g.order.n g.order.places.now g.order.names.long in
    scatter_turn os g.w.now l.out l.k _ (omega arith) (omega arith) (sym (get_or-take g.order.n g.order.places.now l.k 0 h)) ∙ l.invariant

pub returns : goal.returns
returns c =
    let l = c.loop-k in
    let g = c.args in
    let os = take g.order.n g.order.places.now in
    let e : length os ≡ g.order.n = length-take-le g.order.n g.order.places.now g.order.names.long in
    sym (scatter-end os g.w.now l.out l.k (omega (arith, c.loop-k-test.false))) ∙ l.invariant
