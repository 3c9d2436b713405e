use mathlib.Core.Path.{◌≡◌, refl, sym, ◌∙◌}
use native.Mathlib.Omega.{arith}
use lib.ListN.{length, take}
use lib.Seq.{length-take-le}
use Rattle.factor.proofs.Solves.{scatter_turn, scatter-end}
use Rattle.factor.proofs.solve.scatter_into.Goals as goal

pub loop-k-preserved : goal.loop-k-preserved
loop-k-preserved c =
    let g = c.args in
    let l = c.loop-k in
    let e : length (take g.order.n g.order.places.now) ≡ g.order.n = length-take-le g.order.n g.order.places.now (omega arith) in
    scatter_turn (take g.order.n g.order.places.now) g.w.now l.out l.k _ c.loop-k-test.true (omega arith) refl ∙ l.invariant

pub returns : goal.returns
returns c =
    let g = c.args in
    let l = c.loop-k in
    sym (scatter-end (take g.order.n g.order.places.now) g.w.now l.out l.k c.loop-k-test.false) ∙ l.invariant
