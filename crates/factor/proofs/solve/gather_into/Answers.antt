use mathlib.Core.Path.{◌≡◌}
use native.Mathlib.Omega.{arith}
use lib.ListN.{length, take}
use lib.Seq.{length-take-le}
use Rattle.leaves.proofs.Folds.{front_turn, front_end}
use Rattle.factor.specs.Solve.{gather}
use Rattle.factor.proofs.Solves.{gather_at, gather-length}
use Rattle.factor.proofs.solve.gather_into.Goals as goal

pub loop-k-preserved : goal.loop-k-preserved
loop-k-preserved c =
    let g = c.args in
    let l = c.loop-k in
    let os = take g.order.n g.order.places.now in
    let e : length os ≡ g.order.n = length-take-le g.order.n g.order.places.now (omega arith) in
    let z = gather-length os g.xs.now in
    front_turn (gather os g.xs.now) g.w.now l.w _ l.k (omega arith) (omega arith) (gather_at os g.xs.now l.k c.loop-k-test.true) l.invariant

pub returns : goal.returns
returns c =
    let g = c.args in
    let l = c.loop-k in
    let os = take g.order.n g.order.places.now in
    let e : length os ≡ g.order.n = length-take-le g.order.n g.order.places.now (omega arith) in
    let z = gather-length os g.xs.now in
    front_end (gather os g.xs.now) g.w.now l.w l.k (omega arith) (omega arith) l.invariant
