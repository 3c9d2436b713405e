use native.Mathlib.Omega.{arith}
use lib.ListN.{take}
use Rattle.leaves.proofs.Folds.{front_turn, front_end}
use Rattle.factor.specs.Solve.{gather}
use Rattle.search.specs.Bounds.{quotients}
use Rattle.search.proofs.Lists.{quotient_length, quotient_turn}
use Rattle.search.proofs.vectors.divide_by.Goals as goal

pub loop-i-preserved : goal.loop-i-preserved
loop-i-preserved c =
    let l = c.loop-i in
    let g = c.args in
    let o = g.order in
    let s = quotient_length o.n g.w.now o.places.now g.diag.now c.requires.w_len.0 o.names.long in
    let at = quotient_turn o.n g.w.now o.places.now g.diag.now c.requires.w_len.0 o.names.long l.w l.i c.loop-i-test.true l.invariant in
    front_turn (quotients g.w.now (gather (take o.n o.places.now) g.diag.now)) _ l.w _ l.i (omega arith) s at l.invariant

pub returns : goal.returns
returns c =
    let l = c.loop-i in
    let g = c.args in
    let o = g.order in
    let s = quotient_length o.n g.w.now o.places.now g.diag.now c.requires.w_len.0 o.names.long in
    front_end (quotients g.w.now (gather (take o.n o.places.now) g.diag.now)) _ l.w l.i s (omega (arith, c.loop-i-test.false)) l.invariant
