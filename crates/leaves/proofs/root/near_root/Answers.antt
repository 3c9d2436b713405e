-- `root::near_root` meets its contract: each turn keeps `Going`, and after the last digit half of s is the whole root of 4S. Assumes nothing.
use native.Mathlib.Omega.{arith}
use Rattle.leaves.proofs.root.Digits.{start, ready, turn, finish}
use Rattle.leaves.proofs.root.near_root.Goals as goal

pub overflow_add-rem : goal.overflow_add-rem
overflow_add-rem c = omega arith

pub loop-r-init : goal.loop-r-init
loop-r-init c = (54, start c.args.v c.requires.1)

pub digit-g-requires : goal.digit-g-requires
digit-g-requires c =
    let l = c.loop-r in
    ready c.args.v l.s l.rem l.r l.invariant.0 c.loop-r-test.true l.invariant.1

pub loop-r-smaller : goal.loop-r-smaller
loop-r-smaller c = omega arith

pub loop-r-preserved : goal.loop-r-preserved
loop-r-preserved c =
    let l = c.loop-r in
    turn c.args.v l.s l.rem l.r l.invariant.0 c.loop-r-test.true l.invariant.1 _ _ c.digit-g.ensures

pub overflow_add-result : goal.overflow_add-result
overflow_add-result c = omega (arith, c.loop-r.invariant.1.most)

pub returns : goal.returns
returns c =
    let l = c.loop-r in
    finish c.args.v l.s l.rem l.r l.invariant.0 c.loop-r-test.false l.invariant.1 c.requires.0 c.requires.1
