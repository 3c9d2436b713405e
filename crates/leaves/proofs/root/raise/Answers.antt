-- `root::raise` meets its contract: a subnormal's n is moved up to 53 digits, a place and a digit less each turn. Assumes nothing.
use native.Mathlib.Omega.{arith}
use Rattle.leaves.proofs.root.Raising.{raised-start, raised_step, raised_pos}
use Rattle.leaves.proofs.root.raise.Goals as goal

pub loop-m-init : goal.loop-m-init
loop-m-init c = raised-start c.args.t c.requires.1

pub overflow_sub-z : goal.overflow_sub-z
overflow_sub-z c = raised_pos _ _ _ c.loop-m.invariant c.requires.0 c.loop-m-test.true

pub loop-m-smaller : goal.loop-m-smaller
loop-m-smaller c = omega (arith, raised_pos _ _ _ c.loop-m.invariant c.requires.0 c.loop-m-test.true)

pub loop-m-preserved : goal.loop-m-preserved
loop-m-preserved c = raised_step _ _ _ c.loop-m.invariant c.requires.0 c.loop-m-test.true

pub returns : goal.returns
returns c =
    let g = c.loop-m.invariant in
    record { same = g.same; low = c.loop-m-test.false; high = g.high; most = omega arith }
