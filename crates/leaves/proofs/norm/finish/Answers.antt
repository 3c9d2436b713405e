use lib.Ieee.{of_bits}
use Rattle.leaves.specs.Norm.{finish, finish_large, finish_middle, finish_small}
use Rattle.leaves.proofs.norm.finish.Goals as goal

pub returns-then-t : goal.returns-then-t
unfolding of_bits finish_large finish_middle finish_small finish
returns-then-t c = rw (c.sqrt.ensures, c.if-t.true, finish)

pub returns-then-t-3 : goal.returns-then-t-3
unfolding of_bits finish_large finish_middle finish_small finish
returns-then-t-3 c = rw (c.sqrt-then-t-3.ensures, c.if-t.false, c.if-t-2.true, c.if-t-3.true, finish)

pub returns-then-t-2 : goal.returns-then-t-2
unfolding of_bits finish_large finish_middle finish_small finish
returns-then-t-2 c = rw (c.sqrt-then-t-2.ensures, c.if-t.false, c.if-t-2.true, c.if-t-3.false, finish)

pub returns : goal.returns
unfolding of_bits finish_large finish_middle finish_small finish
returns c = rw (c.sqrt-2.ensures, c.if-t.false, c.if-t-2.false, finish)
