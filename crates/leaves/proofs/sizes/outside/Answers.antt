use borrow.Author.Tests.{lt-ltb, le-ltb, eq-eqb, ne_eqb}
use Rattle.leaves.specs.Tests.{outside}
use Rattle.leaves.proofs.sizes.outside.Goals as goal

pub returns-then-m-eq0 : goal.returns-then-m-eq0
unfolding outside
returns-then-m-eq0 c = rw (eq-eqb _ _ c.if-m-eq0.true)

pub returns-then-m-gt128 : goal.returns-then-m-gt128
unfolding outside
returns-then-m-gt128 c = rw (ne_eqb _ _ c.if-m-eq0.false, lt-ltb _ _ c.if-m-gt128.true)

pub returns-then-n-eq0 : goal.returns-then-n-eq0
unfolding outside
returns-then-n-eq0 c = rw (ne_eqb _ _ c.if-m-eq0.false, le-ltb _ _ c.if-m-gt128.false, eq-eqb _ _ c.if-n-eq0.true)

pub returns : goal.returns
unfolding outside
returns c = rw (ne_eqb _ _ c.if-m-eq0.false, le-ltb _ _ c.if-m-gt128.false, ne_eqb _ _ c.if-n-eq0.false)
