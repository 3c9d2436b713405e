use Rattle.search.proofs.Numbers.{upper-zero, upper_else}
use Rattle.search.proofs.bounds.upper_bound.Goals as goal

pub returns-then-u : goal.returns-then-u
returns-then-u c = rw c.min.ensures (upper-zero _ _ c.dwarf.ensures c.if-u.true)

pub returns-else-u : goal.returns-else-u
returns-else-u c = upper_else _ _ c.if-u.false
