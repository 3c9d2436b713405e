use Rattle.std.proofs.Common.{eq-eqb, ne_eqb}
use lib.ListN.{get_or-eq_default}
use Rattle.lines.specs.Scan.{past}
use Rattle.lines.proofs.scan.past_space.Goals as goal

pub returns-then-s-i-eq32 : goal.returns-then-s-i-eq32
unfolding past
returns-then-s-i-eq32 c = rw (eq-eqb _ _ c.if-s-i-eq32.true, past)

pub returns-then-i-s : goal.returns-then-i-s
unfolding past
returns-then-i-s c = rw (ne_eqb _ _ c.if-s-i-eq32.false, past)

pub returns : goal.returns
unfolding past
returns c = rw (get_or-eq_default c.args.s.now 0 c.if-i-s.false, past)
