use Rattle.lines.specs.Put.{double_at}
use Rattle.lines.proofs.put.Putting.{two_puts}
use Rattle.lines.proofs.put.double.Goals as goal

pub returns-clause-wrote : goal.returns-clause-wrote
unfolding double_at
returns-clause-wrote c = two_puts _ _ _ _ _ _ _ _ c.bytes.ensures.wrote (rw (← c.bits_of.ensures) c.word.ensures.wrote)
