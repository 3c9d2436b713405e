use Rattle.lines.proofs.put.Putting.{two_puts}
use Rattle.lines.proofs.put.number.Goals as goal

pub returns-clause-wrote : goal.returns-clause-wrote
returns-clause-wrote c = two_puts _ _ _ _ _ _ _ _ c.bytes.ensures.wrote c.hex.ensures.wrote
