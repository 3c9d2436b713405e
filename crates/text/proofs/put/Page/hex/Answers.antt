use Rattle.text.specs.Put.{hex_of}
use Rattle.text.proofs.put.Page.hex.Goals as goal

pub returns-clause-wrote : goal.returns-clause-wrote
unfolding hex_of
returns-clause-wrote c = rw (hex_of, ← c.places.ensures.0) c.put_digits.ensures.wrote
