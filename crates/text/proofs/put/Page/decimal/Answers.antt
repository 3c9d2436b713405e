use Rattle.text.specs.Put.{decimal_of}
use Rattle.text.proofs.put.Page.decimal.Goals as goal

pub returns-clause-wrote : goal.returns-clause-wrote
unfolding decimal_of
returns-clause-wrote c = rw (decimal_of, ← c.places.ensures.0) c.put_digits.ensures.wrote
