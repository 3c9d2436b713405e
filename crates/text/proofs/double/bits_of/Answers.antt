use Rattle.text.proofs.double.Doubles.{is_nan_lem, no_nan}
use Rattle.text.proofs.double.bits_of.Goals as goal

pub returns-then-x : goal.returns-then-x
returns-then-x c = is_nan_lem _ c.if-x.true

pub float_to_bits-result : goal.float_to_bits-result
float_to_bits-result c = no_nan _ c.if-x.false
