use Rattle.text.proofs.double.Doubles.{nan_bits_lem, number_bits}
use Rattle.text.proofs.double.of_bits.Goals as goal

pub returns-then-w-gt9218868437227405312 : goal.returns-then-w-gt9218868437227405312
returns-then-w-gt9218868437227405312 c = nan_bits_lem _ c.if-w-gt9218868437227405312.true

pub float_from_bits-result : goal.float_from_bits-result
float_from_bits-result c = number_bits _ c.if-w-gt9218868437227405312.false
