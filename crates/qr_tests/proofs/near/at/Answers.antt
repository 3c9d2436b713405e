-- The bits of an infinity are no NaN's.
use lib.Ieee.{nan_bits}
use Rattle.qr_tests.proofs.near.at.Goals as goal

pub float_from_bits-result : goal.float_from_bits-result
unfolding nan_bits
float_from_bits-result c = tt
