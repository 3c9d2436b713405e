use lib.Ieee.{of_bits}
use Rattle.leaves.specs.Number.{square_of}
use Rattle.reduce.specs.Reduction.{shrunk as shrunk_of}
use Rattle.reduce.proofs.reflect.shrunk.Goals as goal

pub returns : goal.returns
unfolding of_bits square_of shrunk_of
returns c = rw (c.sqrt.ensures, c.max.ensures, shrunk_of)
