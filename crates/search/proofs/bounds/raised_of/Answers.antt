use mathlib.Core.Path.{◌∙◌}
use lib.Ieee.{of_bits}
use Rattle.search.proofs.Numbers.{raised-zero}
use Rattle.search.specs.Bounds.{raised}
use Rattle.search.proofs.bounds.raised_of.Goals as goal

pub returns-then-lambda : goal.returns-then-lambda
returns-then-lambda c = c.max.ensures ∙ raised-zero _ _ c.dwarf.ensures c.if-lambda.true

pub returns-else-lambda : goal.returns-else-lambda
unfolding raised of_bits
returns-else-lambda c = rw c.if-lambda.false
