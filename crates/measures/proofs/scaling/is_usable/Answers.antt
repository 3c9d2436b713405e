use lib.Ieee.{of_bits}
use Rattle.measures.proofs.scaling.Scalings.{no_xnorm, no_radius, by_radius}
use Rattle.std.specs.Prelude.{not}
use mathlib.Core.Path.{ap}
use Rattle.measures.proofs.scaling.is_usable.Goals as goal

pub returns-then-not-is_finite : goal.returns-then-not-is_finite
returns-then-not-is_finite c = no_xnorm _ c.is_finite.ensures (ap not c.if-not-is_finite.true)

pub returns-then-not-is_finite-2 : goal.returns-then-not-is_finite-2
returns-then-not-is_finite-2 c = no_radius _ c.is_finite.ensures (ap not c.if-not-is_finite.false) c.is_finite-2.ensures (ap not c.if-not-is_finite-2.true)

pub returns : goal.returns
unfolding of_bits
returns c = by_radius _ c.is_finite.ensures (ap not c.if-not-is_finite.false) c.is_finite-2.ensures (ap not c.if-not-is_finite-2.false)
