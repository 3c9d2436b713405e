use mathlib.Core.Path.{ap, ◌∙◌}
use lib.Ieee.{le}
use Rattle.leaves.specs.Number.{abs_of}
use Rattle.search.proofs.bounds.is_within.Goals as goal

pub returns : goal.returns
returns c = c.abs_within.ensures ∙ ap (le (abs_of _)) c.band_of.ensures
