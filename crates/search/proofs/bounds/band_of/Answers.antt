use Rattle.search.proofs.Constants.{tenth_is}
use Rattle.search.specs.Bounds.{band}
use Rattle.search.proofs.bounds.band_of.Goals as goal

pub returns : goal.returns
unfolding band
returns c = rw (tenth_is)
