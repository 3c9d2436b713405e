use mathlib.Core.Path.{◌∙◌}
use lib.ListN.{length}
use Rattle.factor.proofs.Lays.{transformed_is}
use Rattle.factor.proofs.laying.lay_rhs.Goals as goal

pub returns : goal.returns
returns c = let g = c.args in c.lay_front.ensures ∙ rw c.least-top.ensures (transformed_is (length g.qtb.now) g.col.now)
