use mathlib.Core.Path.{◌∙◌}
use native.Mathlib.Omega.{arith}
use Rattle.text.proofs.Places.{digits-length, put_is, fits_as, full}
use Rattle.text.proofs.put.Page.put_digits.Goals as goal

pub returns-then-self-k-clause-wrote : goal.returns-then-self-k-clause-wrote
returns-then-self-k-clause-wrote c = full _ _ _ _ (digits-length _ _ _) (omega arith)

pub returns-then-self-k-2-clause-wrote : goal.returns-then-self-k-2-clause-wrote
returns-then-self-k-2-clause-wrote c = full _ _ _ _ (digits-length _ _ _) (omega arith)

pub returns-clause-wrote : goal.returns-clause-wrote
returns-clause-wrote c = fits_as _ _ _ _ _ (digits-length _ _ _) (omega arith) (c.spell.ensures ∙ put_is _ _ _ _ _)
