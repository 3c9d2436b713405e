use mathlib.Core.Path.{refl}
use native.Mathlib.Omega.{arith}
use Rattle.text.proofs.Places.{fits_as, full}
use Rattle.text.proofs.put.Page.bytes.Goals as goal

pub returns-then-self-src-clause-wrote : goal.returns-then-self-src-clause-wrote
returns-then-self-src-clause-wrote c = full _ _ _ _ refl (omega arith)

pub returns-then-self-src-2-clause-wrote : goal.returns-then-self-src-2-clause-wrote
returns-then-self-src-2-clause-wrote c = full _ _ _ _ refl (omega arith)

pub returns-clause-wrote : goal.returns-clause-wrote
returns-clause-wrote c = fits_as _ _ _ _ _ refl (omega arith) c.copy.ensures
