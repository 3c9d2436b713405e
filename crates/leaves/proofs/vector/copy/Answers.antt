use Rattle.leaves.proofs.Folds.{copy-refused, copy_is}
use Rattle.leaves.proofs.vector.copy.Goals as goal

pub returns-then-src-dst : goal.returns-then-src-dst
returns-then-src-dst c = copy-refused _ _ c.if-src-dst.true

pub returns : goal.returns
returns c = copy_is _ _ _ c.if-src-dst.false c.copy_from_slice.ensures.after
