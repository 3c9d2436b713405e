use mathlib.Core.Path.{◌≡◌}
use Rattle.leaves.specs.Product.{divided_by}
use Rattle.leaves.proofs.Folds.{front}
use Rattle.measures.proofs.gradient.divide_all.Given as goal

abbrev pub invariant-loop-x : goal.invariant-loop-x
invariant-loop-x l = l.v ≡ front l.x-index (divided_by l.d l.initial.v) l.initial.v
