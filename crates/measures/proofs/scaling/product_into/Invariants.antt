use mathlib.Core.Path.{◌≡◌}
use Rattle.leaves.proofs.Folds.{front}
use Rattle.leaves.specs.Product.{product_all}
use Rattle.measures.proofs.scaling.product_into.Given as goal

abbrev pub invariant-loop-i : goal.invariant-loop-i
invariant-loop-i l = l.w ≡ front l.i (product_all l.a l.b) l.initial.w
