use mathlib.Core.Path.{◌≡◌}
use Rattle.eliminate.specs.Eliminate.{heads}
use Rattle.eliminate.specs.inner.Edges.{edges_of}
use Rattle.leaves.proofs.Folds.{front}
use Rattle.eliminate.proofs.elimination.Elimination.save_diagonal.Given as goal

abbrev pub invariant-loop-j : goal.invariant-loop-j
invariant-loop-j l = l.saved ≡ front l.j (heads (edges_of l.self.n l.self.upper_r.now)) l.initial.saved
