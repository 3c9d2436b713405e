use Prim.Native.Nat.{ℕ}
use mathlib.Core.Path.{◌≡◌}
use mathlib.Core.List.{List}
use lib.Ieee.{Float}
use Rattle.eliminate.specs.declared.eliminate.Rotation.{Rotation}
use Rattle.eliminate.specs.Eliminate.{turned_all, left_all}
use Rattle.leaves.proofs.Folds.{front}
use Rattle.eliminate.proofs.eliminate.turn_rest.Given as goal

-- both rows done up to place i
pub record Turning (g : Rotation) (col₀ l₀ col l : List Float) (i : ℕ) : Type 0 where
  pub col_done : col ≡ front i (turned_all g col₀ l₀) col₀
  pub l_done : l ≡ front i (left_all g col₀ l₀) l₀

abbrev pub invariant-loop-i : goal.invariant-loop-i
invariant-loop-i l = Turning (record { sin = l.sin; cos = l.cos }) l.initial.col l.initial.l l.col l.l l.i
