use Prim.Native.Nat.{ℕ, ◌^◌}
use Rattle.leaves.proofs.root.Digits.{Going}
use Rattle.leaves.proofs.root.near_root.Given as goal

abbrev pub invariant-loop-r : goal.invariant-loop-r
invariant-loop-r l = (k : ℕ) × Going l.v l.s l.rem l.r (2 ^ k)

abbrev pub decreases-loop-r : goal.decreases-loop-r
decreases-loop-r l = l.r
