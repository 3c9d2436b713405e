use Prim.Native.Nat.{◌-◌, ◌<◌}
use mathlib.Core.Path.{◌≡◌}
use Rattle.frozen.specs.Frozen.{mark_past}
use Rattle.frozen.proofs.marks.mark_past.Given as goal

abbrev pub invariant-loop : goal.invariant-loop
invariant-loop l = (l.x < 65536) × (mark_past (l.n - l.counter) l.x ≡ mark_past l.n l.marks)
