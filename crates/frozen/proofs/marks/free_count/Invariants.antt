use Prim.Native.Nat.{◌+◌, ◌-◌, ◌≤◌, ◌<◌}
use mathlib.Core.Path.{◌≡◌}
use Rattle.frozen.specs.Frozen.{marks_of, free_count}
use Rattle.frozen.proofs.marks.free_count.Given as goal

abbrev pub invariant-loop : goal.invariant-loop
invariant-loop l =
    (l.x < 65536) × (l.free + (l.turns - l.counter) ≤ l.n) × (l.free + free_count (marks_of (l.turns - l.counter) l.x) ≡ free_count (marks_of l.n l.marks))
