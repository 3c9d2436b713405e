use Prim.Native.Nat.{◌+◌, ◌-◌, ◌<◌}
use mathlib.Core.Path.{◌≡◌}
use mathlib.Core.List.{◌++◌}
use lib.ListN.{take, drop}
use Rattle.frozen.specs.Frozen.{marks_of, free_count, merged}
use Rattle.frozen.proofs.moved.merge_into.Given as goal

abbrev pub invariant-loop-k : goal.invariant-loop-k
invariant-loop-k l =
    (l.x < 65536) × (l.j + free_count (marks_of (l.n - l.k) l.x) ≡ free_count (marks_of l.n l.marks))
    × (take l.k l.dst ++ merged (marks_of (l.n - l.k) l.x) (drop l.k l.dst) (drop l.j l.src) ≡ merged (marks_of l.n l.marks) l.initial.dst l.src)
