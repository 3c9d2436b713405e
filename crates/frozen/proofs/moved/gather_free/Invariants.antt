use Prim.Native.Nat.{◌+◌, ◌-◌, ◌<◌}
use mathlib.Core.Path.{◌≡◌}
use mathlib.Core.List.{◌++◌}
use lib.ListN.{take, drop}
use Rattle.frozen.specs.Frozen.{marks_of, free_count, free_of}
use Rattle.frozen.proofs.moved.gather_free.Given as goal

abbrev pub invariant-loop-k : goal.invariant-loop-k
invariant-loop-k l =
    (l.x < 65536) × (l.j + free_count (marks_of (l.n - l.k) l.x) ≡ free_count (marks_of l.n l.marks))
    × (drop l.j l.dst ≡ drop l.j l.initial.dst) × (take l.j l.dst ++ free_of (marks_of (l.n - l.k) l.x) (drop l.k l.src) ≡ free_of (marks_of l.n l.marks) l.src)
