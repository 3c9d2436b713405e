use Prim.Native.Nat.{◌+◌, ◌-◌, ◌*◌, ◌<◌}
use mathlib.Core.Path.{◌≡◌}
use mathlib.Core.List.{◌++◌}
use lib.ListN.{length, take, drop}
use Rattle.frozen.specs.Frozen.{marks_of, free_count, free_columns}
use Rattle.frozen.proofs.columns.copy_free.Given as goal

abbrev pub invariant-loop-k : goal.invariant-loop-k
invariant-loop-k l =
    (l.x < 65536) × (l.b + l.m * free_count (marks_of (l.n - l.k) l.x) ≡ length l.initial.dst)
    × (take l.b l.dst ++ free_columns l.m (marks_of (l.n - l.k) l.x) (drop (l.k * l.m) l.src) ≡ free_columns l.m (marks_of l.n l.marks) l.src)
