use Prim.Native.Nat.{◌-◌, ◌*◌}
use mathlib.Core.Path.{◌≡◌}
use mathlib.Core.List.{◌++◌}
use lib.ListN.{take, drop}
use Rattle.frozen.specs.Narrowed.{runs}
use Rattle.frozen.proofs.narrow.copy_runs.Given as goal

abbrev pub invariant-loop-k : goal.invariant-loop-k
invariant-loop-k l = take (l.k * l.w) l.dst ++ runs l.w l.apart (l.count - l.k) (drop (l.k * l.apart) l.src) ≡ runs l.w l.apart l.count l.src
