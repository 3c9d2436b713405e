use Prim.Native.Nat.{◌-◌, ◌*◌}
use mathlib.Core.Path.{◌≡◌}
use mathlib.Core.List.{◌++◌}
use lib.ListN.{take, drop}
use Rattle.frozen.specs.Narrowed.{spread}
use Rattle.frozen.proofs.narrow.lay_runs.Given as goal

abbrev pub invariant-loop-k : goal.invariant-loop-k
invariant-loop-k l = take (l.k * l.apart) l.dst ++ spread l.w l.apart (l.count - l.k) (drop (l.k * l.w) l.src) ≡ spread l.w l.apart l.count l.src
