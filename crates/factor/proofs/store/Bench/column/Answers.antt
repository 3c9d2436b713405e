use Prim.Native.Nat.{◌+◌, ◌-◌, suc}
use mathlib.Core.Path.{ap, ◌∙◌}
use mathlib.Core.List.{List}
use native.Mathlib.Omega.{arith}
use lib.ListN.{length}
use lib.Ieee.{Float}
use Rattle.leaves.proofs.Grids.{tail_part, column_long}
use Rattle.factor.proofs.store.Bench.column.Goals as goal

pub returns : goal.returns
returns c =
    let b = c.args.self in
    let k = c.args.k in
    let z = b.benched in
    let p = c.column_at-a in
    let e = tail_part b.m (suc b.n) k 0 b.cells.now p.result (p.result + b.m - p.result) (omega (arith, p.ensures.value)) (omega arith) (omega arith) in
    record { value = e; len = ap (λ (l : List Float). length l) e ∙ column_long b.m (suc b.n) b.cells.now k (omega arith) (omega (arith, z.whole)) }
