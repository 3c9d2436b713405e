use Prim.Native.Nat.{◌+◌, ◌-◌}
use native.Mathlib.Omega.{arith}
use mathlib.Core.List.{[]}
use lib.ListN.{get_or}
use Rattle.leaves.proofs.Triangles.{column_fits}
use Rattle.reduce.specs.inner.Bench.{grid}
use Rattle.factor.proofs.Lays.{column_laid}
use Rattle.factor.proofs.store.Bench.lay_column.Goals as goal

pub slice_bounds-lay_in-end : goal.slice_bounds-lay_in-end
slice_bounds-lay_in-end c = let b = c.args.self in omega (arith, column_fits c.args.k b.n b.n c.requires.k_lt_n)

pub returns : goal.returns
returns c =
    let g = c.args in
    let b = g.self in
    let p = c.column in
    let q = c.column_at-from in
    let f = column_fits g.k b.n b.n c.requires.k_lt_n in
    column_laid b.m b.n g.k g.d p.result.now (get_or (grid b.m b.n b.cells.now) g.k []) g.square.now _ q.result (q.result + b.n - q.result)
    (omega arith) (omega arith) (omega arith) p.ensures.value (rw (← p.ensures.value) p.ensures.len) c.lay_in.ensures
