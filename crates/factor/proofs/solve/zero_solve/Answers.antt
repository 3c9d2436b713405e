use Prim.Native.Nat.{◌≤◌}
use native.Mathlib.Omega.{arith}
use lib.ListN.{length-take}
use mathlib.Core.Path.{ap}
use Rattle.std.specs.Prelude.{is_ok}
use Rattle.factor.proofs.Solves.{rank-fits, upper_fits, zero_law}
use Rattle.factor.proofs.solve.zero_solve.Goals as goal

pub clear_from-requires : goal.clear_from-requires
clear_from-requires c =
    let g = c.args in
    let h : c.rank_of-full.result ≤ g.square.n = rank-fits g.m g.square.n _ _ g.square.cells.now c.least-top.ensures c.rank_of-full.ensures in
    omega arith

pub slice_bounds-solve_upper-end : goal.slice_bounds-solve_upper-end
slice_bounds-solve_upper-end c =
    let g = c.args in
    let h : c.rank_of-full.result ≤ g.square.n = rank-fits g.m g.square.n _ _ g.square.cells.now c.least-top.ensures c.rank_of-full.ensures in
    omega (arith, c.clear_from.auto.w)

pub slice_bounds-solve_upper-end-2 : goal.slice_bounds-solve_upper-end-2
slice_bounds-solve_upper-end-2 c =
    let g = c.args in
    let h : c.rank_of-full.result ≤ g.square.n = rank-fits g.m g.square.n _ _ g.square.cells.now c.least-top.ensures c.rank_of-full.ensures in
    simp length-take (omega (arith, c.clear_from.auto.w))

pub unwrap-requires : goal.unwrap-requires
unwrap-requires c =
    let g = c.args in
    let h : c.rank_of-full.result ≤ g.square.n = rank-fits g.m g.square.n _ _ g.square.cells.now c.least-top.ensures c.rank_of-full.ensures in
    ap is_ok (upper_fits g.square.n _ g.square.cells.now _ c.args.square.square h (simp length-take (omega (arith, c.clear_from.auto.w))) _ _ c.solve_upper.ensures)

pub returns : goal.returns
returns c =
    let g = c.args in
    zero_law g.m g.square.n _ _ g.square.cells.now c.least-top.ensures c.rank_of-full.ensures g.w.now _ _ c.args.square.square c.requires c.clear_from.ensures c.solve_upper.auto.x c.solve_upper.ensures
