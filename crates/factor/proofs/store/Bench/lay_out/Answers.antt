use Prim.Native.Nat.{◌*◌, ◌<◌}
use mathlib.Core.Path.{◌≡◌, sym, ◌∙◌}
use native.Mathlib.Omega.{arith}
use mathlib.Core.List.{[]}
use lib.ListN.{get_or, take}
use lib.Seq.{get_or-take}
use Rattle.reduce.specs.inner.Bench.{grid}
use Rattle.leaves.proofs.Overs.{over_end}
use Rattle.factor.proofs.Lays.{whole_long, lay_turn}
use Rattle.reduce.proofs.Begins.{bench-wide, bench_long}
use Rattle.factor.proofs.store.Bench.lay_out.Goals as goal

pub loop-k-preserved : goal.loop-k-preserved
loop-k-preserved c =
    let l = c.loop-k in
    let g = c.args in
    let s = g.self in
    let h : l.k < s.n = omega arith in
    let b = s.cells.now in
    let cs = take s.n (grid s.m s.n b) in
    lay_turn s.m s.n cs g.diag.now (bench-wide s.m s.n b) c.requires.diag_len (bench_long s.m s.n b s.benched) l.k (get_or (grid s.m s.n b) l.k []) l.square _ _ h
    (sym (get_or-take s.n (grid s.m s.n b) l.k [] h)) l.invariant c.lay_column.ensures

pub returns : goal.returns
returns c =
    let l = c.loop-k in
    let g = c.args in
    let s = g.self in
    let b = s.cells.now in
    let cs = take s.n (grid s.m s.n b) in
    let t = whole_long s.m s.n cs g.diag.now (bench-wide s.m s.n b) c.requires.diag_len (bench_long s.m s.n b s.benched) in
    let e : l.k ≡ s.n = omega arith in
    l.invariant ∙ rw e (over_end _ g.square.now (s.n * s.n) (omega arith) (omega arith))
