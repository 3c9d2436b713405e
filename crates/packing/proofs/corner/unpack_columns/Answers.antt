use Prim.Native.Nat.{◌+◌, ◌-◌, ◌*◌}
use mathlib.Core.Path.{◌≡◌, ap, ◌∙◌}
use mathlib.Core.List.{◌++◌}
use native.Mathlib.Omega.{arith}
use borrow.Author.Rules.{rules}
use borrow.Rule.Slice.PartMut.{mid_len}
use lib.ListN.{length, take, drop}
use Rattle.leaves.specs.Square.{zeros}
use Rattle.leaves.proofs.Triangles.{column_fits}
use Rattle.frozen.proofs.Spreads.{run_long}
use Rattle.packing.proofs.Corners.{triangle_next, corner-fits, unpack_turn, unpack-end}
use Rattle.packing.proofs.corner.unpack_columns.Goals as goal

pub loop-k-preserved : goal.loop-k-preserved
loop-k-preserved c =
    let l = c.loop-k in
    let g = c.args in
    let t = c.loop-k-test.true in
    let f = column_fits l.k g.n g.n t in
    let o = corner-fits l.k g.n t in
    let x = triangle_next l.k in
    let y = c.unpack_column.new.column in
    let e : l.b + l.k + 1 - l.b ≡ l.k + 1 = omega arith in
    let h : l.a + g.n - l.a ≡ g.n = omega arith in
    let m = mid_len l.b (l.b + l.k + 1) g.corner.now (search rules) ∙ e in
    let r = mid_len l.a (l.a + g.n) l.square (search rules) ∙ h in
    let d : y ≡ take (l.k + 1) (drop l.b g.corner.now) ++ zeros (g.n - (l.k + 1)) = rw (m, r, e) at c.unpack_column.ensures in
    let z : length y ≡ g.n = ap length d ∙ run_long (l.k + 1) g.n l.b g.corner.now (omega arith) (search rules) in
    (search rules, search rules, unpack_turn g.n l.k l.a l.b g.corner.now l.square y _ t (search rules) z d ∙ l.invariant.2)

pub returns : goal.returns
returns c =
    let l = c.loop-k in
    let g = c.args in
    let z : l.k ≡ g.n = search rules in
    let q : l.k * g.n ≡ g.n * g.n = rw z in
    unpack-end g.n l.k l.a l.b g.corner.now l.square _ (search rules) (search rules) l.invariant.2
