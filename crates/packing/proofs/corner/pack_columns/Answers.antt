use Prim.Native.Nat.{◌+◌, ◌-◌}
use mathlib.Core.Path.{◌≡◌, ap, ◌∙◌}
use native.Mathlib.Omega.{arith}
use borrow.Author.Rules.{rules}
use borrow.Rule.Slice.PartMut.{mid_len}
use lib.ListN.{length, take, drop}
use Rattle.leaves.proofs.Triangles.{column_fits}
use Rattle.packing.proofs.Corners.{triangle, triangle_next, corner-fits, pack_turn, pack-end}
use Rattle.packing.proofs.corner.pack_columns.Goals as goal

pub loop-k-preserved : goal.loop-k-preserved
loop-k-preserved c =
    let l = c.loop-k in
    let g = c.args in
    let s = c.requires.square.whole in
    let t = c.loop-k-test.true in
    let f = column_fits l.k g.n g.n t in
    let o = corner-fits l.k g.n t in
    let x = triangle_next l.k in
    let y = c.copy_from_slice.new.self in
    let e : l.a + l.k + 1 - l.a ≡ l.k + 1 = omega arith in
    let d : y ≡ take (l.k + 1) (drop l.a g.square.now) = rw e at c.copy_from_slice.ensures.after in
    let z : length y ≡ l.k + 1 = ap length c.copy_from_slice.ensures.after ∙ (mid_len l.a (l.a + l.k + 1) g.square.now (search rules) ∙ e) in
    (search rules, search rules, pack_turn g.n l.k l.a l.b g.square.now l.corner y _ t (search rules) z d ∙ l.invariant.2)

pub returns : goal.returns
returns c =
    let l = c.loop-k in
    let g = c.args in
    let z : l.k ≡ g.n = search rules in
    let q : triangle l.k ≡ triangle g.n = ap triangle z in
    pack-end g.n l.k l.a l.b g.square.now l.corner _ (search rules) (search rules) l.invariant.2
