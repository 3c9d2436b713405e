use Prim.Native.Nat.{◌+◌, ◌-◌, suc}
use mathlib.Core.Path.{ap, ◌∙◌}
use native.Mathlib.Omega.{arith}
use lib.ListN.{length-take, length-drop}
use Rattle.std.specs.Prelude.{is_ok}
use Rattle.leaves.specs.Norm.{norm, ranges}
use Rattle.leaves.proofs.Grids.{tail_part}
use Rattle.leaves.proofs.Norms.{enorm_fits}
use Rattle.reduce.proofs.Begins.{norm_told}
use Rattle.reduce.proofs.pivoted.PivotedQR.norm_from.Goals as goal

pub unwrap-requires : goal.unwrap-requires
unwrap-requires c = let k = c.args.self.now.benched.rows in ap is_ok (enorm_fits _ _ (simp (length-take, length-drop) (omega arith)) c.enorm.ensures)

pub returns : goal.returns
returns c =
    let g = c.args in
    let b = g.self.now in
    let q = c.row_at-a in
    let k = b.benched.rows in
    let t = norm_told _ _ (simp (length-take, length-drop) (omega arith)) c.enorm.ensures c.unwrap.ensures in
    let e = tail_part b.m (suc b.n) g.k g.j b.bench.now q.result (q.result + (b.m - g.j) - q.result) q.ensures.value (omega arith) (omega arith) in
    record { value_value = t.0 ∙ ap norm e; seen_value = t.1 ∙ ap ranges e }
