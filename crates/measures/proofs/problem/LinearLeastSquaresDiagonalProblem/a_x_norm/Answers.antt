use Prim.Native.Nat.{◌≤◌}
use mathlib.Core.Path.{ap, ◌∙◌}
use native.Mathlib.Omega.{arith}
use lib.ListN.{length, take}
use lib.Ieee.{of_bits}
use Rattle.std.specs.Prelude.{is_ok}
use Rattle.leaves.proofs.Norms.{enorm_fits}
use Rattle.factor.specs.Solve.{gather}
use Rattle.measures.proofs.Asked.{norm_taken}
use Rattle.measures.proofs.Measured.{jx_finite, jx_infinite}
use Rattle.measures.proofs.gradient.Gradients.{jx_is, jx_seen}
use Rattle.measures.proofs.problem.LinearLeastSquaresDiagonalProblem.a_x_norm.Goals as goal

pub unwrap-s-requires : goal.unwrap-s-requires
unwrap-s-requires c =
    let z = c.args.self.now.sized.small in
    let h : length c.combine.new.w ≤ 128 = omega (arith, c.combine.auto.w, c.fill.auto.dst, c.requires.1) in
    ap is_ok (enorm_fits c.combine.new.w c.enorm.result h c.enorm.ensures)

pub returns-then-is_finite : goal.returns-then-is_finite
unfolding of_bits
returns-then-is_finite c =
    let g = c.args in
    let p = g.self.now in
    let z = p.sized.small in
    let xs = gather (take p.n p.permutation.now) g.x.now in
    let h : length c.combine.new.w ≤ 128 = omega (arith, c.combine.auto.w, c.fill.auto.dst, c.requires.1) in
    let t = norm_taken c.combine.new.w c.enorm.result h c.enorm.ensures c.unwrap-s.ensures in
    let e = c.fill.ensures in
    let f = c.combine.ensures in
    jx_finite p.n p.store.now p.permutation.now g.x.now (t.0 ∙ jx_is p.n p.store.now xs g.w.now c.requires.1 e f) (t.1 ∙ jx_seen p.n p.store.now xs g.w.now c.requires.1 e f) c.is_finite.ensures c.if-is_finite.true

pub returns-else-is_finite : goal.returns-else-is_finite
unfolding of_bits
returns-else-is_finite c =
    let g = c.args in
    let p = g.self.now in
    let z = p.sized.small in
    let xs = gather (take p.n p.permutation.now) g.x.now in
    let h : length c.combine.new.w ≤ 128 = omega (arith, c.combine.auto.w, c.fill.auto.dst, c.requires.1) in
    let t = norm_taken c.combine.new.w c.enorm.result h c.enorm.ensures c.unwrap-s.ensures in
    let e = c.fill.ensures in
    let f = c.combine.ensures in
    jx_infinite p.n p.store.now p.permutation.now g.x.now (t.0 ∙ jx_is p.n p.store.now xs g.w.now c.requires.1 e f) (t.1 ∙ jx_seen p.n p.store.now xs g.w.now c.requires.1 e f) c.is_finite.ensures c.if-is_finite.false
