use Prim.Native.Nat.{◌≤◌}
use mathlib.Core.Path.{◌≡◌, ap, subst}
use native.Mathlib.Omega.{arith}
use lib.ListN.{length, length-take}
use Rattle.measures.specs.declared.scaling.Mode.{Mode}
use Rattle.measures.proofs.scaling.Scalings.{first_all, unscaled_all, later_all, kept_all}
use Rattle.measures.specs.inner.Reads.{parameters_read}
use Rattle.measures.proofs.scaling.rescale.Goals as goal

pub slice_bounds-first_scaled-end : goal.slice_bounds-first_scaled-end
slice_bounds-first_scaled-end c =
    let e : length c.filled-d.result ≡ 16 = ap length c.filled-d.ensures in
    simp length-take (omega arith)

pub slice_bounds-first_scaled-end-in-FirstScaled : goal.slice_bounds-first_scaled-end-in-FirstScaled
slice_bounds-first_scaled-end-in-FirstScaled c =
    let e : length c.filled-w.result ≡ 16 = ap length c.filled-w.ensures in
    simp length-take (omega arith)

pub first_scaled-requires : goal.first_scaled-requires
first_scaled-requires c =
    let p = c.requires in
    let e : length c.filled-d.result ≡ 16 = ap length c.filled-d.ensures in
    let f : length c.filled-w.result ≡ 16 = ap length c.filled-w.ensures in
    record { n_bound = p.n_bound; d_len = (simp length-take (omega (arith, p.n_bound.0)), simp length-take (omega (arith, p.n_bound.0))); n_in_bounds = (p.n_in_bounds.0, subst (λ (m : Mode). parameters_read m c.args.n ≤ length c.args.x.now) c.in-FirstScaled.is p.n_in_bounds.1) }

pub first_unscaled-requires : goal.first_unscaled-requires
first_unscaled-requires c = (c.requires.n_bound.0, subst (λ (m : Mode). parameters_read m c.args.n ≤ length c.args.x.now) c.in-FirstUnscaled.is c.requires.n_in_bounds.1)

pub slice_bounds-later_scaled-end : goal.slice_bounds-later_scaled-end
slice_bounds-later_scaled-end c =
    let e : length c.filled-d.result ≡ 16 = ap length c.filled-d.ensures in
    simp length-take (omega arith)

pub later_scaled-requires : goal.later_scaled-requires
later_scaled-requires c =
    let p = c.requires in
    let e : length c.filled-d.result ≡ 16 = ap length c.filled-d.ensures in
    (p.n_bound.1, simp length-take (omega (arith, p.n_bound.0)), p.n_in_bounds.0)

pub returns-in-FirstScaled : goal.returns-in-FirstScaled
returns-in-FirstScaled c =
    let g = c.args in
    first_all g.n g.norms.now g.diag.now g.x.now g.bound c.in-FirstScaled.is c.first_scaled.ensures

pub returns-in-FirstUnscaled : goal.returns-in-FirstUnscaled
returns-in-FirstUnscaled c =
    let g = c.args in
    unscaled_all g.n g.norms.now g.diag.now g.x.now g.bound _ c.in-FirstUnscaled.is c.first_unscaled.ensures

pub returns-in-LaterScaled : goal.returns-in-LaterScaled
returns-in-LaterScaled c =
    let g = c.args in
    later_all g.n g.norms.now g.diag.now g.x.now g.bound c.in-LaterScaled.is c.later_scaled.ensures

pub returns-in-LaterUnscaled : goal.returns-in-LaterUnscaled
returns-in-LaterUnscaled c =
    let g = c.args in
    kept_all g.n g.norms.now g.diag.now g.x.now g.bound c.neither.ensures c.in-LaterUnscaled.is
