use mathlib.Core.Path.{sym, ap, ◌∙◌}
use native.Mathlib.Omega.{arith}
use lib.ListN.{length-take}
use Rattle.measures.specs.Scaling.{start_by}
use Rattle.measures.proofs.scaling.Scalings.{first_refused, start-refused, first_given}
use Rattle.std.specs.Prelude.{not}
use Rattle.measures.proofs.scaling.first_scaled.Goals as goal

pub slice_bounds-scaled_norm-end : goal.slice_bounds-scaled_norm-end
slice_bounds-scaled_norm-end c = simp length-take (omega arith)

pub scaled_norm-s-requires : goal.scaled_norm-s-requires
scaled_norm-s-requires c =
    let p = c.requires in
    let e = c.first_scaling.auto.d in
    record { w_len_bound = omega (arith, p.n_bound.0, p.d_len.1); d_len = (e ∙ p.d_len.0 ∙ sym p.d_len.1, simp length-take (omega (arith, p.d_len.1, p.n_in_bounds.1))) }

pub returns-then-not-all_finite : goal.returns-then-not-all_finite
returns-then-not-all_finite c =
    let ed = c.first_scaling.ensures in
    let et = c.start_by-t.ensures ∙ ap (start_by c.args.bound) c.scaled_norm-s.ensures.value_value in
    first_refused c.args.n c.args.norms.now c.args.diag.now c.args.x.now c.args.bound c.requires.n_bound.1 ed et c.all_finite.ensures (ap not c.if-not-all_finite.true)

pub returns-then-not-is_usable : goal.returns-then-not-is_usable
returns-then-not-is_usable c =
    let ed = c.first_scaling.ensures in
    let et = c.start_by-t.ensures ∙ ap (start_by c.args.bound) c.scaled_norm-s.ensures.value_value in
    start-refused c.args.n c.args.norms.now c.args.diag.now c.args.x.now c.args.bound c.requires.n_bound.1 ed et c.all_finite.ensures (ap not c.if-not-all_finite.false) c.is_usable.ensures (ap not c.if-not-is_usable.true)

pub returns : goal.returns
returns c =
    let ed = c.first_scaling.ensures in
    let et = c.start_by-t.ensures ∙ ap (start_by c.args.bound) c.scaled_norm-s.ensures.value_value in
    first_given c.args.n c.args.norms.now c.args.diag.now c.args.x.now c.args.bound c.requires.n_bound.1 ed et c.all_finite.ensures _ c.scaled_norm-s.ensures.seen_value (ap not c.if-not-all_finite.false) c.is_usable.ensures (ap not c.if-not-is_usable.false) c.copy_from_slice.ensures.after
