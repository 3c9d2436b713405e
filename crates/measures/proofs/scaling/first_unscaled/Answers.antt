use Prim.Native.Nat.{◌≤◌}
use mathlib.Core.Path.{ap, ◌∙◌}
use native.Mathlib.Omega.{arith}
use mathlib.Core.List.{List, []}
use lib.ListN.{length, take, length-take}
use lib.Ieee.{Float}
use Rattle.std.specs.Prelude.{is_ok}
use Rattle.leaves.specs.Reply.{Reply}
use Rattle.leaves.proofs.Norms.{enorm_fits}
use Rattle.measures.specs.Rescale.{Scaled}
use Rattle.measures.specs.Scaling.{start_by}
use Rattle.measures.proofs.Asked.{norm_taken}
use Rattle.measures.proofs.scaling.Scalings.{unscaled_given, unscaled_refused}
use Rattle.measures.proofs.scaling.first_unscaled.Goals as goal

pub unwrap-s-requires : goal.unwrap-s-requires
unwrap-s-requires c =
    let v = take c.args.n c.args.x.now in
    ap is_ok (enorm_fits v c.enorm.result (simp length-take (omega arith)) c.enorm.ensures)

pub returns-then-is_usable : goal.returns-then-is_usable
returns-then-is_usable c =
    let g = c.args in
    let v = take g.n g.x.now in
    let h : length v ≤ 128 = simp length-take (omega arith) in
    let t = norm_taken v c.enorm.result h c.enorm.ensures c.unwrap-s.ensures in
    ap (λ (r : Reply Scaled × List Float). r.0) (unscaled_given g.n [] [] g.x.now g.bound (c.start_by-t.ensures ∙ ap (start_by g.bound) t.0) c.is_usable.ensures t.1 c.if-is_usable.true)

pub returns : goal.returns
returns c =
    let g = c.args in
    let v = take g.n g.x.now in
    let h : length v ≤ 128 = simp length-take (omega arith) in
    let t = norm_taken v c.enorm.result h c.enorm.ensures c.unwrap-s.ensures in
    ap (λ (r : Reply Scaled × List Float). r.0) (unscaled_refused g.n [] [] g.x.now g.bound (c.start_by-t.ensures ∙ ap (start_by g.bound) t.0) c.is_usable.ensures c.if-is_usable.false)
