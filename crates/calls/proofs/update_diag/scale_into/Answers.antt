use mathlib.Core.Path.{ap, ◌∙◌}
use mathlib.Core.List.{List}
use native.Mathlib.Omega.{arith}
use lib.Ieee.{Float}
use Rattle.std.specs.Prelude.{is_ok}
use Rattle.frozen.specs.Frozen.{marks_of, merged}
use Rattle.calls.proofs.Ways.{merge_worked}
use Rattle.calls.proofs.update_diag.scale_into.Goals as goal

pub unwrap-requires : goal.unwrap-requires
unwrap-requires c =
    let g = c.args in
    let p = c.requires in
    let f = c.fill_frozen in
    ap is_ok (merge_worked g.n g.marks g.d.now f.new.diag _ _ (omega (arith, p.0, f.auto.diag)) (omega (arith, p.1)) c.merge_into.ensures).0

pub returns : goal.returns
returns c =
    let g = c.args in
    let p = c.requires in
    let f = c.fill_frozen in
    let m = merge_worked g.n g.marks g.d.now f.new.diag _ _ (omega (arith, p.0, f.auto.diag)) (omega (arith, p.1)) c.merge_into.ensures in
    m.1 ∙ ap (λ (l : List Float). merged (marks_of g.n g.marks) l g.d.now) f.ensures
