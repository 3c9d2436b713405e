use mathlib.Core.Path.{◌≡◌, ◌∙◌}
use native.Mathlib.Omega.{arith}
use lib.ListN.{length}
use Rattle.leaves.proofs.Folds.{front_turn, front_end}
use Rattle.measures.specs.Scaling.{first_scaling}
use Rattle.measures.proofs.scaling.Scalings.{first_length, first_at}
use Rattle.measures.proofs.scaling.first_scaling.Goals as goal

pub loop-i-preserved : goal.loop-i-preserved
loop-i-preserved c =
    let l = c.loop-i in
    let p = c.requires in
    let g = c.args in
    let zs = first_scaling g.norms.now in
    let h = c.loop-i-test.true in
    let s : length zs ≡ length g.norms.now = first_length g.norms.now in
    let at = c.first_entry.ensures ∙ first_at g.norms.now l.i h in
    front_turn zs _ l.d _ l.i (omega arith) (s ∙ p) at l.invariant

pub returns : goal.returns
returns c =
    let l = c.loop-i in
    let p = c.requires in
    let g = c.args in
    let zs = first_scaling g.norms.now in
    let s : length zs ≡ length g.norms.now = first_length g.norms.now in
    front_end zs _ l.d l.i (s ∙ p) (omega (arith, c.loop-i-test.false)) l.invariant
