use mathlib.Core.Path.{◌≡◌, ◌∙◌}
use native.Mathlib.Omega.{arith}
use lib.ListN.{length}
use Rattle.leaves.proofs.Folds.{front_turn, front_end}
use Rattle.measures.specs.Scaling.{later_scaling}
use Rattle.measures.proofs.scaling.Scalings.{later-length, later_turn}
use Rattle.measures.proofs.scaling.later_scaling.Goals as goal

pub loop-i-preserved : goal.loop-i-preserved
loop-i-preserved c =
    let l = c.loop-i in
    let p = c.requires in
    let g = c.args in
    let zs = later_scaling g.norms.now g.d.now in
    let h = c.loop-i-test.true in
    let s : length zs ≡ length g.norms.now = later-length g.norms.now g.d.now p in
    let at = c.max.ensures ∙ later_turn g.norms.now g.d.now l.d l.i h p l.invariant in
    front_turn zs _ l.d _ l.i (omega arith) (s ∙ p) at l.invariant

pub returns : goal.returns
returns c =
    let l = c.loop-i in
    let p = c.requires in
    let g = c.args in
    let zs = later_scaling g.norms.now g.d.now in
    let s : length zs ≡ length g.norms.now = later-length g.norms.now g.d.now p in
    front_end zs _ l.d l.i (s ∙ p) (omega (arith, c.loop-i-test.false)) l.invariant
