use mathlib.Core.Path.{refl, sym, ◌∙◌}
use lib.Ieee.{of_bits, round}
use Rattle.leaves.specs.Norm.{agiant as agiant_of, rgiant}
use Rattle.leaves.proofs.Norms.{accumulate_step, accumulate-end, norm_is}
use Rattle.leaves.proofs.Flags.{ranges_are}
use Rattle.leaves.proofs.norm.sum_up.Goals as goal

pub loop-x-preserved : goal.loop-x-preserved
loop-x-preserved c =
    let l = c.loop-x in
    rw c.step-t.ensures (accumulate_step _ l.t _ l.x-index c.loop-x-test.true ∙ l.invariant)

pub returns : goal.returns
unfolding agiant_of rgiant round of_bits
returns c =
    let l = c.loop-x in
    let v = c.args.v.now in
    let last = sym (accumulate-end _ l.t v l.x-index c.loop-x-test.false) ∙ l.invariant in
    record { value_value = c.finish.ensures ∙ norm_is v _ l.t refl last; seen_value = c.seen_in.ensures ∙ ranges_are v _ l.t refl last }
