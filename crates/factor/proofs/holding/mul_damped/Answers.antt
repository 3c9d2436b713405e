use mathlib.Core.Path.{sym, ap, ◌∙◌}
use lib.ListN.{length}
use Rattle.factor.specs.Room.{load}
use Rattle.factor.specs.Held.{held_product_of}
use Rattle.factor.proofs.holding.mul_damped.Goals as goal

pub returns : goal.returns
unfolding held_product_of load
returns c =
    let l = c.lower_of.ensures in
    c.mul_lower.ensures ∙ rw (c.part_of.ensures.value, l.ldiag, l.below, l.n ∙ sym c.part_of.ensures.len ∙ ap length c.part_of.ensures.value)
