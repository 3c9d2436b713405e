-- `leaves::norm::step` meets its contract: a number of middle size keeps its sign, since its square is that of its absolute value. Assumes nothing.
use mathlib.Core.Path.{◌∙◌}
use lib.Ieee.{of_bits, round, neg}
use Rattle.leaves.specs.Number.{square_of}
use Rattle.leaves.specs.Norm.{rdwarf, middle, add_in}
use Rattle.leaves.proofs.norm.Sides.{up_abs, up_le, down_abs, down_lt, mirror_lt, square_neg, between_le, between_not}
use Rattle.leaves.proofs.Norms.{nan_step}
use Rattle.leaves.proofs.norm.step.Goals as goal

pub returns-then-x-agiant : goal.returns-then-x-agiant
unfolding of_bits round rdwarf neg square_of middle add_in
returns-then-x-agiant c =
    let x = c.args.x in
    let h = c.if-x.true in
    rw (up_abs _ _ x h) (rw (h, c.if-x-agiant.true, add_in))

pub returns-then-x : goal.returns-then-x
unfolding of_bits round rdwarf neg square_of middle add_in
returns-then-x c =
    let x = c.args.x in
    let h = c.if-x.true in
    rw (c.large.ensures, up_abs _ _ x h) (rw (h, c.if-x-agiant.false, up_le _ _ x h, add_in))

pub returns-then-agiant-x : goal.returns-then-agiant-x
unfolding of_bits round rdwarf neg square_of middle add_in
returns-then-agiant-x c =
    let a = c.args in
    let h = c.if-x-2.true in
    rw (down_abs _ _ a.x h, ← square_neg a.x) (rw (down_lt _ _ a.x ∙ h, mirror_lt a.agiant a.x ∙ c.if-agiant-x.true, add_in))

pub returns-then-x-2 : goal.returns-then-x-2
unfolding of_bits round rdwarf neg square_of middle add_in
returns-then-x-2 c =
    let a = c.args in
    let h = c.if-x-2.true in
    let k = down_lt _ _ a.x ∙ h in
    rw (c.large-then-x-2.ensures, down_abs _ _ a.x h) (rw (k, mirror_lt a.agiant a.x ∙ c.if-agiant-x.false, up_le _ _ (neg a.x) k, add_in))

pub returns-then-x-3 : goal.returns-then-x-3
unfolding of_bits round rdwarf neg square_of middle add_in
returns-then-x-3 c =
    let a = c.args in
    nan_step a.agiant a.t a.x c.if-x-3.true c.large-then-x-3.ensures

pub returns : goal.returns
unfolding of_bits round rdwarf neg square_of middle add_in
returns c =
    let a = c.args in
    let h = c.if-x.false in
    let k = c.if-x-2.false in
    rw (c.small.ensures, c.abs.ensures) (rw (between_not _ _ a.x h k, between_le _ _ a.x h k c.if-x-3.false, add_in))
