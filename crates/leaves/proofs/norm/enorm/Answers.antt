use mathlib.Core.Path.{◌∙◌}
use Rattle.leaves.proofs.Norms.{enorm-refused, enorm_is}
use Rattle.leaves.proofs.norm.enorm.Goals as goal

pub returns-then-v-gt128 : goal.returns-then-v-gt128
returns-then-v-gt128 c = enorm-refused _ c.if-v-gt128.true

pub returns-then-v-le16 : goal.returns-then-v-le16
returns-then-v-le16 c = rw (c.sum_up.ensures.value_value, c.sum_up.ensures.seen_value) (enorm_is _ c.if-v-gt128.false)

pub returns : goal.returns
returns c = rw (c.sum_up-2.ensures.value_value, c.sum_up-2.ensures.seen_value) (enorm_is _ c.if-v-gt128.false)
