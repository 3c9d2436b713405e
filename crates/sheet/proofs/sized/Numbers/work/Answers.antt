use mathlib.Core.Path.{◌∙◌}
use lib.Ieee.{of_bits}
use Rattle.sheet.proofs.job.Jobs.{in_rooms}
use Rattle.sheet.proofs.sized.Numbers.work.Goals as goal

pub returns : goal.returns
unfolding of_bits
returns c = c.work_in.ensures ∙ in_rooms _ c.args.step.now c.filled-store.ensures c.filled-order.ensures c.filled-bench.ensures
