use native.Mathlib.Omega.{arith}
use mathlib.Core.Path.{refl, sym, ◌∙◌}
use Rattle.std.proofs.lemmas.List.Edits.{swap_is}
use Rattle.reduce.specs.Reduction.{swap}
use Rattle.reduce.specs.inner.Bench.{moved}
use Rattle.reduce.proofs.pivoted.PivotedQR.swap_entries.Goals as goal

pub returns-clause-after : goal.returns-clause-after
unfolding swap moved
returns-clause-after c = rw (c.swap.ensures.after ∙ sym (swap_is c.args.self.now.order.now c.args.j c.args.k 0 (omega arith) (omega arith))) refl
