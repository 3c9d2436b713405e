use Rattle.factor.proofs.Lent.{part_read, part_fits}
use mathlib.Core.Path.{ap, ◌∙◌}
use lib.ListN.{length}
use Rattle.factor.proofs.room.part_of.Goals as goal

pub returns : goal.returns
returns c =
    let g = c.args.store in
    let a = c.part_at-a in
    let e = part_read g.n c.args.k a.result g.cells.now a.ensures.0 in
    record { value = e; len = ap length e ∙ part_fits g.n c.args.k g.cells.now g.sized c.requires }
