use mathlib.Core.Path.{sym}
use lib.Seq.{length-take-le}
use lib.Ieee.{of_bits}
use Rattle.calls.proofs.Rescaled.{entries_filled, others_kept}
use Rattle.calls.proofs.update_diag.fill_frozen.Goals as goal

pub slice_bounds-fill-end-in-FirstScaled : goal.slice_bounds-fill-end-in-FirstScaled
slice_bounds-fill-end-in-FirstScaled c = sym (length-take-le c.args.n c.args.diag.now c.requires)

pub returns-in-FirstScaled : goal.returns-in-FirstScaled
unfolding of_bits
returns-in-FirstScaled c = entries_filled c.args.n c.args.diag.now _ c.in-FirstScaled.is c.requires c.fill.ensures

pub returns-in_default : goal.returns-in_default
returns-in_default c = let g = c.args in others_kept g.n g.diag.now g.mode c.in_default.not-FirstScaled
