use Rattle.measures.proofs.scaling.Scalings.{later-refused, later_given}
use Rattle.std.specs.Prelude.{not}
use mathlib.Core.Path.{ap}
use Rattle.measures.proofs.scaling.later_scaled.Goals as goal

pub returns-then-not-all_finite : goal.returns-then-not-all_finite
returns-then-not-all_finite c = later-refused c.args.n c.args.norms.now c.args.diag.now c.requires.0 c.requires.2 c.copy_from_slice.ensures.after c.later_scaling.ensures c.all_finite.ensures (ap not c.if-not-all_finite.true)

pub returns : goal.returns
returns c = later_given c.args.n c.args.norms.now c.args.diag.now c.requires.0 c.requires.2 c.copy_from_slice.ensures.after c.later_scaling.ensures c.all_finite.ensures _ c.neither.ensures (ap not c.if-not-all_finite.false) c.copy_from_slice-2.ensures.after
