use mathlib.Core.Path.{refl, sym, ◌∙◌}
use lib.ListN.{take}
use Rattle.factor.proofs.Damped.{scattered, finite_of}
use Rattle.factor.proofs.least_squares.zero_finite.Goals as goal

pub returns-then-not-all_finite : goal.returns-then-not-all_finite
returns-then-not-all_finite c =
    let x = c.zero_step.ensures in
    record { same_cells = x.same_cells; value = sym c.if-not-all_finite.true ∙ finite_of c.all_finite.ensures x.w_after; cells = x.cells; out_after = refl }

pub returns : goal.returns
returns c =
    let x = c.zero_step.ensures in
    let o = c.args.order in
    record { same_cells = x.same_cells; value = sym c.if-not-all_finite.false ∙ finite_of c.all_finite.ensures x.w_after; cells = x.cells; out_after = scattered (take o.n o.places.now) c.args.out.now c.scatter_into.ensures x.w_after }
