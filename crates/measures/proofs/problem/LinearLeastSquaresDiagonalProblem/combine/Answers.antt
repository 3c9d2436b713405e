use mathlib.Core.Path.{sym, ◌∙◌}
use native.Mathlib.Omega.{arith}
use lib.ListN.{take}
use Rattle.factor.specs.Room.{load}
use Rattle.factor.specs.Solve.{gather}
use Rattle.measures.proofs.gradient.Gradients.{upper_wide, combined_turn, combined-end}
use Rattle.measures.proofs.problem.LinearLeastSquaresDiagonalProblem.combine.Goals as goal

pub loop-i-preserved : goal.loop-i-preserved
loop-i-preserved c =
    let l = c.loop-i in
    let p = c.args.self.now in
    combined_turn p.n p.store.now p.permutation.now c.args.x.now l.w l.i c.loop-i-test.true p.names.long c.add_column.ensures ∙ l.invariant

pub returns : goal.returns
returns c =
    let l = c.loop-i in
    let p = c.args.self.now in
    let xs = gather (take p.n p.permutation.now) c.args.x.now in
    let e = upper_wide p.n p.store.now in
    sym (combined-end l.w (load p.n p.store.now).upper xs l.i (omega (arith, c.loop-i-test.false))) ∙ l.invariant
