use mathlib.Core.Path.{sym, ap, ◌∙◌}
use lib.ListN.{take}
use lib.Ieee.{of_bits}
use Rattle.factor.specs.Solve.{gather}
use Rattle.measures.specs.Gradient.{above}
use Rattle.measures.proofs.gradient.Gradients.{above_skip, above_eight, above_yes, above_more, above_none, measures-end}
use Rattle.measures.proofs.problem.LinearLeastSquaresDiagonalProblem.above_of.Goals as goal
use Rattle.measures.proofs.problem.LinearLeastSquaresDiagonalProblem.above_of.Goals.{then-s+else-not-is_finite+else-limit-x, else-s}

pub returns-then-not-is_finite : goal.returns-then-not-is_finite
unfolding of_bits
returns-then-not-is_finite c =
    let l = c.loop-j in
    let g = c.args in
    let p = g.self.now in
    above_eight g.b.now p.n p.store.now p.permutation.now g.norms.now p.sized l.j c.loop-j-test.true p.names.long g.limit _ c.if-s.true c.measure-x.ensures (sym c.is_finite.ensures ∙ c.if-not-is_finite.true) ∙ l.invariant

pub returns-then-limit-x : goal.returns-then-limit-x
unfolding of_bits
returns-then-limit-x c =
    let l = c.loop-j in
    let g = c.args in
    let p = g.self.now in
    above_yes g.b.now p.n p.store.now p.permutation.now g.norms.now p.sized l.j c.loop-j-test.true p.names.long g.limit _ c.if-s.true c.measure-x.ensures (sym c.is_finite.ensures ∙ c.if-not-is_finite.false) c.if-limit-x.true ∙ l.invariant

pub loop-j-preserved : goal.loop-j-preserved
unfolding of_bits
loop-j-preserved c =
    let l = c.loop-j in
    let g = c.args in
    let p = g.self.now in
    let h = c.loop-j-test.true in
    elim c.if-s.branch [
      | then-s+else-not-is_finite+else-limit-x w ↦ above_more g.b.now p.n p.store.now p.permutation.now g.norms.now p.sized l.j h p.names.long g.limit _ w.if-s.true w.measure-x.ensures (sym w.is_finite.ensures ∙ w.if-not-is_finite.false) w.if-limit-x.false ∙ l.invariant
      | else-s w ↦ above_skip g.b.now p.n p.store.now p.permutation.now g.norms.now p.sized l.j h p.names.long g.limit w.if-s.false ∙ l.invariant
    ]

pub returns : goal.returns
returns c =
    let l = c.loop-j in
    let g = c.args in
    let p = g.self.now in
    let e = measures-end g.b.now p.n p.store.now (gather (take p.n p.permutation.now) g.norms.now) l.j c.loop-j-test.false in
    above_none g.limit ∙ ap (above g.limit) (sym e) ∙ l.invariant
