use mathlib.Core.Path.{sym, ap, ◌∙◌}
use lib.ListN.{take}
use lib.Ieee.{of_bits}
use Rattle.factor.specs.Solve.{gather}
use Rattle.measures.specs.Gradient.{largest}
use Rattle.measures.proofs.gradient.Gradients.{gradient_skip, gradient_nan, gradient-more, largest_is, largest_not, measures-end}
use Rattle.measures.proofs.problem.LinearLeastSquaresDiagonalProblem.measure_of.Goals as goal
use Rattle.measures.proofs.problem.LinearLeastSquaresDiagonalProblem.measure_of.Goals.{then-s+else-x, else-s}

pub returns-then-x : goal.returns-then-x
unfolding of_bits
returns-then-x c =
    let l = c.loop-j in
    let g = c.args in
    let p = g.self.now in
    gradient_nan g.b.now p.n p.store.now p.permutation.now g.norms.now p.sized l.j c.loop-j-test.true p.names.long l.top _ c.if-s.true c.measure-x.ensures c.if-x.true ∙ l.invariant

pub loop-j-preserved : goal.loop-j-preserved
unfolding of_bits
loop-j-preserved c =
    let l = c.loop-j in
    let g = c.args in
    let p = g.self.now in
    let h = c.loop-j-test.true in
    elim c.if-s.branch [
      | then-s+else-x w ↦ rw (w.top-is, w.max-top.ensures) (gradient-more g.b.now p.n p.store.now p.permutation.now g.norms.now p.sized l.j h p.names.long l.top _ w.if-s.true w.measure-x.ensures w.if-x.false ∙ l.invariant)
      | else-s w ↦ rw w.top-is (gradient_skip g.b.now p.n p.store.now p.permutation.now g.norms.now p.sized l.j h p.names.long l.top w.if-s.false ∙ l.invariant)
    ]

pub returns-then-is_finite : goal.returns-then-is_finite
returns-then-is_finite c =
    let l = c.loop-j in
    let g = c.args in
    let p = g.self.now in
    let e = measures-end g.b.now p.n p.store.now (gather (take p.n p.permutation.now) g.norms.now) l.j c.loop-j-test.false in
    largest_is _ (sym c.is_finite.ensures ∙ c.if-is_finite.true) ∙ ap (largest l.top) (sym e) ∙ l.invariant

pub returns : goal.returns
returns c =
    let l = c.loop-j in
    let g = c.args in
    let p = g.self.now in
    let e = measures-end g.b.now p.n p.store.now (gather (take p.n p.permutation.now) g.norms.now) l.j c.loop-j-test.false in
    largest_not _ (sym c.is_finite.ensures ∙ c.if-is_finite.false) ∙ ap (largest l.top) (sym e) ∙ l.invariant
