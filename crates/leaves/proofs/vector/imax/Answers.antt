use mathlib.Core.Path.{sym, ap, ◌∙◌}
use borrow.Author.Rules.{rules}
use Rattle.leaves.specs.Reply.{answered}
use Rattle.leaves.proofs.Folds.{imax_greater, imax_not, imax-end, imax_none, imax-some, nonzero}
use Rattle.leaves.proofs.vector.imax.Goals as goal
use Rattle.leaves.proofs.vector.imax.Goals.{then-v-b, else-v-b}

pub returns-then-v-eq0 : goal.returns-then-v-eq0
returns-then-v-eq0 c = imax_none _ c.if-v-eq0.true

pub loop-i-preserved : goal.loop-i-preserved
loop-i-preserved c =
    let l = c.loop-i in
    let h = c.loop-i-test.true in
    let v = c.args.v.now in
    elim c.if-v-b.branch [
      | then-v-b w ↦ rw w.b-is (search rules, imax_greater v l.b l.i h w.if-v-b.true ∙ l.invariant.1)
      | else-v-b w ↦ rw w.b-is (search rules, imax_not v l.b l.i h w.if-v-b.false ∙ l.invariant.1)
    ]

pub returns : goal.returns
returns c =
    let l = c.loop-i in
    let v = c.args.v.now in
    ap answered (sym (imax-end v l.b l.i c.loop-i-test.false) ∙ l.invariant.1) ∙ imax-some _ (nonzero _ c.if-v-eq0.false)
