use mathlib.Core.Path.{sym, ap, ◌∙◌}
use native.Mathlib.Omega.{arith}
use lib.ListN.{length, length-set}
use Rattle.factor.proofs.check.Entries.{order-start, order_high, order_twice, order_turn, order-end}
use Rattle.factor.proofs.check.is_permutation.Goals as goal

pub loop-o-init : goal.loop-o-init
loop-o-init c =
    let e = c.filled-met.ensures in
    (ap length e, order-start c.args.n c.args.order.now _ e)

pub returns-then-n-o : goal.returns-then-n-o
returns-then-n-o c =
    let l = c.loop-o in
    sym (order_high _ c.args.n l.o-index l.met c.loop-o-test.true c.if-n-o.true) ∙ l.invariant.1

pub returns-then-met-o : goal.returns-then-met-o
returns-then-met-o c =
    let l = c.loop-o in
    sym (order_twice _ c.args.n l.o-index l.met c.loop-o-test.true c.if-met-o.true) ∙ l.invariant.1

pub loop-o-preserved : goal.loop-o-preserved
loop-o-preserved c =
    let l = c.loop-o in
    let b = c.if-n-o.false in
    let r = c.requires.n_bound in
    let q = l.invariant.0 in
    (simp length-set q, order_turn _ c.args.n l.o-index l.met c.loop-o-test.true b (omega arith) c.if-met-o.false ∙ l.invariant.1)

pub returns : goal.returns
returns c =
    let l = c.loop-o in
    sym (order-end _ c.args.n l.o-index l.met c.loop-o-test.false) ∙ l.invariant.1
