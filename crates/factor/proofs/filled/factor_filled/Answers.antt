use mathlib.Core.Path.{sym}
use lib.ListN.{length}
use borrow.Author.Rules.{rules}
use Rattle.factor.proofs.Answers.{handed_on}
use Rattle.factor.proofs.filled.Filling.{filling_passed, filling_refused, filling_told}
use Rattle.factor.proofs.filled.factor_filled.Goals as goal

pub returns-in_err-check_filled : goal.returns-in_err-check_filled
returns-in_err-check_filled c =
    let g = c.args in
    rw (handed_on _ _ c.from_residual.ensures.1) (filling_refused g.m g.n g.store.now g.order.now g.bench.now _ c.in_err-check_filled.ensures)

pub invariant_of-qr : goal.invariant_of-qr
invariant_of-qr c =
    let g = c.args in
    let e = filling_passed g.m g.n (length g.store.now) (length g.order.now) (length g.bench.now) (sym c.in_ok-check_filled.ensures) in
    record { sizes = e.0; store_long = e.1.0; order_long = e.1.1.0; bench_long = e.1.1.1 }

pub returns : goal.returns
returns c =
    let g = c.args in
    filling_told g.m g.n g.store.now g.order.now g.bench.now _ c.in_ok-check_filled.ensures c.filled_working.ensures.whole (search rules) (search rules) (search rules)
