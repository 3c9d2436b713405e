use Rattle.std.proofs.lemmas.Result.{err_from_is_err_and}
use Rattle.reduce.proofs.Lent.{lengths}
use Rattle.reduce.proofs.Filled.{filled_refuses}
use Rattle.reduce.proofs.bench.reduce_filled.Goals as goal

pub returns-in_err-check : goal.returns-in_err-check
returns-in_err-check c =
    let g = c.args in
    let p = err_from_is_err_and c.from_residual.result c.from_residual.ensures.1 in
    rw (p.1, p.2) (filled_refuses g.m g.n g.norms.now g.diag.now g.order.now g.bench.now _ c.in_err-check.ensures)

pub reduce_whole-requires : goal.reduce_whole-requires
reduce_whole-requires c =
    let l = lengths _ _ _ _ _ _ _ _ c.in_ok-check.ensures in
    record { n_value = l.sizes; norms_len = l.norms_long; diag_len = l.diag_long; order_len = l.order_long; bench_len = l.bench_long }
