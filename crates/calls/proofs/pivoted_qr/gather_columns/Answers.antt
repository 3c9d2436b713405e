use mathlib.Core.Path.{sym, ap}
use borrow.Author.Rules.{rules}
use lib.Seq.{length-take-le}
use Rattle.std.specs.Prelude.{is_ok}
use Rattle.calls.proofs.Factors.{all_gathered, free_gathered}
use Rattle.calls.proofs.pivoted_qr.gather_columns.Goals as goal

pub slice_bounds-copy_long-end : goal.slice_bounds-copy_long-end
slice_bounds-copy_long-end c = sym (length-take-le _ _ (search rules))

pub unwrap-requires : goal.unwrap-requires
unwrap-requires c =
    let g = c.args in
    let p = c.requires in
    ap is_ok (all_gathered g.m g.n g.marks g.jacobian.now g.bench.now p.n_value.1 p.bench_len _ _ c.if-marks-eq0.true c.copy_long.ensures).0

pub returns-then-marks-eq0 : goal.returns-then-marks-eq0
returns-then-marks-eq0 c =
    let g = c.args in
    let p = c.requires in
    (all_gathered g.m g.n g.marks g.jacobian.now g.bench.now p.n_value.1 p.bench_len _ _ c.if-marks-eq0.true c.copy_long.ensures).1

pub unwrap-requires-else-marks-eq0 : goal.unwrap-requires-else-marks-eq0
unwrap-requires-else-marks-eq0 c =
    let g = c.args in
    let p = c.requires in
    ap is_ok (free_gathered g.m g.n g.marks g.jacobian.now g.bench.now p.n_value.1 p.bench_len _ _ p.n_value.0 c.free_columns.ensures).0

pub returns-else-marks-eq0 : goal.returns-else-marks-eq0
returns-else-marks-eq0 c =
    let g = c.args in
    let p = c.requires in
    (free_gathered g.m g.n g.marks g.jacobian.now g.bench.now p.n_value.1 p.bench_len _ _ p.n_value.0 c.free_columns.ensures).1
