use mathlib.Core.Path.{sym, ap, ◌∙◌}
use Prim.Native.Nat.{ℕ, ◌*◌}
use native.Mathlib.Omega.{arith}
use borrow.Author.Rules.{rules}
use lib.Seq.{length-take-le}
use Rattle.calls.proofs.Factors.{bench_filled}
use Rattle.calls.proofs.pivoted_qr.fill_bench.Goals as goal

pub slice_bounds-gather_columns-end-2 : goal.slice_bounds-gather_columns-end-2
slice_bounds-gather_columns-end-2 c = sym (length-take-le _ _ (search rules))

pub gather_columns-requires : goal.gather_columns-requires
gather_columns-requires c =
    let g = c.args in
    let r = c.requires.factorable in
    let l = c.requires.free_in_bounds in
    record { n_value = (r.inside, r.jacobian_long); bench_len = length-take-le (g.m * g.free) g.bench.now (omega arith) ∙ ap (λ (k : ℕ). g.m * k) r.counted }

pub returns : goal.returns
returns c =
    let g = c.args in
    bench_filled g.m g.n g.marks g.free g.jacobian.now g.residuals.now c.requires.factorable g.bench.now _ _ c.requires.free_in_bounds c.gather_columns.ensures c.copy_from_slice.ensures.after
