use native.Mathlib.Nat.{mul-le-mul, le_refl}
use native.Mathlib.Omega.{arith}
use borrow.Author.Rules.{rules}
use Rattle.factor.specs.State.{bench_need}
use Rattle.calls.proofs.Leavings.{rest_cleared}
use Rattle.calls.proofs.pivoted_qr.clear_rest.Goals as goal

pub overflow_mul-p : goal.overflow_mul-p
overflow_mul-p c = let g = c.args in let w = mul-le-mul (le_refl g.m) c.requires.2 in search rules

pub overflow_add-p : goal.overflow_add-p
overflow_add-p c = let g = c.args in let w = mul-le-mul (le_refl g.m) c.requires.2 in search rules

pub offset_bounds-bench-p : goal.offset_bounds-bench-p
offset_bounds-bench-p c = let g = c.args in let w = mul-le-mul (le_refl g.m) c.requires.2 in search rules

pub slice_bounds-clear_long-count : goal.slice_bounds-clear_long-count
slice_bounds-clear_long-count c = let g = c.args in let w = mul-le-mul (le_refl g.m) c.requires.2 in search rules

pub slice_bounds-clear_long-start : goal.slice_bounds-clear_long-start
slice_bounds-clear_long-start c = let g = c.args in let w = mul-le-mul (le_refl g.m) c.requires.2 in search rules

pub returns : goal.returns
returns c =
    let g = c.args in
    let w = mul-le-mul (le_refl g.m) c.requires.2 in
    rest_cleared (bench_need g.m g.free) (bench_need g.m g.n) _ g.bench.now (omega arith) c.requires.3 c.clear_long.ensures
