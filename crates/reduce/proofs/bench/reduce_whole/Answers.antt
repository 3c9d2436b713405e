-- n numbers of scratch stand in a room of 16
use mathlib.Core.Path.{◌≡◌, sym, ap}
use mathlib.Core.Bool.{false}
use mathlib.Core.List.{List}
use Prim.Native.Nat.{ℕ, ◌≤◌}
use native.Mathlib.Omega.{arith}
use lib.ListN.{length, replicate}
use lib.Seq.{length-take-le}
use lib.Ieee.{Float, of_bits, binary64}
use Rattle.leaves.specs.Tests.{outside}
use Rattle.leaves.proofs.Insides.{inside}
use Rattle.reduce.proofs.Lent.{benched}
use Rattle.reduce.proofs.bench.reduce_whole.Goals as goal

scratch : (m n : ℕ) (room : List Float) → outside m n ≡ false → room ≡ replicate 16 (of_bits binary64 0) → n ≤ length room
scratch m n room o e = let k : length room ≡ 16 = ap length e in omega (arith, (inside m n o).cols_few)

pub slice_bounds-work-end : goal.slice_bounds-work-end
slice_bounds-work-end c = scratch _ _ _ c.requires.n_value c.filled-work.ensures

pub slice_bounds-qr-end : goal.slice_bounds-qr-end
slice_bounds-qr-end c = sym (length-take-le _ _ (scratch _ _ _ c.requires.n_value c.filled-work.ensures))

pub invariant_of-qr-clause-some : goal.invariant_of-qr-clause-some
invariant_of-qr-clause-some c = (inside _ _ c.requires.n_value).rows_some

pub invariant_of-qr-clause-benched : goal.invariant_of-qr-clause-benched
invariant_of-qr-clause-benched c = benched _ (inside _ _ c.requires.n_value) c.requires.bench_len

pub invariant_of-qr-clause-work_long : goal.invariant_of-qr-clause-work_long
invariant_of-qr-clause-work_long c = length-take-le _ _ (scratch _ _ _ c.requires.n_value c.filled-work.ensures)
