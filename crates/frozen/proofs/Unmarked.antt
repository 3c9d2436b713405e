-- Where no mark is set every column is free, and the problem without the frozen columns is the whole one. Assumes nothing.
use Prim.Native.Nat.{ℕ, zero, suc, ◌+◌, ◌*◌}
use mathlib.Core.Path.{◌≡◌, refl, sym, ap, ◌∙◌}
use mathlib.Core.Bool.{false}
use mathlib.Core.List.{List, ◌++◌}
use native.Mathlib.Nat.{mul-suc, mul-zero}
use native.Mathlib.Omega.{arith}
use lib.ListN.{take, drop}
use lib.Seq.{take-add}
use lib.Ieee.{Float}
use Rattle.frozen.specs.Frozen.{marks_of, mark_past, free_count, free_columns}

pub none_set : (n : ℕ) → free_count (marks_of n 0) ≡ n
unfolding marks_of free_count
none_set zero = refl
none_set (suc n) = ap suc (none_set n)

pub none_past : (n : ℕ) → mark_past n 0 ≡ false
unfolding mark_past
none_past zero = refl
none_past (suc n) = none_past n

pub columns_whole : (m n : ℕ) (s : List Float) → free_columns m (marks_of n 0) s ≡ take (m * n) s
unfolding marks_of free_columns
columns_whole m zero s = rw (mul-zero m) refl
columns_whole m (suc n) s =
    let e : m * suc n ≡ m + m * n = mul-suc m n ∙ omega arith in
    ap (λ (l : List Float). take m s ++ l) (columns_whole m n (drop m s)) ∙ (sym (take-add m (m * n) s) ∙ ap (λ (k : ℕ). take k s) (sym e))
