-- The definitions, computed: column 0 is the most significant bit; what is gathered and merged with columns 0, 2 frozen; a reduced problem
-- of one column in a store of two. Assumes nothing.
use Prim.Native.Nat.{ℕ}
use mathlib.Core.Path.{◌≡◌, refl}
use mathlib.Core.Bool.{true, false}
use mathlib.Core.List.{[], ◌∷◌}
use Rattle.frozen.specs.Frozen.{marks_of, mark_past, free_count, free_of, merged, free_columns}
use Rattle.frozen.specs.Narrowed.{spread, spread_out}
use Rattle.leaves.specs.Number.{plus_zero, one}

-- marks of three columns with 0 and 2 frozen: 2^15 + 2^13
pub marks_examples : (marks_of 3 40960 ≡ true ∷ false ∷ true ∷ []) × (marks_of 16 1 ≡ false ∷ false ∷ false ∷ false ∷ false ∷ false ∷ false ∷ false ∷ false ∷ false ∷ false ∷ false ∷ false ∷ false ∷ false ∷ true ∷ [])
    × (mark_past 3 40960 ≡ false) × (mark_past 2 40960 ≡ true) × (mark_past 15 1 ≡ true) × (mark_past 16 65535 ≡ false) × (mark_past 1 0 ≡ false)
    × (free_count (marks_of 3 40960) ≡ 1) × (free_count (marks_of 16 65535) ≡ 0) × (free_count (marks_of 16 0) ≡ 16)
unfolding marks_of mark_past free_count
marks_examples = (refl, refl, refl, refl, refl, refl, refl, refl, refl, refl)

-- the step of a free column goes to its own place, not to its place among the free; the surplus stays
pub moved_examples : (free_of {A = ℕ} (true ∷ false ∷ true ∷ []) (5 ∷ 6 ∷ 7 ∷ 8 ∷ []) ≡ 6 ∷ []) × (merged {A = ℕ} (true ∷ false ∷ true ∷ []) (1 ∷ 2 ∷ 3 ∷ 4 ∷ []) (9 ∷ []) ≡ 1 ∷ 9 ∷ 3 ∷ 4 ∷ [])
unfolding free_of merged
moved_examples = (refl, refl)

-- of three columns of two rows, the second; what comes after the matrix is not read
pub columns_example : free_columns {A = ℕ} 2 (true ∷ false ∷ true ∷ []) (1 ∷ 2 ∷ 3 ∷ 4 ∷ 5 ∷ 6 ∷ 7 ∷ []) ≡ 3 ∷ 4 ∷ []
unfolding free_columns
columns_example = refl

-- R, qt_b, column norm, l_diag and work of one column, all 1: each part's first place, +0 at its second; the second column +0
pub spread_example : spread_out 2 1 (one ∷ one ∷ one ∷ one ∷ one ∷ [])
    ≡ one ∷ plus_zero ∷ plus_zero ∷ plus_zero ∷ one ∷ plus_zero ∷ one ∷ plus_zero ∷ one ∷ plus_zero ∷ one ∷ plus_zero ∷ []
unfolding spread_out spread
spread_example = refl
