-- 02, #108: what is taken from the free columns before a working, and put there after it.
use Rattle.std.specs.Prelude.{ℕ, ◌*◌, ◌||◌, true, false, List, ◌++◌, ltb, length, drop, Float}
use Rattle.leaves.specs.Reply.{Reply, answered, refused}
use Rattle.leaves.specs.Tests.{outside}
use Rattle.frozen.specs.Frozen.{marks_of, free_count, free_of, merged, free_columns}

-- 3: fewer numbers than columns on one side, than free columns on the other
unfoldable pub gather_call : ℕ → ℕ → List Float → List Float → Reply (Unit {0}) × List Float
gather_call n marks src dst =
    let ms = marks_of n marks in
    let xs = free_of ms src in
    elim (ltb (length src) n || ltb (length dst) (free_count ms)) [
      | true ↦ (refused 3, dst)
      | false ↦ (answered tt, xs ++ drop (length xs) dst)
    ]

unfoldable pub merge_call : ℕ → ℕ → List Float → List Float → Reply (Unit {0}) × List Float
merge_call n marks src dst =
    let ms = marks_of n marks in
    elim (ltb (length dst) n || ltb (length src) (free_count ms)) [
      | true ↦ (refused 3, dst)
      | false ↦ (answered tt, merged ms dst src)
    ]

-- 2: sizes out of range; 3: fewer than m·n numbers on one side, than m for each free column on the other
unfoldable pub columns_call : ℕ → ℕ → ℕ → List Float → List Float → Reply (Unit {0}) × List Float
columns_call m n marks src dst =
    let ms = marks_of n marks in
    let xs = free_columns m ms src in
    elim (outside m n) [
      | true ↦ (refused 2, dst)
      | false ↦ elim (ltb (length src) (m * n) || ltb (length dst) (m * free_count ms)) [
        | true ↦ (refused 3, dst)
        | false ↦ (answered tt, xs ++ drop (length xs) dst)
      ]
    ]
