-- 02, #108: one mark for each column, the mark of column 0 the most significant of sixteen bits; true for a frozen column. The bits are read
-- here alone; everywhere else the marks are a list.
use Rattle.std.specs.Prelude.{ℕ, zero, suc, ◌-◌, ◌*◌, Bool, true, false, cond, not, List, [], ◌∷◌, ◌++◌, eqb, leb, take, drop}

-- whether the first column is frozen
abbrev pub is_set : ℕ → Bool
is_set x = leb 32768 x

-- the marks of the columns after the first
abbrev pub next_of : ℕ → ℕ
next_of x = 2 * cond (is_set x) (x - 32768) x

unfoldable pub marks_of : ℕ → ℕ → List Bool
marks_of zero x = []
marks_of (suc n) x = is_set x ∷ marks_of n (next_of x)

-- 2: a mark past n
unfoldable pub mark_past : ℕ → ℕ → Bool
mark_past zero x = not (eqb x 0)
mark_past (suc n) x = mark_past n (next_of x)

-- ---- what is worked on, and where its answer goes

-- how many columns are free
unfoldable pub free_count : List Bool → ℕ
free_count [] = 0
free_count (true ∷ ms) = free_count ms
free_count (false ∷ ms) = suc (free_count ms)

module _ {A : Type 0} where
  -- what stands at the free columns
  unfoldable pub free_of : List Bool → List A → List A
  free_of [] xs = []
  free_of (b ∷ ms) [] = []
  free_of (true ∷ ms) (x ∷ xs) = free_of ms xs
  free_of (false ∷ ms) (x ∷ xs) = x ∷ free_of ms xs

  -- the new at the free columns, the old at the frozen ones and past the marks
  unfoldable pub merged : List Bool → List A → List A → List A
  merged [] old new = old
  merged (b ∷ ms) [] new = []
  merged (true ∷ ms) (o ∷ os) new = o ∷ merged ms os new
  merged (false ∷ ms) (o ∷ os) [] = o ∷ os
  merged (false ∷ ms) (o ∷ os) (x ∷ xs) = x ∷ merged ms os xs

  -- the free columns, one after the other, of a matrix of m rows by columns
  unfoldable pub free_columns : ℕ → List Bool → List A → List A
  free_columns m [] xs = []
  free_columns m (true ∷ ms) xs = free_columns m ms (drop m xs)
  free_columns m (false ∷ ms) xs = take m xs ++ free_columns m ms (drop m xs)
