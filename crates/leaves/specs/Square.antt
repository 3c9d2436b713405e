-- 01, 'Lent room': an n×n square, column by column: R's columns on and above the diagonal, and what stands below.
use Rattle.std.specs.Prelude.{ℕ, suc, List, [], ◌∷◌, ◌++◌, length, take, drop, get_or, replicate, Float}
use Rattle.std.specs.Float.{nan}
use Rattle.leaves.specs.Number.{plus_zero}
use Rattle.leaves.specs.Triangle.{columns}

-- the first k + 1 of the first column, k + 2 of the next, ..
unfoldable pub uppers_from : ℕ → List (List Float) → List (List Float)
uppers_from k [] = []
uppers_from k (c ∷ cs) = take (suc k) c ∷ uppers_from (suc k) cs

-- and what is left of each
unfoldable pub belows_from : ℕ → List (List Float) → List (List Float)
belows_from k [] = []
belows_from k (c ∷ cs) = drop (suc k) c ∷ belows_from (suc k) cs

-- R, and what stands below it, of an n×n square
abbrev pub uppers_of : ℕ → List Float → List (List Float)
uppers_of n s = uppers_from 0 (columns n n s)

abbrev pub belows_of : ℕ → List Float → List (List Float)
belows_of n s = belows_from 0 (columns n n s)

-- the columns one after the other, each its upper and its lower end
unfoldable pub joined : List (List Float) → List (List Float) → List Float
joined [] ls = []
joined (u ∷ us) [] = u ++ joined us []
joined (u ∷ us) (l ∷ ls) = (u ++ l) ++ joined us ls

abbrev pub zeros : ℕ → List Float
zeros k = replicate k plus_zero

-- R's diagonal: the last of each column
unfoldable pub diagonal_from : ℕ → List (List Float) → List Float
diagonal_from k [] = []
diagonal_from k (c ∷ cs) = get_or c k nan ∷ diagonal_from (suc k) cs

abbrev pub diagonal : List (List Float) → List Float
diagonal upper = diagonal_from 0 upper

-- each column's lower end as +0
unfoldable pub cleared : List (List Float) → List (List Float)
cleared [] = []
cleared (l ∷ ls) = zeros (length l) ∷ cleared ls
