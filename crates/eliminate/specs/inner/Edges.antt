-- Intermediate, for the contracts of the inner functions of `eliminate`; `Eliminates` alone is what the other modules cite.
-- While a diagonal is eliminated, column k of the square holds row k of R, later of Lᵀ, from its diagonal on.
use Rattle.std.specs.Prelude.{ℕ, suc, ◌≡◌, List, [], ◌∷◌, ◌++◌, take, drop, get_or, set, Float}
use Rattle.std.specs.Float.{nan}
use Rattle.leaves.specs.Triangle.{columns}
use Rattle.leaves.specs.Square.{uppers_of, belows_of}
use Rattle.eliminate.specs.Eliminate.{Rows, givens, turned, left, turned_all, left_all, rotated, damping, heads, tails, rows_from}
use Rattle.eliminate.specs.declared.eliminate.Pair.{Pair}

-- each column from its diagonal on, and what stands above
unfoldable pub edges_from : ℕ → List (List Float) → List (List Float)
edges_from k [] = []
edges_from k (c ∷ cs) = drop k c ∷ edges_from (suc k) cs

unfoldable pub aboves_from : ℕ → List (List Float) → List (List Float)
aboves_from k [] = []
aboves_from k (c ∷ cs) = take k c ∷ aboves_from (suc k) cs

abbrev pub edges_of : ℕ → List Float → List (List Float)
edges_of n s = edges_from 0 (columns n n s)

abbrev pub aboves_of : ℕ → List Float → List (List Float)
aboves_of n s = aboves_from 0 (columns n n s)

-- the first k as they are, then x
abbrev pub up_to : ℕ → List (List Float) → List Float → Rows → Rows
up_to k rows bs x = (take k rows ++ x.0, take k bs ++ x.1)

-- what a square's rows and the right side become once the new row l, whose right side is q, has been rotated in from place k on
abbrev pub ahead : ℕ → ℕ → List Float → List Float → List Float → Float → Rows
ahead n k s bs l q = up_to k (edges_of n s) bs (rotated (drop k (edges_of n s)) (drop k bs) (drop k l) q)

-- one rotation: a row and the new row, from the row's diagonal on, and their right sides
pub record TurnsPlace (col col' l l' : List Float) (b q : Float) (p : Pair) : Type 0 where
  pub row : col' ≡ turned_all (givens (get_or col 0 nan) (get_or l 0 nan)) col l
  pub new : l' ≡ left_all (givens (get_or col 0 nan) (get_or l 0 nan)) col l
  pub side : p.b ≡ turned (givens (get_or col 0 nan) (get_or l 0 nan)) b q
  pub rest : p.rest ≡ left (givens (get_or col 0 nan) (get_or l 0 nan)) b q

-- s becomes s': what is ahead is the same
pub record Ahead (n : ℕ) (s s' : List Float) (before after : Rows) : Type 0 where
  pub same : after ≡ before
  pub above : aboves_of n s' ≡ aboves_of n s

-- s becomes s' and the right side bs: they are x
pub record Turns (n : ℕ) (s s' bs : List Float) (x : Rows) : Type 0 where
  pub rows : edges_of n s' ≡ x.0
  pub right : bs ≡ x.1
  pub above : aboves_of n s' ≡ aboves_of n s

-- row k becomes v and what stood after its first
pub record Ends (n k : ℕ) (s s' : List Float) (v old : Float) : Type 0 where
  pub first : old ≡ get_or (get_or (edges_of n s) k []) 0 nan
  pub rows : edges_of n s' ≡ set (edges_of n s) k (v ∷ drop 1 (get_or (edges_of n s) k []))
  pub above : aboves_of n s' ≡ aboves_of n s

-- column k of the square becomes row k of R, from the diagonal on
pub record MirrorsColumn (n k : ℕ) (s s' : List Float) : Type 0 where
  pub rows : edges_of n s' ≡ set (edges_of n s) k (get_or (rows_from 0 (uppers_of n s)) k [])
  pub upper : uppers_of n s' ≡ uppers_of n s

-- R's transpose stands below R.
pub record Mirrors (n : ℕ) (s s' : List Float) : Type 0 where
  pub rows : edges_of n s' ≡ rows_from 0 (uppers_of n s)
  pub upper : uppers_of n s' ≡ uppers_of n s

-- all rows done, and the first entry of each put back
pub record Settles (n : ℕ) (s s' bs' ldiag : List Float) (x : Rows) : Type 0 where
  pub first : heads (edges_of n s') ≡ heads (edges_of n s)
  pub rows : tails (edges_of n s') ≡ tails x.0
  pub diagonal : ldiag ≡ heads x.0
  pub right : bs' ≡ x.1
  pub above : aboves_of n s' ≡ aboves_of n s

-- 01, module 5: the diagonal ds eliminated against R and the right side bs. R stays; L stands below it, its diagonal in ldiag.
pub record Eliminates (n : ℕ) (ds s s' bs bs' ldiag : List Float) : Type 0 where
  pub upper : uppers_of n s' ≡ uppers_of n s
  pub below : belows_of n s' ≡ tails (damping ds (uppers_of n s) bs).0
  pub diagonal : ldiag ≡ heads (damping ds (uppers_of n s) bs).0
  pub right : bs' ≡ (damping ds (uppers_of n s) bs).1
