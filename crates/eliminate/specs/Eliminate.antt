-- 01, module 5: a diagonal is eliminated against R by rotations, and the damped solve. R is taken by rows from its diagonal on, and
-- so is Lᵀ: row k of Lᵀ is the diagonal entry of L at place k and what stands under it.
use Rattle.std.specs.Prelude.{ℕ, suc, ◌-◌, true, false, cond, List, [], ◌∷◌, map, negsuc, length, drop, get_or, Float}
use Rattle.std.specs.Float.{nan, fin, binary64}
use Rattle.std.specs.Float.Ieee.{add, mul, div, neg, eq, lt}
use Rattle.leaves.specs.Number.{plus_zero, abs_of}
use Rattle.leaves.specs.Root.{root_s}
use Rattle.leaves.specs.Square.{zeros}
use Rattle.eliminate.specs.declared.eliminate.Rotation.{Rotation}

abbrev pub half : Float
half = fin false 1 (negsuc 0)

abbrev pub quarter : Float
quarter = fin false 1 (negsuc 1)

-- 0.5 / sqrt(0.25 + 0.25·(t·t))
unfoldable pub lesser : Float → Float
lesser t = div binary64 half (root_s (add binary64 quarter (mul binary64 quarter (mul binary64 t t))))

-- rotations by |r| < |l| as shown
unfoldable pub by_cot : Float → Float → Rotation
by_cot r l = let cot = div binary64 r l in record { sin = lesser cot; cos = mul binary64 (lesser cot) cot }

unfoldable pub by_tan : Float → Float → Rotation
by_tan r l = let tan = div binary64 l r in record { sin = mul binary64 (lesser tan) tan; cos = lesser tan }

unfoldable pub givens : Float → Float → Rotation
givens r l = cond (lt (abs_of r) (abs_of l)) (by_cot r l) (by_tan r l)

-- a pair of numbers rotated: cos·x + sin·y, and −sin·x + cos·y
unfoldable pub turned : Rotation → Float → Float → Float
turned g x y = add binary64 (mul binary64 g.cos x) (mul binary64 g.sin y)

unfoldable pub left : Rotation → Float → Float → Float
left g x y = add binary64 (mul binary64 (neg g.sin) x) (mul binary64 g.cos y)

unfoldable pub turned_all : Rotation → List Float → List Float → List Float
turned_all g [] ys = []
turned_all g (x ∷ xs) [] = []
turned_all g (x ∷ xs) (y ∷ ys) = turned g x y ∷ turned_all g xs ys

unfoldable pub left_all : Rotation → List Float → List Float → List Float
left_all g [] ys = []
left_all g (x ∷ xs) [] = []
left_all g (x ∷ xs) (y ∷ ys) = left g x y ∷ left_all g xs ys

-- rows, and the right side that goes with them
abbrev pub Rows : Type 0
Rows = List (List Float) × List Float

abbrev pub cons : List Float → Float → Rows → Rows
cons row b rest = (row ∷ rest.0, b ∷ rest.1)

-- The new row l, whose right side is q, is rotated into the rows one after the other; where its entry is zero a row is skipped.
unfoldable pub rotated : List (List Float) → List Float → List Float → Float → Rows
rotated [] bs ls q = ([], bs)
rotated (row ∷ rows) [] ls q = (row ∷ rows, [])
rotated (row ∷ rows) (b ∷ bs) [] q = (row ∷ rows, b ∷ bs)
rotated (row ∷ rows) (b ∷ bs) (l ∷ ls) q =
    elim (eq l plus_zero) [
      | true ↦ cons row b (rotated rows bs ls q)
      | false ↦
          let g = givens (get_or row 0 nan) l in
          cons (turned g (get_or row 0 nan) l ∷ turned_all g (drop 1 row) ls) (turned g b q) (rotated rows bs (left_all g (drop 1 row) ls) (left g b q))
    ]

-- d and zeros after it, rotated into the rows; a zero diagonal entry is skipped
unfoldable pub started : Float → List (List Float) → List Float → Rows
started d rows bs = cond (eq d plus_zero) (rows, bs) (rotated rows bs (d ∷ zeros (length rows - 1)) plus_zero)

-- the first row done, the others by f
abbrev pub onward : (List (List Float) → List Float → Rows) → List (List Float) → List Float → Rows
onward f [] bs = ([], bs)
onward f (row ∷ rows) [] = (row ∷ rows, [])
onward f (row ∷ rows) (b ∷ bs) = cons row b (f rows bs)

-- place by place: row k is done once its own diagonal entry has been rotated in
unfoldable pub eliminated : List Float → List (List Float) → List Float → Rows
eliminated [] rows bs = (rows, bs)
eliminated (d ∷ ds) rows bs = let x = started d rows bs in onward (λ rs cs. eliminated ds rs cs) x.0 x.1

-- R by rows from the diagonal on: row k has place k of column k and of each later one
unfoldable pub rows_from : ℕ → List (List Float) → List (List Float)
rows_from k [] = []
rows_from k (c ∷ cs) = map (λ d. get_or d k nan) (c ∷ cs) ∷ rows_from (suc k) cs

-- a diagonal, its entries in pivot order, eliminated against R and qt_b
unfoldable pub damping : List Float → List (List Float) → List Float → Rows
damping ds upper qtb = eliminated ds (rows_from 0 upper) qtb

-- what is left in the room: L's diagonal, and L under it
unfoldable pub heads : List (List Float) → List Float
heads rows = map (λ l. get_or l 0 nan) rows

unfoldable pub tails : List (List Float) → List (List Float)
tails rows = map (λ l. drop 1 l) rows
