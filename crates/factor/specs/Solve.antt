-- 01, module 4: rank, the zero solve, and where an answer entry goes.
use Rattle.std.specs.Prelude.{ℕ, suc, ◌-◌, Bool, true, cond, ◌&&◌, not, List, [], ◌∷◌, ◌++◌, map, leb, length, take, get_or, set, Float}
use Rattle.std.specs.Float.{nan, binary64}
use Rattle.std.specs.Float.Ieee.{eq, sub, div}
use Rattle.leaves.specs.Number.{plus_zero}
use Rattle.leaves.specs.Triangle.{solve_down}
use Rattle.leaves.specs.Square.{zeros, diagonal}
use Rattle.leaves.specs.Vector.{dot_of}

-- Rank is the place of the first exact zero.
unfoldable pub rank : List Float → ℕ
rank [] = 0
rank (d ∷ ds) = cond (eq d plus_zero) 0 (suc (rank ds))

-- R's rank: at most min(m, n)
abbrev pub r_rank : ℕ → List (List Float) → ℕ
r_rank m upper = rank (take m (diagonal upper))

-- An answer entry goes to the column that the order list names.
unfoldable pub scatter : List ℕ → List Float → List Float → List Float
scatter [] xs out = out
scatter (o ∷ os) [] out = out
scatter (o ∷ os) (x ∷ xs) out = scatter os xs (set out o x)

-- an argument's entries in pivot order
unfoldable pub gather : List ℕ → List Float → List Float
gather order xs = map (λ o. get_or xs o nan) order

-- numbers for the places before the rank; later places are 0
abbrev pub padded : ℕ → List Float → List Float
padded n xs = xs ++ zeros (n - length xs)

-- the zero solve, in pivot order, with R by columns
unfoldable pub zero_solved : ℕ → List (List Float) → List Float → List Float
zero_solved m upper qtb = let k = r_rank m upper in padded (length qtb) (solve_down upper k (take k qtb))

-- A has rank n.
unfoldable pub no_zero : List Float → Bool
no_zero [] = true
no_zero (d ∷ ds) = not (eq d plus_zero) && no_zero ds

unfoldable pub non_singular_of : ℕ → ℕ → List (List Float) → Bool
non_singular_of m n upper = leb n m && no_zero (diagonal upper)

-- Lᵀ·x = right side, from the last place down, with L's diagonal and the columns under it
unfoldable pub backward : List Float → List (List Float) → List Float → List Float
backward [] ls bs = []
backward (d ∷ ds) [] bs = []
backward (d ∷ ds) (l ∷ ls) [] = []
backward (d ∷ ds) (l ∷ ls) (b ∷ bs) =
    let xs = backward ds ls bs in
    div binary64 (sub binary64 b (dot_of (take (length xs) l) xs)) d ∷ xs

-- the damped solve, in pivot order: rank is at most n for L, later places are 0
unfoldable pub damped_solved : List Float → List (List Float) → List Float → List Float
damped_solved ldiag below rhs = let k = rank ldiag in padded (length rhs) (backward (take k ldiag) (take k below) (take k rhs))
