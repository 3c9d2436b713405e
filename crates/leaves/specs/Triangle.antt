-- 01, 'Leaf rules', upper triangular solve, over a matrix as a list of columns.
use Rattle.std.specs.Prelude.{ℕ, zero, suc, ◌*◌, cond, List, [], ◌∷◌, ◌++◌, ltb, length, get_or, take, drop, Float}
use Rattle.std.specs.Float.{nan, binary64}
use Rattle.std.specs.Float.Ieee.{div, neg}
use Rattle.leaves.specs.Reply.{Reply, answered, refused}
use Rattle.leaves.specs.Vector.{axpy_all}

-- k columns, each the next `apart` numbers
unfoldable pub columns : ℕ → ℕ → List Float → List (List Float)
columns apart zero s = []
columns apart (suc k) s = take apart s ∷ columns apart k (drop apart s)

-- Place i is divided by the diagonal; then the negated result times the column above is added to the places above.
unfoldable pub solve_place : List (List Float) → ℕ → List Float → List Float
solve_place cols i x =
    let c = get_or cols i [] in
    let q = div binary64 (get_or x i nan) (get_or c i nan) in
    axpy_all (neg q) (take i c) (take i x) ++ (q ∷ drop (suc i) x)

-- From the last place down.
unfoldable pub solve_down : List (List Float) → ℕ → List Float → List Float
solve_down cols zero x = x
solve_down cols (suc i) x = solve_down cols i (solve_place cols i x)

-- Refused 3 where a column is shorter than the triangle, x shorter than its n places, or the matrix than its n columns.
unfoldable pub solve_upper : ℕ → ℕ → List Float → List Float → Reply (Unit {0}) × List Float
solve_upper apart n r x =
    cond (ltb apart n) (refused 3, x)
    (cond (ltb (length x) n) (refused 3, x)
    (cond (ltb (length r) (n * apart)) (refused 3, x)
    (answered tt, solve_down (columns apart n r) n x)))
