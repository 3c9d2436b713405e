-- 01, 'Lent room and what stays in it': the store as a room. This file alone knows the layout: an n×n square, column by column,
-- then qt_b, column norms, l_diag and work, then the surplus. Everywhere else a room is a record: R by columns, what stands below
-- R's diagonal, and the vectors.
use Rattle.std.specs.Prelude.{ℕ, ◌+◌, ◌*◌, List, ◌++◌, length, take, drop, Float}
use Rattle.leaves.specs.Square.{belows_of, cleared, joined, uppers_of, zeros}

-- column k of R is its k + 1 entries on and above the diagonal; column k of `below` the n - 1 - k entries under it
pub record Room : Type 0 where
  pub upper : List (List Float)
  pub below : List (List Float)
  pub qtb : List Float
  pub norms : List Float
  pub ldiag : List Float
  pub work : List Float
  pub rest : List Float

-- part k of the four that follow the square
unfoldable pub part : ℕ → ℕ → List Float → List Float
part n k s = take n (drop (n * n + k * n) s)

unfoldable pub load : ℕ → List Float → Room
load n s = record {
  upper = uppers_of n s;
  below = belows_of n s;
  qtb = part n 0 s;
  norms = part n 1 s;
  ldiag = part n 2 s;
  work = part n 3 s;
  rest = drop (n * n + 4 * n) s;
}

unfoldable pub lay : Room → List Float
lay r = joined r.upper r.below ++ (r.qtb ++ (r.norms ++ (r.ldiag ++ (r.work ++ r.rest))))

-- ---- what the definitions need of a room

-- the room with other things below the diagonal and in l_diag, and work +0: what every call that passes its checks leaves
unfoldable pub leaving : List (List Float) → List Float → Room → Room
leaving below ldiag r = record {
  upper = r.upper;
  below = below;
  qtb = r.qtb;
  norms = r.norms;
  ldiag = ldiag;
  work = zeros (length r.work);
  rest = r.rest;
}

-- work +0 and nothing else changed
abbrev pub rested : Room → Room
rested r = leaving r.below r.ldiag r

-- strict lower part and l_diag +0 too
abbrev pub emptied : Room → Room
emptied r = leaving (cleared r.below) (zeros (length r.ldiag)) r
