-- 02, #108: the reduced problem stands at the first places of each part of the store, its columns still n apart. Here it is with its columns
-- next to one another, as a store of its own.
use Rattle.std.specs.Prelude.{ℕ, zero, suc, ◌+◌, ◌-◌, ◌*◌, true, false, ◌||◌, List, [], ◌++◌, ltb, length, take, drop, Float}
use Rattle.leaves.specs.Reply.{Reply, answered, refused}
use Rattle.leaves.specs.Square.{zeros}
use Rattle.leaves.specs.Tests.{outside}

-- the first w of each of k runs, which stand apart from one another
unfoldable pub runs : ℕ → ℕ → ℕ → List Float → List Float
runs w apart zero s = []
runs w apart (suc k) s = take w s ++ runs w apart k (drop apart s)

-- of the square, then of qt_b, column norms, l_diag and work
unfoldable pub narrowed : ℕ → ℕ → List Float → List Float
narrowed n free s = runs free n free s ++ runs free n 4 (drop (n * n) s)

-- 2: n out of range, or free not from 1 to n; 3: a slice too short
unfoldable pub narrow_call : ℕ → ℕ → List Float → List Float → Reply (Unit {0}) × List Float
narrow_call n free store small =
    let need = free * free + 4 * free in
    elim ((outside 1 n || outside 1 free) || ltb n free) [
      | true ↦ (refused 2, small)
      | false ↦ elim (ltb (length store) (n * n + 4 * n) || ltb (length small) need) [
        | true ↦ (refused 3, small)
        | false ↦ (answered tt, narrowed n free store ++ drop need small)
      ]
    ]

-- ---- the way back, after a factoring: '+0 past the free count'

-- k runs of w numbers, each followed by +0 up to where the next begins
unfoldable pub spread : ℕ → ℕ → ℕ → List Float → List Float
spread w apart zero s = []
spread w apart (suc k) s = take w s ++ (zeros (apart - w) ++ spread w apart k (drop w s))

-- the square, its further columns +0; then qt_b, column norms, l_diag and work
unfoldable pub spread_out : ℕ → ℕ → List Float → List Float
spread_out n free s = spread free n free s ++ (zeros ((n - free) * n) ++ spread free n 4 (drop (free * free) s))

-- refused as `narrow_call` is
unfoldable pub spread_call : ℕ → ℕ → List Float → List Float → Reply (Unit {0}) × List Float
spread_call n free small store =
    let need = n * n + 4 * n in
    elim ((outside 1 n || outside 1 free) || ltb n free) [
      | true ↦ (refused 2, store)
      | false ↦ elim (ltb (length small) (free * free + 4 * free) || ltb (length store) need) [
        | true ↦ (refused 3, store)
        | false ↦ (answered tt, spread_out n free small ++ drop need store)
      ]
    ]
