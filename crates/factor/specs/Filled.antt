-- 02, #108: the result of a factoring must be that of the problem without the frozen columns, so its caller gathers the free ones in the bench,
-- and the residuals behind them. This is the factoring of what stands there: a working on numbers that are lent, sizes and slices, and no
-- state. Test 6 is its caller's, which reads the frozen columns too.
use Rattle.std.specs.Prelude.{ℕ, ◌*◌, true, false, List, [], ◌∷◌, ◌++◌, eqb, ltb, length, take, drop, Float}
use Rattle.leaves.specs.Reply.{Reply, refused}
use Rattle.leaves.specs.Tests.{Test, first_of}
use Rattle.leaves.specs.declared.norm.Ranges.{Ranges}
use Rattle.factor.specs.State.{bench_need}
use Rattle.factor.specs.Tests.{size_tests}
use Rattle.factor.specs.Factoring.{Factored, factor_worked}

-- the answer, and every lent slice
pub record Filled : Type 0 where
  pub reply : Reply Ranges
  pub store : List Float
  pub order : List ℕ
  pub bench : List Float

abbrev pub filled_as : Reply Ranges → List Float → List ℕ → List Float → Filled
filled_as a s o b = record { reply = a; store = s; order = o; bench = b }

-- a factoring without its state
abbrev pub filled_of : Factored → Filled
filled_of x = filled_as x.reply x.store x.order x.bench

-- 2 for the sizes; 3 for a store, an order list or a bench that is too short
abbrev pub filled_tests : ℕ → ℕ → ℕ → ℕ → ℕ → List Test
filled_tests m n store order bench = size_tests m n store order ++ ((ltb bench (bench_need m n), 3) ∷ [])

-- the Jacobian's m·n, and then the residuals
unfoldable pub factor_filled : ℕ → ℕ → List Float → List ℕ → List Float → Filled
factor_filled m n store order bench =
    let c = first_of (filled_tests m n (length store) (length order) (length bench)) in
    elim (eqb c 0) [ true ↦ filled_of (factor_worked m n (take (m * n) bench) (drop (m * n) bench) store order bench) | false ↦ filled_as (refused c) store order bench ]
