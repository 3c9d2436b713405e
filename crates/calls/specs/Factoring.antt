-- 01, modules 2 and 3, with 02, #108: factoring as its callers see it.
use Rattle.std.specs.Prelude.{ℕ, ◌-◌, ◌*◌, not, ◌||◌, List, [], ◌∷◌, ◌++◌, eqb, ltb, length, take, drop, Float}
use Rattle.leaves.specs.Loop.{count_from}
use Rattle.leaves.specs.Reply.{Reply, answered, refused}
use Rattle.leaves.specs.Square.{zeros}
use Rattle.leaves.specs.Tests.{outside, Test, all_finite}
use Rattle.leaves.specs.declared.norm.Ranges.{Ranges}
use Rattle.frozen.specs.Frozen.{marks_of, mark_past, free_count, free_columns}
use Rattle.frozen.specs.Narrowed.{spread_out}
use Rattle.factor.specs.State.{store_need, bench_need}
use Rattle.factor.specs.Outcome.{written}
use Rattle.factor.specs.Factoring as plain
use Rattle.calls.specs.declared.state.State.{State}
use Rattle.calls.specs.State.{no_problem, marked}
use Rattle.calls.specs.Tests.{call_by}

pub record MarkedFactored : Type 0 where
  pub reply : Reply Ranges
  pub state : State
  pub store : List Float
  pub order : List ℕ
  pub bench : List Float

abbrev pub marked_factored : Reply Ranges → State → List Float → List ℕ → List Float → MarkedFactored
marked_factored a st s o b = record { reply = a; state = st; store = s; order = o; bench = b }

abbrev pub marked_factor_tests : ℕ → ℕ → ℕ → List Float → List Float → ℕ → ℕ → ℕ → List Test
marked_factor_tests m n marks jacobian residuals store order bench =
    (outside m n || mark_past n marks, 2)
    ∷ (ltb (length jacobian) (m * n) || ltb (length residuals) m || ltb store (store_need n) || ltb order n || ltb bench (bench_need m n), 3)
    ∷ (not (all_finite (take (m * n) jacobian)), 6)
    ∷ (not (all_finite (take m residuals)), 6)
    ∷ (eqb (free_count (marks_of n marks)) 0, 9)
    ∷ []

-- with no mark: what the factoring without marks leaves
abbrev pub factored_as : plain.Factored → MarkedFactored
factored_as e = marked_factored e.reply (marked 0 e.state) e.store e.order e.bench

-- The reduced problem fills the first places of each part of the store, its columns still n apart, +0 past the free count; the order list's
-- remaining places continue the count. Refused 8, all is as after a factoring without marks that is refused 8.
abbrev pub factored_if : ℕ → ℕ → ℕ → ℕ → Reply Ranges → plain.Factored → List Float → List ℕ → List Float → MarkedFactored
factored_if m n marks free (answered seen) e store order bench =
    marked_factored (answered seen) (record { m = m; n = n; held = e.state.held; marks = marks }) (written (spread_out n free e.store) store)
    (e.order ++ (count_from (n - free) free ++ drop n order)) (written (zeros (bench_need m n)) bench)
factored_if m n marks free (refused k) e store order bench =
    marked_factored (refused k) no_problem (written (zeros (store_need n)) store) (count_from n 0 ++ drop n order) (written (zeros (bench_need m n)) bench)

unfoldable pub marked_factoring : ℕ → ℕ → ℕ → List Float → List Float → List Float → List ℕ → List Float → MarkedFactored
marked_factoring m n marks jacobian residuals store order bench =
    let ms = marks_of n marks in
    let free = free_count ms in
    let e = plain.factor_call m free (free_columns m ms jacobian) residuals (zeros (store_need free)) (take free order) (zeros (bench_need m free)) in
    call_by marks (marked_factor_tests m n marks jacobian residuals (length store) (length order) (length bench))
    (factored_as (plain.factor_call m n jacobian residuals store order bench))
    (factored_if m n marks free e.reply e store order bench)
    (λ k. marked_factored (refused k) no_problem store order bench)
