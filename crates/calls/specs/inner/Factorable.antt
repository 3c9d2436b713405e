-- What the inner functions of factoring need of a lent problem whose tests are passed, and the first of these tests. No public contract cites it.
use Rattle.std.specs.Prelude.{ℕ, ◌*◌, ◌≤◌, ◌<◌, ◌≡◌, true, false, ◌||◌, List, [], ◌∷◌, ltb, length, take, Float}
use Rattle.leaves.specs.Reply.{Reply, answered, refused}
use Rattle.leaves.specs.Square.{zeros}
use Rattle.leaves.specs.Tests.{outside, Test, all_finite}
use Rattle.leaves.specs.declared.norm.Ranges.{Ranges}
use Rattle.frozen.specs.Frozen.{marks_of, mark_past, free_count}
use Rattle.frozen.specs.Narrowed.{spread_out}
use Rattle.factor.specs.State.{store_need, bench_need}
use Rattle.factor.specs.declared.state.Held.TheVariants as held
use Rattle.calls.specs.declared.state.State.{State}
use Rattle.calls.specs.State.{no_problem}

-- 2 and 3, of lengths
abbrev pub length_tests : ℕ → ℕ → ℕ → ℕ → ℕ → ℕ → ℕ → ℕ → List Test
length_tests m n marks jacobian residuals store order bench =
    (outside m n || mark_past n marks, 2)
    ∷ (ltb jacobian (m * n) || ltb residuals m || ltb store (store_need n) || ltb order n || ltb bench (bench_need m n), 3)
    ∷ []

-- some columns of n are free; Jacobian and residuals are long enough, and finite
pub record Factorable (m n marks free : ℕ) (jacobian residuals : List Float) : Type 0 where
  pub inside : outside m n ≡ false
  pub counted : free ≡ free_count (marks_of n marks)
  pub some : 0 < free
  pub fits : free ≤ n
  pub jacobian_long : m * n ≤ length jacobian
  pub residuals_long : m ≤ length residuals
  pub jacobian_finite : all_finite (take (m * n) jacobian) ≡ true
  pub residuals_finite : all_finite (take m residuals) ≡ true

-- ---- what is left by the factoring of the free columns, by its answer

-- the state: of these sizes and marks with nothing held; refused, the empty one
abbrev pub state_left : ℕ → ℕ → ℕ → Reply Ranges → State
state_left m n marks (answered seen) = record { m = m; n = n; held = held.Nothing; marks = marks }
state_left m n marks (refused k) = no_problem

-- what is written over a store at whose first places the reduced problem's stands
abbrev pub store_left : ℕ → ℕ → Reply Ranges → List Float → List Float
store_left n free (answered seen) store = spread_out n free (take (store_need free) store)
store_left n free (refused k) store = zeros (store_need n)
