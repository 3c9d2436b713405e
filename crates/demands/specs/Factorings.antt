-- Demand 1, 01, 'Lent room and what stays in it': what a factoring leaves that passes its tests, answered or refused 8. The bench is +0 after both.
use Rattle.std.specs.Prelude.{List, ◌++◌, map, ℕ, take, drop, Float}
use Rattle.leaves.specs.Reply.{answered, refused}
use Rattle.leaves.specs.Norm.{norm, ranges_of}
use Rattle.leaves.specs.Triangle.{columns}
use Rattle.leaves.specs.Loop.{count_from}
use Rattle.leaves.specs.Square.{zeros}
use Rattle.reduce.specs.Reduction.{Reduction, reduction_of, measured}
use Rattle.factor.specs.State.{empty, store_need, bench_need}
use Rattle.factor.specs.Room.{Room, lay}
use Rattle.factor.specs.Outcome.{written}
use Rattle.factor.specs.Factoring.{Factored, factored, factored_room}
use Rattle.factor.specs.declared.state.Held.TheVariants as held

abbrev pub reduction_made : ℕ → ℕ → List Float → List Float → Reduction
reduction_made m n jacobian residuals = reduction_of m n (columns m n jacobian) (take m residuals)

abbrev pub room_made : ℕ → ℕ → List Float → List Float → List Float → Room
room_made m n jacobian residuals store =
    factored_room m n (map norm (columns m n jacobian)) (reduction_made m n jacobian residuals) (drop (store_need n) store)

abbrev pub factoring_stands : ℕ → ℕ → List Float → List Float → List Float → List ℕ → List Float → Factored
factoring_stands m n jacobian residuals store order bench =
    factored (answered (ranges_of (measured m n (columns m n jacobian) (take m residuals)))) (record { m = m; n = n; held = held.Nothing }) (lay (room_made m n jacobian residuals store)) ((reduction_made m n jacobian residuals).order ++ drop n order)
    (written (zeros (bench_need m n)) bench)

abbrev pub factoring_breaks : ℕ → ℕ → List Float → List ℕ → List Float → Factored
factoring_breaks m n store order bench =
    factored (refused 8) empty (written (zeros (store_need n)) store) (count_from n 0 ++ drop n order) (written (zeros (bench_need m n)) bench)
