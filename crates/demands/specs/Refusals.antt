-- Demand 1, 01, 'Refusal numbers, tested in this order': the tests of every call that takes a state, in one table, and what a refusal leaves:
-- everything as it came.
use Rattle.std.specs.Prelude.{List, [], ◌∷◌, ◌++◌, ℕ, min, length, Float}
use Rattle.leaves.specs.Reply.{refused}
use Rattle.leaves.specs.Tests.{Test}
use Rattle.factor.specs.Tests.{room_tests, order_test, held_test, finite_test, finite_number, not_above, below}
use Rattle.demands.specs.Calls.{StoreAnswer, done, number, ranged, count, truth, scaled, StoreOutcome, store_outcome, StoreCall, zero_solve, damped_solve, held_solve, held_product, gradient, above, jx_norm, scaling, determined, non_singular}
use Rattle.factor.specs.declared.state.State.{State}
use Rattle.measures.specs.declared.scaling.Mode.TheVariants as mode
use Rattle.search.specs.Search.{search_tests}
use Rattle.demands.specs.History.{Call, search, Outcome, of_base_outcome, of_search, base}
use Rattle.factor.specs.Outcome.{ended}

-- the shortest of the slices that a call lends with a number for each column
unfoldable pub shortest_of : StoreCall → State → List ℕ → ℕ
shortest_of (zero_solve out) st order = min (length order) (length out)
shortest_of (damped_solve diag out) st order = min (length order) (min (length diag) (length out))
shortest_of (held_solve rhs out) st order = min (length order) (min (length rhs) (length out))
shortest_of (held_product out) st order = length out
shortest_of (gradient bnorm) st order = length order
shortest_of (above bnorm limit) st order = length order
shortest_of (jx_norm x) st order = min (length order) (length x)
shortest_of (scaling mode.FirstScaled diag x bound) st order = min (length diag) (length x)
shortest_of (scaling mode.FirstUnscaled diag x bound) st order = min (length diag) (length x)
shortest_of (scaling mode.LaterScaled diag x bound) st order = length diag
shortest_of (scaling mode.LaterUnscaled diag x bound) st order = length diag
shortest_of determined st order = st.n
shortest_of non_singular st order = st.n

-- what a call tests after emptiness, sizes and lengths
unfoldable pub further_of : StoreCall → State → List ℕ → List Test
further_of (zero_solve out) st order = order_test st order ∷ []
further_of (damped_solve diag out) st order = order_test st order ∷ finite_test st diag ∷ []
further_of (held_solve rhs out) st order = order_test st order ∷ held_test st ∷ finite_test st rhs ∷ []
further_of (held_product out) st order = held_test st ∷ []
further_of (gradient bnorm) st order = order_test st order ∷ finite_number bnorm ∷ (not_above bnorm, 7) ∷ []
further_of (above bnorm limit) st order = order_test st order ∷ finite_number bnorm ∷ finite_number limit ∷ (not_above bnorm, 7) ∷ (below limit, 7) ∷ []
further_of (jx_norm x) st order = order_test st order ∷ finite_test st x ∷ []
further_of (scaling mode.FirstScaled diag x bound) st order = finite_test st x ∷ finite_number bound ∷ (not_above bound, 7) ∷ []
further_of (scaling mode.FirstUnscaled diag x bound) st order = finite_test st x ∷ finite_number bound ∷ (not_above bound, 7) ∷ []
further_of (scaling mode.LaterScaled diag x bound) st order = finite_test st diag ∷ []
further_of (scaling mode.LaterUnscaled diag x bound) st order = []
further_of determined st order = []
further_of non_singular st order = []

-- a call's tests, by the store's length and the order list
abbrev pub store_tests : StoreCall → State → ℕ → List ℕ → List Test
store_tests c st store order = room_tests st store (shortest_of c st order) ++ further_of c st order

-- a refusal in a call's own kind of answer, and the output that it lends
abbrev pub refused_as : StoreCall → ℕ → StoreAnswer
refused_as (zero_solve out) k = done (refused k)
refused_as (damped_solve diag out) k = done (refused k)
refused_as (held_solve rhs out) k = done (refused k)
refused_as (held_product out) k = done (refused k)
refused_as (gradient bnorm) k = number (refused k)
refused_as (above bnorm limit) k = truth (refused k)
refused_as (jx_norm x) k = ranged (refused k)
refused_as (scaling md diag x bound) k = scaled (refused k)
refused_as determined k = count (refused k)
refused_as non_singular k = truth (refused k)

abbrev pub lent_out : StoreCall → List Float
lent_out (zero_solve out) = out
lent_out (damped_solve diag out) = out
lent_out (held_solve rhs out) = out
lent_out (held_product out) = out
lent_out (gradient bnorm) = []
lent_out (above bnorm limit) = []
lent_out (jx_norm x) = []
lent_out (scaling md diag x bound) = diag
lent_out determined = []
lent_out non_singular = []

-- state, store and output as they came
abbrev pub store_refusal : StoreCall → ℕ → State → List Float → StoreOutcome
store_refusal c k st s = store_outcome (refused_as c k) st s (lent_out c)

-- a call's tests, in their order
abbrev pub tests_of : Call → State → List ℕ → List Float → List Test
tests_of (base c) st order s = store_tests c st (length s) order
tests_of (search diag radius lambda out) st order s = search_tests st (length s) order diag radius lambda (length out)

-- a refusal: state, store and output as they came
abbrev pub refusal : Call → ℕ → State → List Float → Outcome
refusal (base c) k st s = of_base_outcome (store_refusal c k st s)
refusal (search diag radius lambda out) k st s = of_search (ended (refused k) st s out)
