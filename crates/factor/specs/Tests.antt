-- 01, 'Refusal numbers, tested in this order', as definitions over values. A call lists the tests whose subject it has.
use Rattle.std.specs.Prelude.{ℕ, min, Bool, true, not, ◌&&◌, ◌||◌, List, [], ◌∷◌, ◌++◌, ltb, eqb, length, take, Float}
use Rattle.std.specs.Float.Ieee.{le, lt}
use Rattle.leaves.specs.Number.{is_finite, plus_zero}
use Rattle.factor.specs.State.{is_empty, is_nothing, store_need}
use Rattle.leaves.specs.Tests.{outside, Test, first_of, all_finite}
use Rattle.factor.specs.declared.state.State.{State}

-- 4: the order list's first n are a permutation of 0 to n−1: each below n, and none twice
unfoldable pub absent : ℕ → List ℕ → Bool
absent v [] = true
absent v (x ∷ xs) = not (eqb v x) && absent v xs

unfoldable pub distinct_below : ℕ → List ℕ → Bool
distinct_below n [] = true
distinct_below n (x ∷ xs) = (ltb x n && absent x xs) && distinct_below n xs

abbrev pub is_permutation : ℕ → List ℕ → Bool
is_permutation n order = distinct_below n (take n order)

-- an order list by itself: 2 and 3 before 4
abbrev pub permutation_tests : ℕ → List ℕ → List Test
permutation_tests n order =
    (outside 1 n, 2)
    ∷ (ltb (length order) n, 3)
    ∷ (not (is_permutation n order), 4)
    ∷ []

-- 7: ≤ 0, and < 0
abbrev pub not_above : Float → Bool
not_above x = le x plus_zero

abbrev pub below : Float → Bool
below x = lt x plus_zero

-- What every working on lent numbers tests: 2 for the sizes, 3 where the store, or the shortest of the slices that hold a number for each
-- column, is too short. A working that has no m among its sizes says 1, which is in range.
abbrev pub size_tests : ℕ → ℕ → ℕ → ℕ → List Test
size_tests m n store shortest =
    (outside m n, 2)
    ∷ (ltb store (store_need n) || ltb shortest n, 3)
    ∷ []

-- the number by which a working is refused, 0 for none
abbrev pub tested : ℕ → ℕ → List Float → ℕ → ℕ
tested m n store shortest = first_of (size_tests m n (length store) shortest)

-- What every call with a state tests first: 5 for an empty state, before its sizes are read; then the same.
abbrev pub room_tests : State → ℕ → ℕ → List Test
room_tests st store shortest = (is_empty st.held, 5) ∷ size_tests st.m st.n store shortest

abbrev pub order_test : State → List ℕ → Test
order_test st order = (not (is_permutation st.n order), 4)

-- 5: a held call with held nothing
abbrev pub held_test : State → Test
held_test st = (is_nothing st.held, 5)

-- 6 for a slice of which n numbers are read
abbrev pub finite_test : State → List Float → Test
finite_test st xs = (not (all_finite (take st.n xs)), 6)

abbrev pub finite_number : Float → Test
finite_number x = (not (is_finite x), 6)

abbrev pub solve_tests : State → ℕ → List ℕ → ℕ → List Test
solve_tests st store order shortest = room_tests st store (min (length order) shortest) ++ (order_test st order ∷ [])
