-- 01, 'Refusal numbers, tested in this order', with what 02, #108, adds: 2 also for a mark past n, 4 also for a list not of its form, and 9, no
-- column free, after 7 and before 8.
use Rattle.std.specs.Prelude.{ℕ, suc, min, Bool, true, false, not, ◌&&◌, ◌||◌, List, [], ◌∷◌, ◌++◌, ltb, eqb, length, take, drop}
use Rattle.leaves.specs.Tests.{outside, Test, first_of}
use Rattle.frozen.specs.Frozen.{marks_of, mark_past, free_count}
use Rattle.factor.specs.State.{is_empty, store_need}
use Rattle.factor.specs.Tests.{is_permutation}
use Rattle.calls.specs.declared.state.State.{State}
use Rattle.calls.specs.State.{cols}

abbrev pub marked_room_tests : State → ℕ → ℕ → List Test
marked_room_tests st store shortest =
    (is_empty st.held, 5)
    ∷ (outside st.m st.n || mark_past st.n st.marks, 2)
    ∷ (ltb store (store_need st.n) || ltb shortest st.n, 3)
    ∷ []

-- 'the remaining places continue the count'
unfoldable pub continues : ℕ → List ℕ → Bool
continues k [] = true
continues k (x ∷ xs) = eqb x k && continues (suc k) xs

-- 4: the free columns, counted from 0 among themselves, in the first places; then the count goes on
abbrev pub is_order : ℕ → ℕ → List ℕ → Bool
is_order free n order = is_permutation free order && continues free (drop free (take n order))

-- an order list by itself: 2 and 3 before 4
abbrev pub form_tests : ℕ → ℕ → List ℕ → List Test
form_tests n marks order =
    (outside 1 n || mark_past n marks, 2)
    ∷ (ltb (length order) n, 3)
    ∷ (not (is_order (free_count (marks_of n marks)) n order), 4)
    ∷ []

abbrev pub form_test : State → List ℕ → Test
form_test st order = (not (is_order (cols st) st.n order), 4)

abbrev pub marked_solve_tests : State → ℕ → List ℕ → ℕ → List Test
marked_solve_tests st store order shortest = marked_room_tests st store (min (length order) shortest) ++ (form_test st order ∷ [])

-- 9: no column free
abbrev pub free_test : State → Test
free_test st = (eqb (cols st) 0, 9)

-- A call: with no mark set, as without marks; else refused by the first of its tests that holds, or worked out on the free columns.
abbrev pub call_by : {A : Type 0} → ℕ → List Test → A → A → (ℕ → A) → A
call_by marks tests unmarked worked refusal = elim (eqb marks 0) [
  | true ↦ unmarked
  | false ↦ elim (eqb (first_of tests) 0) [ true ↦ worked | false ↦ refusal (first_of tests) ]
]
