-- 01, module 6, with 02, #108: gradient, the question of #105, norm of Jx, determined and the rank as their callers see them.
use Rattle.std.specs.Prelude.{ℕ, Bool, List, [], ◌∷◌, ◌++◌, length, take, Float}
use Rattle.leaves.specs.Reply.{refused}
use Rattle.leaves.specs.Tests.{Test}
use Rattle.leaves.specs.declared.norm.Ranges.{Ranges}
use Rattle.frozen.specs.Frozen.{free_of}
use Rattle.factor.specs.Tests.{finite_test, finite_number, not_above, below}
use Rattle.measures.specs.Measures as plain
use Rattle.calls.specs.declared.state.State.{State}
use Rattle.calls.specs.State.{marks_in, cols, whole, without_frozen}
use Rattle.calls.specs.Tests.{marked_room_tests, form_test, marked_solve_tests, free_test, call_by}
use Rattle.calls.specs.Outcome.{MarkedTold, marked_told, told_as, narrowed_in, rested_by}

unfoldable pub marked_gradient : State → List ℕ → Float → List Float → MarkedTold Float
marked_gradient st order bnorm store =
    call_by st.marks (marked_room_tests st (length store) (length order) ++ (form_test st order ∷ finite_number bnorm ∷ (not_above bnorm, 7) ∷ free_test st ∷ []))
    (told_as st (plain.gradient_call (whole st) order bnorm store))
    (rested_by st store (plain.gradient_call (without_frozen st) (take (cols st) order) bnorm (narrowed_in st store)))
    (λ k. marked_told (refused k) st store)

-- 02, #105
abbrev pub marked_above_tests : State → ℕ → List ℕ → Float → Float → List Test
marked_above_tests st store order bnorm limit =
    marked_room_tests st store (length order)
    ++ (form_test st order ∷ finite_number bnorm ∷ finite_number limit ∷ (not_above bnorm, 7) ∷ (below limit, 7) ∷ free_test st ∷ [])

unfoldable pub marked_above : State → List ℕ → Float → Float → List Float → MarkedTold Bool
marked_above st order bnorm limit store =
    call_by st.marks (marked_above_tests st (length store) order bnorm limit)
    (told_as st (plain.above_call (whole st) order bnorm limit store))
    (rested_by st store (plain.above_call (without_frozen st) (take (cols st) order) bnorm limit (narrowed_in st store)))
    (λ k. marked_told (refused k) st store)

unfoldable pub marked_jx : State → List ℕ → List Float → List Float → MarkedTold (Float × Ranges)
marked_jx st order x store =
    call_by st.marks (marked_solve_tests st (length store) order (length x) ++ (finite_test (whole st) x ∷ free_test st ∷ []))
    (told_as st (plain.jx_call (whole st) order x store))
    (rested_by st store (plain.jx_call (without_frozen st) (take (cols st) order) (free_of (marks_in st) x) (narrowed_in st store)))
    (λ k. marked_told (refused k) st store)

unfoldable pub marked_determined : State → List Float → MarkedTold ℕ
marked_determined st store =
    call_by st.marks (marked_room_tests st (length store) st.n ++ (free_test st ∷ []))
    (told_as st (plain.determined_call (whole st) store))
    (rested_by st store (plain.determined_call (without_frozen st) (narrowed_in st store)))
    (λ k. marked_told (refused k) st store)

unfoldable pub marked_non_singular : State → List Float → MarkedTold Bool
marked_non_singular st store =
    call_by st.marks (marked_room_tests st (length store) st.n ++ (free_test st ∷ []))
    (told_as st (plain.non_singular_call (whole st) store))
    (rested_by st store (plain.non_singular_call (without_frozen st) (narrowed_in st store)))
    (λ k. marked_told (refused k) st store)
