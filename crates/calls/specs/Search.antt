-- 01, module 7, with 02, #108: the search as its callers see it.
use Rattle.std.specs.Prelude.{ℕ, min, not, List, [], ◌∷◌, ◌++◌, length, take, Float}
use Rattle.leaves.specs.Reply.{refused}
use Rattle.leaves.specs.Square.{zeros}
use Rattle.leaves.specs.Tests.{Test, none_zero}
use Rattle.frozen.specs.Frozen.{free_of}
use Rattle.factor.specs.Tests.{finite_test, finite_number, not_above, below}
use Rattle.search.specs.Search.{Flagged}
use Rattle.search.specs.Search as plain
use Rattle.calls.specs.declared.state.State.{State}
use Rattle.calls.specs.State.{marks_in, cols, whole, without_frozen}
use Rattle.calls.specs.Tests.{marked_solve_tests, free_test, call_by}
use Rattle.calls.specs.Outcome.{MarkedEnded, marked_ended, ended_as, narrowed_in, emptied_by}

abbrev pub marked_search_tests : State → ℕ → List ℕ → List Float → Float → Float → ℕ → List Test
marked_search_tests st store order diag radius lambda out =
    marked_solve_tests st store order (min (length diag) out)
    ++ (finite_test (whole st) diag ∷ finite_number radius ∷ finite_number lambda ∷ (not_above radius, 7) ∷ (below lambda, 7) ∷ (not (none_zero (take st.n diag)), 7) ∷ free_test st ∷ [])

unfoldable pub marked_search : State → List ℕ → List Float → Float → Float → List Float → List Float → MarkedEnded Flagged
marked_search st order diag radius lambda store out =
    call_by st.marks (marked_search_tests st (length store) order diag radius lambda (length out))
    (ended_as st (plain.search_call (whole st) order diag radius lambda store out))
    (emptied_by st store out (plain.search_call (without_frozen st) (take (cols st) order) (free_of (marks_in st) diag) radius lambda (narrowed_in st store) (zeros (cols st))))
    (λ k. marked_ended (refused k) st store out)
