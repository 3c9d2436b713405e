-- 01, modules 4 and 5, with 02, #108: the solves as their callers see them.
use Rattle.std.specs.Prelude.{ℕ, min, List, [], ◌∷◌, ◌++◌, length, take, Float}
use Rattle.leaves.specs.Reply.{refused}
use Rattle.leaves.specs.Square.{zeros}
use Rattle.frozen.specs.Frozen.{free_of}
use Rattle.factor.specs.Tests.{finite_test}
use Rattle.factor.specs.Solves as plain
use Rattle.calls.specs.declared.state.State.{State}
use Rattle.calls.specs.State.{marks_in, cols, whole, without_frozen}
use Rattle.calls.specs.Tests.{marked_solve_tests, free_test, call_by}
use Rattle.calls.specs.Outcome.{MarkedEnded, marked_ended, ended_as, narrowed_in, emptied_by, widened_by}

unfoldable pub marked_zero : State → List ℕ → List Float → List Float → MarkedEnded (Unit {0})
marked_zero st order store out =
    call_by st.marks (marked_solve_tests st (length store) order (length out) ++ (free_test st ∷ []))
    (ended_as st (plain.zero_call (whole st) order store out))
    (emptied_by st store out (plain.zero_call (without_frozen st) (take (cols st) order) (narrowed_in st store) (zeros (cols st))))
    (λ k. marked_ended (refused k) st store out)

unfoldable pub marked_damped : State → List Float → List ℕ → List Float → List Float → MarkedEnded (Unit {0})
marked_damped st diag order store out =
    call_by st.marks (marked_solve_tests st (length store) order (min (length diag) (length out)) ++ (finite_test (whole st) diag ∷ free_test st ∷ []))
    (ended_as st (plain.damped_call (whole st) diag order store out))
    (widened_by st store out (plain.damped_call (without_frozen st) (free_of (marks_in st) diag) (take (cols st) order) (narrowed_in st store) (zeros (cols st))))
    (λ k. marked_ended (refused k) st store out)
