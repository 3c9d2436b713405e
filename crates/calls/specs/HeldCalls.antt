-- 01, 'Lent room', with 02, #108: the held calls as their callers see them.
use Rattle.std.specs.Prelude.{ℕ, min, List, [], ◌∷◌, ◌++◌, length, take, Float}
use Rattle.leaves.specs.Reply.{refused}
use Rattle.leaves.specs.Square.{zeros}
use Rattle.frozen.specs.Frozen.{free_of}
use Rattle.factor.specs.Tests.{held_test, finite_test}
use Rattle.factor.specs.HeldCalls as plain
use Rattle.factor.specs.Outcome.{Read, read}
use Rattle.calls.specs.declared.state.State.{State}
use Rattle.calls.specs.State.{marks_in, cols, whole, without_frozen}
use Rattle.calls.specs.Tests.{marked_room_tests, marked_solve_tests, free_test, call_by}
use Rattle.calls.specs.Outcome.{MarkedEnded, marked_ended, ended_as, narrowed_in, held_by}

unfoldable pub marked_solve : State → List ℕ → List Float → List Float → List Float → MarkedEnded (Unit {0})
marked_solve st order rhs store out =
    call_by st.marks (marked_solve_tests st (length store) order (min (length rhs) (length out)) ++ (held_test (whole st) ∷ finite_test (whole st) rhs ∷ free_test st ∷ []))
    (ended_as st (plain.solve_call (whole st) order rhs store out))
    (held_by st store out (plain.solve_call (without_frozen st) (take (cols st) order) (free_of (marks_in st) rhs) (narrowed_in st store) (zeros (cols st))))
    (λ k. marked_ended (refused k) st store out)

unfoldable pub marked_mul : State → List Float → List Float → MarkedEnded (Unit {0})
marked_mul st store out =
    call_by st.marks (marked_room_tests st (length store) (length out) ++ (held_test (whole st) ∷ free_test st ∷ []))
    (ended_as st (plain.mul_call (whole st) store out))
    (held_by st store out (plain.mul_call (without_frozen st) (narrowed_in st store) (zeros (cols st))))
    (λ k. marked_ended (refused k) st store out)

-- an answer, and the one slice that is written, where the store is only read
abbrev pub marked_read : MarkedEnded (Unit {0}) → Read
marked_read e = read e.reply e.out
