-- 01, module 6, with 02, #108: the scaling call as its callers see it.
use Rattle.std.specs.Prelude.{ℕ, min, List, [], ◌∷◌, ◌++◌, length, replicate, Float}
use Rattle.leaves.specs.Number.{one}
use Rattle.leaves.specs.Reply.{Reply, answered, refused}
use Rattle.leaves.specs.Tests.{Test}
use Rattle.frozen.specs.Frozen.{free_of, merged}
use Rattle.factor.specs.Tests.{finite_test, finite_number, not_above}
use Rattle.factor.specs.Outcome.{written}
use Rattle.factor.specs.Outcome as outcome
use Rattle.measures.specs.Rescale as plain
use Rattle.measures.specs.declared.scaling.Mode.{Mode}
use Rattle.measures.specs.declared.scaling.Mode.TheVariants as mode
use Rattle.calls.specs.declared.state.State.{State}
use Rattle.calls.specs.State.{marks_in, whole, without_frozen}
use Rattle.calls.specs.Tests.{marked_room_tests, free_test, call_by}
use Rattle.calls.specs.Outcome.{MarkedEnded, marked_ended, ended_as, narrowed_in, rested_store}

abbrev pub marked_first_tests : State → ℕ → List Float → List Float → Float → List Test
marked_first_tests st store diag x bound =
    marked_room_tests st store (min (length diag) (length x)) ++ (finite_test (whole st) x ∷ finite_number bound ∷ (not_above bound, 7) ∷ free_test st ∷ [])

unfoldable pub marked_scaling_tests : State → Mode → ℕ → List Float → List Float → Float → List Test
marked_scaling_tests st mode.FirstScaled store diag x bound = marked_first_tests st store diag x bound
marked_scaling_tests st mode.FirstUnscaled store diag x bound = marked_first_tests st store diag x bound
marked_scaling_tests st mode.LaterScaled store diag x bound = marked_room_tests st store (length diag) ++ (finite_test (whole st) diag ∷ free_test st ∷ [])
marked_scaling_tests st mode.LaterUnscaled store diag x bound = marked_room_tests st store (length diag) ++ (free_test st ∷ [])

-- 'First scaling gives a frozen column 1, later scaling leaves its entry'; unscaled mode keeps what was lent.
unfoldable pub frozen_entries : Mode → ℕ → List Float → List Float
frozen_entries mode.FirstScaled n diag = written (replicate n one) diag
frozen_entries mode.FirstUnscaled n diag = diag
frozen_entries mode.LaterScaled n diag = diag
frozen_entries mode.LaterUnscaled n diag = diag

-- refused 8 leaves the scaling
abbrev pub scaling_out : {A : Type 0} → State → Mode → Reply A → List Float → List Float → List Float
scaling_out st md (answered a) d diag = merged (marks_in st) (frozen_entries md st.n diag) d
scaling_out st md (refused k) d diag = diag

abbrev pub scaled_by : State → Mode → List Float → List Float → outcome.Ended plain.Scaled → MarkedEnded plain.Scaled
scaled_by st md diag store e = marked_ended e.reply st (rested_store st store) (scaling_out st md e.reply e.out diag)

unfoldable pub marked_scaling : State → Mode → List Float → List Float → Float → List Float → MarkedEnded plain.Scaled
marked_scaling st md diag x bound store =
    call_by st.marks (marked_scaling_tests st md (length store) diag x bound)
    (ended_as st (plain.scaling_call (whole st) md diag x bound store))
    (scaled_by st md diag store (plain.scaling_call (without_frozen st) md (free_of (marks_in st) diag) (free_of (marks_in st) x) bound (narrowed_in st store)))
    (λ k. marked_ended (refused k) st store diag)
