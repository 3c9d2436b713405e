-- 01, modules 4 and 5, 'Refusal numbers' and 'Lent room': the solves as their callers see them.
use Rattle.std.specs.Prelude.{ℕ, min, true, false, List, [], ◌∷◌, ◌++◌, eqb, length, take, Float}
use Rattle.leaves.specs.Reply.{answered, refused}
use Rattle.factor.specs.State.{with_held}
use Rattle.leaves.specs.Tests.{first_of, all_finite}
use Rattle.factor.specs.Room.{Room, load, lay, emptied, leaving}
use Rattle.factor.specs.Tests.{finite_test, solve_tests}
use Rattle.factor.specs.Solve.{zero_solved, scatter, gather, damped_solved}
use Rattle.eliminate.specs.Eliminate.{Rows, damping, heads, tails}
use Rattle.factor.specs.declared.state.Held.{Held}
use Rattle.factor.specs.declared.state.Held.TheVariants as held
use Rattle.factor.specs.declared.state.State.{State}
use Rattle.factor.specs.Outcome.{Ended, ended}

-- an answered solve: the room that it leaves, what is then held, and its numbers in pivot order
abbrev pub solved_as : State → List ℕ → Held → Room → List Float → List Float → Ended (Unit {0})
solved_as st order h r x out = ended (answered tt) (with_held st h) (lay r) (scatter (take st.n order) x out)

-- 8: an answer entry is not finite: lower part and l_diag +0, held nothing, the output unwritten
abbrev pub solved_if : State → List ℕ → Held → Room → Room → List Float → List Float → Ended (Unit {0})
solved_if st order h r before x out = elim (all_finite x) [
  | true ↦ solved_as st order h r x out
  | false ↦ ended (refused 8) (with_held st held.Nothing) (lay (emptied before)) out
]

unfoldable pub zero_call : State → List ℕ → List Float → List Float → Ended (Unit {0})
zero_call st order store out =
    let c = first_of (solve_tests st (length store) order (length out)) in
    let r = load st.n store in
    elim (eqb c 0) [
      | true ↦ solved_if st order held.Zero (emptied r) r (zero_solved st.m r.upper r.qtb) out
      | false ↦ ended (refused c) st store out
    ]

-- what a damped solve leaves: L below the diagonal and in l_diag
unfoldable pub damped_room : Rows → Room → Room
damped_room l r = leaving (tails l.0) (heads l.0) r

abbrev pub damped_numbers : Rows → List Float
damped_numbers l = damped_solved (heads l.0) (tails l.0) l.1

unfoldable pub damped_call : State → List Float → List ℕ → List Float → List Float → Ended (Unit {0})
damped_call st diag order store out =
    let c = first_of (solve_tests st (length store) order (min (length diag) (length out)) ++ (finite_test st diag ∷ [])) in
    let r = load st.n store in
    let l = damping (gather (take st.n order) diag) r.upper r.qtb in
    elim (eqb c 0) [
      | true ↦ solved_if st order held.Damped (damped_room l r) r (damped_numbers l) out
      | false ↦ ended (refused c) st store out
    ]
