-- 01, 'Refusal numbers' and 'Lent room': the held calls as their callers see them.
use Rattle.std.specs.Prelude.{ℕ, min, true, false, List, [], ◌∷◌, ◌++◌, eqb, length, take, Float}
use Rattle.leaves.specs.Reply.{answered, refused}
use Rattle.leaves.specs.Tests.{first_of, all_finite}
use Rattle.factor.specs.Room.{Room, load, lay, rested}
use Rattle.factor.specs.Tests.{room_tests, held_test, finite_test, solve_tests}
use Rattle.factor.specs.Solve.{gather}
use Rattle.factor.specs.Held.{held_solved, held_product_of}
use Rattle.factor.specs.declared.state.State.{State}
use Rattle.factor.specs.Outcome.{Ended, ended, written}

-- 8: an answer number is not finite: the store as before, work +0
abbrev pub rested_if : State → Room → List Float → List Float → Ended (Unit {0})
rested_if st r x out = elim (all_finite x) [
  | true ↦ ended (answered tt) st (lay (rested r)) (written x out)
  | false ↦ ended (refused 8) st (lay (rested r)) out
]

unfoldable pub solve_call : State → List ℕ → List Float → List Float → List Float → Ended (Unit {0})
solve_call st order rhs store out =
    let c = first_of (solve_tests st (length store) order (min (length rhs) (length out)) ++ (held_test st ∷ finite_test st rhs ∷ [])) in
    let r = load st.n store in
    elim (eqb c 0) [
      | true ↦ rested_if st r (held_solved st.held (gather (take st.n order) rhs) r) out
      | false ↦ ended (refused c) st store out
    ]

unfoldable pub mul_call : State → List Float → List Float → Ended (Unit {0})
mul_call st store out =
    let c = first_of (room_tests st (length store) (length out) ++ (held_test st ∷ [])) in
    let r = load st.n store in
    elim (eqb c 0) [
      | true ↦ rested_if st r (held_product_of st.held r) out
      | false ↦ ended (refused c) st store out
    ]
