-- 01, module 6, 'Refusal numbers' and 'Lent room': gradient, norm of Jx, determined and the rank as their callers see them; and 02, #105.
use Rattle.std.specs.Prelude.{ℕ, Bool, true, false, List, [], ◌∷◌, ◌++◌, eqb, length, take, Float}
use Rattle.leaves.specs.Reply.{Reply, answered, refused}
use Rattle.leaves.specs.Number.{is_finite}
use Rattle.leaves.specs.Tests.{Test, first_of}
use Rattle.factor.specs.Room.{load, lay, rested}
use Rattle.factor.specs.Tests.{room_tests, order_test, finite_test, finite_number, not_above, below, solve_tests}
use Rattle.factor.specs.Solve.{gather, non_singular_of}
use Rattle.measures.specs.Determined.{determined_of}
use Rattle.measures.specs.Gradient.{gradient, above_limit, jx_norm_of, jx_ranges}
use Rattle.factor.specs.declared.state.State.{State}
use Rattle.factor.specs.Outcome.{Told, told}
use Rattle.leaves.specs.declared.norm.Ranges.{Ranges}

unfoldable pub gradient_call : State → List ℕ → Float → List Float → Told Float
gradient_call st order bnorm store =
    let c = first_of (room_tests st (length store) (length order) ++ (order_test st order ∷ finite_number bnorm ∷ (not_above bnorm, 7) ∷ [])) in
    let r = load st.n store in
    elim (eqb c 0) [
      | true ↦ told (gradient (gather (take st.n order) r.norms) bnorm r.upper r.qtb) st (lay (rested r))
      | false ↦ told (refused c) st store
    ]

-- 02, #105: the gradient's tests, 6 also for the limit, and 7 also for a limit below zero
abbrev pub above_tests : State → ℕ → List ℕ → Float → Float → List Test
above_tests st store order bnorm limit =
    room_tests st store (length order)
    ++ (order_test st order ∷ finite_number bnorm ∷ finite_number limit ∷ (not_above bnorm, 7) ∷ (below limit, 7) ∷ [])

unfoldable pub above_call : State → List ℕ → Float → Float → List Float → Told Bool
above_call st order bnorm limit store =
    let c = first_of (above_tests st (length store) order bnorm limit) in
    let r = load st.n store in
    elim (eqb c 0) [
      | true ↦ told (above_limit (gather (take st.n order) r.norms) bnorm limit r.upper r.qtb) st (lay (rested r))
      | false ↦ told (refused c) st store
    ]

-- a norm with its flags; a refusal carries none (02, #106)
abbrev pub finite_or_8 : Float → Ranges → Reply (Float × Ranges)
finite_or_8 x seen = elim (is_finite x) [ true ↦ answered (x, seen) | false ↦ refused 8 ]

unfoldable pub jx_call : State → List ℕ → List Float → List Float → Told (Float × Ranges)
jx_call st order x store =
    let c = first_of (solve_tests st (length store) order (length x) ++ (finite_test st x ∷ [])) in
    let r = load st.n store in
    let xs = gather (take st.n order) x in
    elim (eqb c 0) [
      | true ↦ told (finite_or_8 (jx_norm_of xs r.upper) (jx_ranges xs r.upper)) st (lay (rested r))
      | false ↦ told (refused c) st store
    ]

unfoldable pub determined_call : State → List Float → Told ℕ
determined_call st store =
    let c = first_of (room_tests st (length store) st.n) in
    let r = load st.n store in
    elim (eqb c 0) [ true ↦ told (answered (determined_of st.m r.upper)) st (lay (rested r)) | false ↦ told (refused c) st store ]

unfoldable pub non_singular_call : State → List Float → Told Bool
non_singular_call st store =
    let c = first_of (room_tests st (length store) st.n) in
    let r = load st.n store in
    elim (eqb c 0) [ true ↦ told (answered (non_singular_of st.m st.n r.upper)) st (lay (rested r)) | false ↦ told (refused c) st store ]
