-- Demand 1, 01, refusal 8: when an answer number of a call is not finite, and what such a call leaves.
use Rattle.std.specs.Prelude.{List, [], ◌∷◌, ℕ, take, Float, Bool, false, not, cond, ◌&&◌, ◌||◌, true, ◌≡◌}
use Rattle.std.specs.Float.Ieee.{lt, is_nan}
use Rattle.std.proofs.Common.{inl, inr}
use Rattle.factor.specs.Room.{Room, load, lay, emptied, rested}
use Rattle.factor.specs.Solve.{zero_solved, gather}
use Rattle.eliminate.specs.Eliminate.{Rows, damping}
use Rattle.factor.specs.declared.state.State.{State}
use Rattle.leaves.specs.Number.{plus_zero, max_of, is_finite}
use Rattle.leaves.specs.Norm.{norm}
use Rattle.leaves.specs.Product.{product_all, divided_by}
use Rattle.leaves.specs.Tests.{all_finite}
use Rattle.factor.specs.Held.{held_solved, held_product_of}
use Rattle.measures.specs.Gradient.{measures, jx_norm_of}
use Rattle.measures.specs.Scaling.{first_scaling, later_scaling, start_by, usable}
use Rattle.factor.specs.Solves.{damped_numbers}
use Rattle.demands.specs.Calls.{StoreCall, zero_solve, damped_solve, held_solve, held_product, gradient, above, jx_norm, scaling, determined, non_singular, StoreOutcome, is_store_solve, store_outcome}
use Rattle.measures.specs.declared.scaling.Mode.TheVariants as mode
use Rattle.leaves.specs.Reply.{refused}
use Rattle.factor.specs.State.{with_held}
use Rattle.factor.specs.Outcome.{ended}
use Rattle.factor.specs.declared.state.Held.TheVariants as held
use Rattle.search.specs.Run.{Stop, Place, run_of}
use Rattle.demands.specs.History.{Call, search, Outcome, of_base_outcome, of_search, base}
use Rattle.demands.specs.Refusals.{refused_as, lent_out}
use Rattle.search.specs.Ending.{ending}
use Rattle.search.specs.Search.{problem_of}
use Rattle.sheet.specs.Sheet.{head_of, job_of}
use Rattle.sheet.specs.Tests.{numbers_of}
use Rattle.sheet.specs.Fit.{Finished, Fit, worked}

-- what a zero solve works out, and a damped one: L and the right side
abbrev pub zero_x : State → Room → List Float
zero_x st r = zero_solved st.m r.upper r.qtb

abbrev pub damped_l : State → List ℕ → List Float → Room → Rows
damped_l st order diag r = damping (gather (take st.n order) diag) r.upper r.qtb

-- the largest of the measures, and whether one is NaN
abbrev pub top_of : Float → List Float → Float
top_of top [] = top
top_of top (x ∷ xs) = top_of (max_of top x) xs

abbrev pub any_nan : List Float → Bool
any_nan [] = false
any_nan (x ∷ xs) = is_nan x || any_nan xs

-- 02, #105: the measures before the first finite one above the limit
abbrev pub before_yes : Float → List Float → List Float
before_yes limit [] = []
before_yes limit (x ∷ xs) = cond (is_finite x && lt limit x) [] (x ∷ before_yes limit xs)

abbrev pub column_measures : State → List ℕ → Float → Room → List Float
column_measures st order bnorm r = measures (divided_by bnorm r.qtb) r.upper (gather (take st.n order) r.norms)

-- an answer is not finite; `determined` and `non_singular` have no such test
unfoldable pub store_breaks : StoreCall → State → List ℕ → Room → Bool
store_breaks (zero_solve out) st order r = not (all_finite (zero_x st r))
store_breaks (damped_solve diag out) st order r = not (all_finite (damped_numbers (damped_l st order diag r)))
store_breaks (held_solve rhs out) st order r = not (all_finite (held_solved st.held (gather (take st.n order) rhs) r))
store_breaks (held_product out) st order r = not (all_finite (held_product_of st.held r))
store_breaks (gradient bnorm) st order r = any_nan (column_measures st order bnorm r) || not (is_finite (top_of plus_zero (column_measures st order bnorm r)))
store_breaks (above bnorm limit) st order r = not (all_finite (before_yes limit (column_measures st order bnorm r)))
store_breaks (jx_norm x) st order r = not (is_finite (jx_norm_of (gather (take st.n order) x) r.upper))
store_breaks (scaling mode.FirstScaled diag x bound) st order r =
    let d = first_scaling r.norms in
    not (all_finite d && usable (start_by bound (norm (product_all d (take st.n x)))))
store_breaks (scaling mode.FirstUnscaled diag x bound) st order r = not (usable (start_by bound (norm (take st.n x))))
store_breaks (scaling mode.LaterScaled diag x bound) st order r = not (all_finite (later_scaling r.norms (take st.n diag)))
store_breaks (scaling mode.LaterUnscaled diag x bound) st order r = false
store_breaks determined st order r = false
store_breaks non_singular st order r = false

-- A solve leaves the room emptied and held nothing, another call the room with work +0; no output is written.
abbrev pub store_left_by_eight : StoreCall → State → List Float → StoreOutcome
store_left_by_eight c st s = elim (is_store_solve c) [
  | true ↦ store_outcome (refused_as c 8) (with_held st held.Nothing) (lay (emptied (load st.n s))) (lent_out c)
  | false ↦ store_outcome (refused_as c 8) st (lay (rested (load st.n s))) (lent_out c)
]

-- 8: an answer number is not finite, or the search's run ends at a place of refusal 8
abbrev pub Breaks : Call → State → List ℕ → List Float → Type 0
Breaks (base c) st order s = store_breaks c st order (load st.n s) ≡ true
Breaks (search diag radius lambda out) st order s = (p : Place) × (ending (run_of (problem_of st order diag radius (load st.n s)) lambda) ≡ inr p)

-- and otherwise: the search's run ends by a stop rule
abbrev pub Stands : Call → State → List ℕ → List Float → Type 0
Stands (base c) st order s = store_breaks c st order (load st.n s) ≡ false
Stands (search diag radius lambda out) st order s = (x : Stop) × (ending (run_of (problem_of st order diag radius (load st.n s)) lambda) ≡ inl x)

-- what is left by a call that is refused 8
abbrev pub left_by_eight : Call → State → List Float → Outcome
left_by_eight (base c) st s = of_base_outcome (store_left_by_eight c st s)
left_by_eight (search diag radius lambda out) st s = of_search (ended (refused 8) (with_held st held.Nothing) (lay (emptied (load st.n s))) out)

-- the working of a sheet that passes its tests
abbrev pub sheet_working : List ℕ → List Float → Finished Fit
sheet_working s step = worked (job_of (head_of s) (numbers_of (head_of s) s)) step
