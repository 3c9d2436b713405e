-- Demands 1 and 2 for the question of 02, #105, 'Is the gradient above the limit?', as theorems. Read from top to bottom, after `proofs/Demands.antt` and, for the
-- second half, `proofs/FrozenDemands.antt`: whose theorems are of every call, and so of this one, `above bnorm limit`.
--
-- They are over the definitions that the contracts of `above_limit` cite, for any state, order list and store. `column_measures` are the columns' measures in pivot
-- order, those of norm zero left out; `before_non_finite` those of them that stand before the first non-finite one (`specs/Above.antt`).
--
-- Assumes nothing.
use Prim.Native.Nat.{ℕ, ◌<◌}
use mathlib.Core.Path.{◌≡◌}
use mathlib.Core.Bool.{true, false, cond}
use mathlib.Core.List.{List}
use mathlib.Core.Logic.{◌↔◌}
use lib.ListN.{length}
use lib.Ieee.{Float, lt}
use Rattle.leaves.specs.Number.{is_finite}
use Rattle.leaves.specs.Refusing.{NoneHold}
use Rattle.leaves.specs.Reply.{answered, refused}
use Rattle.leaves.specs.Tests.{all_finite}
use Rattle.factor.specs.Room.{load}
use Rattle.factor.specs.Tests.{below}
use Rattle.factor.specs.declared.state.State.{State as Plain}
use Rattle.measures.specs.Measures.{gradient_call, above_tests, above_call}
use Rattle.measures.proofs.Aboves.{above-agrees-call}
use Rattle.calls.specs.declared.state.State.{State}
use Rattle.calls.specs.Measures.{marked_gradient, marked_above_tests, marked_above}
use Rattle.demands.specs.Above.{before_non_finite, any_above, free_measures}
use Rattle.demands.specs.Calls.{reply_number}
use Rattle.demands.specs.Eight.{column_measures}
use Rattle.demands.proofs.AboveLaws.{above_yes, above_no, above_eight, above_as_gradient, above_beside_eight}
use Rattle.demands.proofs.FrozenAbove.{frozen_above-agrees, frozen_above_yes, frozen_above_no, frozen_above_eight, frozen_above_as_gradient, frozen_above_beside_eight}

-- ==== Without marks

-- "Refusals: as for the gradient, and 7 also for a limit below zero." The question is refused k, from 2 to 7, exactly when the gradient is, where the limit is finite
-- and not below zero; its tests with any limit, and what it leaves then, are in `demand_1_refused` and `demand_1_unchanged`.
pub demand_1_above_refused : (st : Plain) (order : List ℕ) (bnorm limit : Float) (store : List Float) → is_finite limit ≡ true → below limit ≡ false → (k : ℕ) → 0 < k → k < 8
    → (reply_number (gradient_call st order bnorm store).reply ≡ k) ↔ (reply_number (above_call st order bnorm limit store).reply ≡ k)
demand_1_above_refused = above_as_gradient

-- "Yes meaning that the measure is greater than the limit. Wherever the full gradient is answered, the two agree exactly."
pub demand_2_above_agrees : (st : Plain) (order : List ℕ) (bnorm limit : Float) (store : List Float) (g : Float) → (gradient_call st order bnorm store).reply ≡ answered g
    → is_finite limit ≡ true → below limit ≡ false → (above_call st order bnorm limit store).reply ≡ answered (lt limit g)
demand_2_above_agrees = above-agrees-call

-- "Where the full gradient is refused under 8, the question may have said yes already; it says yes exactly when a column before the first non-finite one, in pivot
-- order, is above the limit, and is refused otherwise."
pub demand_2_above_where_refused : (st : Plain) (order : List ℕ) (bnorm limit : Float) (store : List Float) → is_finite limit ≡ true → below limit ≡ false
    → (gradient_call st order bnorm store).reply ≡ refused 8
    → (above_call st order bnorm limit store).reply ≡ cond (any_above limit (before_non_finite (column_measures st order bnorm (load st.n store)))) (answered true) (refused 8)
demand_2_above_where_refused = above_beside_eight

-- Whatever the gradient is: where none of its own tests holds, the question says yes exactly then; it is refused 8 exactly when none of those is above the limit and there
-- is a non-finite one; and it says no exactly when there is none, and no measure is above the limit. The same by how the list of measures splits: `above_says_yes`,
-- `above-refused_eight` and `above_says_no` in `crates/measures/proofs/Aboves.antt`, with `yes_splits`, `eight_splits` and `no_splits` in `proofs/AboveLaws.antt`.
module _ (st : Plain) (order : List ℕ) (bnorm limit : Float) (store : List Float) where
  abbrev asked : List Float
  asked = column_measures st order bnorm (load st.n store)

  pub demand_2_above_yes : ((above_call st order bnorm limit store).reply ≡ answered true) ↔ (NoneHold (above_tests st (length store) order bnorm limit) × (any_above limit (before_non_finite asked) ≡ true))
  demand_2_above_yes = above_yes st order bnorm limit store

  pub demand_2_above_eight : ((above_call st order bnorm limit store).reply ≡ refused 8)
      ↔ (NoneHold (above_tests st (length store) order bnorm limit) × ((any_above limit (before_non_finite asked) ≡ false) × (all_finite asked ≡ false)))
  demand_2_above_eight = above_eight st order bnorm limit store

  pub demand_2_above_no : ((above_call st order bnorm limit store).reply ≡ answered false)
      ↔ (NoneHold (above_tests st (length store) order bnorm limit) × ((any_above limit asked ≡ false) × (all_finite asked ≡ true)))
  demand_2_above_no = above_no st order bnorm limit store

-- ==== With marks (#108): the same beside the gradient with marks, by the measures of the free columns; with no mark, `frozen_none` has the above.

pub demand_1_frozen_above_refused : (st : State) (order : List ℕ) (bnorm limit : Float) (store : List Float) → (st.marks ≡ 0 → ⊥) → is_finite limit ≡ true → below limit ≡ false
    → (k : ℕ) → 0 < k → (k ≡ 8 → ⊥) → (reply_number (marked_gradient st order bnorm store).reply ≡ k) ↔ (reply_number (marked_above st order bnorm limit store).reply ≡ k)
demand_1_frozen_above_refused = frozen_above_as_gradient

-- for any number of marks, 0 too
pub demand_2_frozen_above_agrees : (st : State) (order : List ℕ) (bnorm limit : Float) (store : List Float) (g : Float) → (marked_gradient st order bnorm store).reply ≡ answered g
    → is_finite limit ≡ true → below limit ≡ false → (marked_above st order bnorm limit store).reply ≡ answered (lt limit g)
demand_2_frozen_above_agrees = frozen_above-agrees

pub demand_2_frozen_above_where_refused : (st : State) (order : List ℕ) (bnorm limit : Float) (store : List Float) → (st.marks ≡ 0 → ⊥) → is_finite limit ≡ true → below limit ≡ false
    → (marked_gradient st order bnorm store).reply ≡ refused 8
    → (marked_above st order bnorm limit store).reply ≡ cond (any_above limit (before_non_finite (free_measures st order bnorm store))) (answered true) (refused 8)
demand_2_frozen_above_where_refused = frozen_above_beside_eight

module _ (st : State) (order : List ℕ) (bnorm limit : Float) (store : List Float) (some : st.marks ≡ 0 → ⊥) where
  pub demand_2_frozen_above_yes : ((marked_above st order bnorm limit store).reply ≡ answered true)
      ↔ (NoneHold (marked_above_tests st (length store) order bnorm limit) × (any_above limit (before_non_finite (free_measures st order bnorm store)) ≡ true))
  demand_2_frozen_above_yes = frozen_above_yes st order bnorm limit store some

  pub demand_2_frozen_above_eight : ((marked_above st order bnorm limit store).reply ≡ refused 8)
      ↔ (NoneHold (marked_above_tests st (length store) order bnorm limit)
      × ((any_above limit (before_non_finite (free_measures st order bnorm store)) ≡ false) × (all_finite (free_measures st order bnorm store) ≡ false)))
  demand_2_frozen_above_eight = frozen_above_eight st order bnorm limit store some

  pub demand_2_frozen_above_no : ((marked_above st order bnorm limit store).reply ≡ answered false)
      ↔ (NoneHold (marked_above_tests st (length store) order bnorm limit)
      × ((any_above limit (free_measures st order bnorm store) ≡ false) × (all_finite (free_measures st order bnorm store) ≡ true)))
  demand_2_frozen_above_no = frozen_above_no st order bnorm limit store some
