-- Demand 3: the calls of `factor` and `measures` that take a state, as one type, and what each does by the very definition that its contract
-- cites. The workings of `factor` and its parts take sizes, its tests the parts of a state, and none a state: they are no calls on a problem, like
-- the leaves. The order list is lent to every call; some do not look at it.
use Rattle.std.specs.Prelude.{ℕ, Bool, true, false, cond, List, [], ◌∷◌, Float}
use Rattle.leaves.specs.Reply.{Reply, answered, refused}
use Rattle.leaves.specs.declared.norm.Ranges.{Ranges}
use Rattle.factor.specs.Outcome.{Told, Ended}
use Rattle.factor.specs.Solves.{zero_call, damped_call}
use Rattle.factor.specs.HeldCalls.{solve_call, mul_call}
use Rattle.measures.specs.Measures.{gradient_call, above_call, jx_call, determined_call, non_singular_call}
use Rattle.measures.specs.Rescale.{Scaled, scaling_call}
use Rattle.factor.specs.declared.state.State.{State}
use Rattle.measures.specs.declared.scaling.Mode.{Mode}

-- an answer of any call; the flags of #106 belong to it
pub data StoreAnswer : Type 0 where
  done : Reply (Unit {0}) → StoreAnswer
  number : Reply Float → StoreAnswer
  ranged : Reply (Float × Ranges) → StoreAnswer
  count : Reply ℕ → StoreAnswer
  truth : Reply Bool → StoreAnswer
  scaled : Reply Scaled → StoreAnswer

-- the number that a call is refused by, 0 for an answer
abbrev pub reply_number : {A : Type 0} → Reply A → ℕ
reply_number (answered a) = 0
reply_number (refused k) = k

abbrev pub store_number : StoreAnswer → ℕ
store_number (done r) = reply_number r
store_number (number r) = reply_number r
store_number (ranged r) = reply_number r
store_number (count r) = reply_number r
store_number (truth r) = reply_number r
store_number (scaled r) = reply_number r

-- what a call leaves: answer, state, store, and the lent output or lent scaling ([] where none is lent)
pub record OutcomeOf (A : Type 0) : Type 0 where
  pub answer : A
  pub state : State
  pub store : List Float
  pub out : List Float

abbrev pub StoreOutcome : Type 0
StoreOutcome = OutcomeOf StoreAnswer

abbrev pub store_outcome : StoreAnswer → State → List Float → List Float → StoreOutcome
store_outcome a st s o = record { answer = a; state = st; store = s; out = o }

-- a call with its own arguments: diagonal, right side, x, and the lent output last; in `scaling` the lent scaling is the output
pub data StoreCall : Type 0 where
  zero_solve : (out : List Float) → StoreCall
  damped_solve : (diag out : List Float) → StoreCall
  held_solve : (rhs out : List Float) → StoreCall
  held_product : (out : List Float) → StoreCall
  gradient : (bnorm : Float) → StoreCall
  above : (bnorm limit : Float) → StoreCall
  jx_norm : (x : List Float) → StoreCall
  scaling : (md : Mode) (diag x : List Float) (bound : Float) → StoreCall
  determined : StoreCall
  non_singular : StoreCall

abbrev pub of_ended : {A : Type 0} → (Reply A → StoreAnswer) → Ended A → StoreOutcome
of_ended f e = store_outcome (f e.reply) e.state e.store e.out

abbrev pub of_told : {A : Type 0} → (Reply A → StoreAnswer) → Told A → StoreOutcome
of_told f t = store_outcome (f t.reply) t.state t.store []

-- with a state, an order list and a store
unfoldable pub perform_store : StoreCall → State → List ℕ → List Float → StoreOutcome
perform_store (zero_solve out) st order s = of_ended done (zero_call st order s out)
perform_store (damped_solve diag out) st order s = of_ended done (damped_call st diag order s out)
perform_store (held_solve rhs out) st order s = of_ended done (solve_call st order rhs s out)
perform_store (held_product out) st order s = of_ended done (mul_call st s out)
perform_store (gradient bnorm) st order s = of_told number (gradient_call st order bnorm s)
perform_store (above bnorm limit) st order s = of_told truth (above_call st order bnorm limit s)
perform_store (jx_norm x) st order s = of_told ranged (jx_call st order x s)
perform_store (scaling md diag x bound) st order s = of_ended scaled (scaling_call st md diag x bound s)
perform_store determined st order s = of_told count (determined_call st s)
perform_store non_singular st order s = of_told truth (non_singular_call st s)

-- the solves: below the diagonal and in l_diag they leave what the held calls read
abbrev pub is_store_solve : StoreCall → Bool
is_store_solve (zero_solve out) = true
is_store_solve (damped_solve diag out) = true
is_store_solve (held_solve rhs out) = false
is_store_solve (held_product out) = false
is_store_solve (gradient bnorm) = false
is_store_solve (above bnorm limit) = false
is_store_solve (jx_norm x) = false
is_store_solve (scaling md diag x bound) = false
is_store_solve determined = false
is_store_solve non_singular = false

-- ---- a run of calls, of this crate or above it: each returned state and store passed on, the order list as it is
module _ {C A : Type 0} (f : C → State → List ℕ → List Float → OutcomeOf A) (order : List ℕ) where
  unfoldable pub run : List C → State → List Float → State × List Float
  run [] st s = (st, s)
  run (c ∷ cs) st s = run cs (f c st order s).state (f c st order s).store

  -- the latest call of a run that settles, or d
  unfoldable pub latest : (C → State → List ℕ → List Float → Bool) → List C → List C → State → List Float → List C
  latest settling d [] st s = d
  latest settling d (c ∷ cs) st s = latest settling (cond (settling c st order s) (c ∷ []) d) cs (f c st order s).state (f c st order s).store
