-- Every call read alike: its tests, and its effect on a room where they are passed. `perform_is` ties this to what the contracts
-- cite. Assumes nothing.
use mathlib.Core.Path.{◌≡◌, refl}
use mathlib.Core.Bool.{Bool, true, false}
use mathlib.Core.List.{List, []}
use Prim.Native.Nat.{ℕ}
use lib.Dec.{eqb}
use lib.ListN.{length, take}
use lib.Ieee.{Float}
use Rattle.leaves.specs.Reply.{answered, refused}
use Rattle.factor.specs.State.{with_held}
use Rattle.factor.specs.Room.{Room, load, lay, leaving}
use Rattle.leaves.specs.Square.{zeros, cleared}
use Rattle.leaves.specs.Tests.{first_of, all_finite}
use Rattle.factor.specs.Solve.{scatter, gather, non_singular_of}
use Rattle.measures.specs.Determined.{determined_of}
use Rattle.eliminate.specs.Eliminate.{Rows, heads, tails}
use Rattle.factor.specs.Held.{held_solved, held_product_of}
use Rattle.measures.specs.Gradient.{gradient as measure, above_limit, jx_norm_of, jx_ranges}
use Rattle.factor.specs.Outcome.{written}
use Rattle.factor.specs.Solves.{damped_room, damped_numbers, zero_call, damped_call}
use Rattle.measures.specs.Measures.{finite_or_8, gradient_call, above_call, jx_call, determined_call, non_singular_call}
use Rattle.factor.specs.HeldCalls.{solve_call, mul_call}
use Rattle.measures.specs.Rescale.{scaling_tests, rescaled, scaling_call}
use Rattle.demands.specs.Calls.{StoreAnswer, done, number, ranged, count, truth, scaled, StoreOutcome, store_outcome, StoreCall, zero_solve, damped_solve, held_solve, held_product, gradient, above, jx_norm, scaling, determined, non_singular, of_ended, of_told, perform_store}
use Rattle.factor.specs.declared.state.Held.{Held}
use Rattle.factor.specs.declared.state.Held.TheVariants as held
use Rattle.factor.specs.declared.state.State.{State}
use Rattle.measures.specs.declared.scaling.Mode.TheVariants as mode
use Rattle.demands.specs.Refusals.{shortest_of, further_of, store_tests, store_refusal}
use Rattle.demands.specs.Eight.{zero_x, damped_l}

-- what a call that passed its tests does: work is +0 after each, and the rest of the room stays
pub record Effect : Type 0 where
  pub answer : StoreAnswer
  pub held : Held
  pub below : List (List Float)
  pub ldiag : List Float
  pub out : List Float

abbrev pub effect_of : StoreAnswer → Held → List (List Float) → List Float → List Float → Effect
effect_of a h b l o = record { answer = a; held = h; below = b; ldiag = l; out = o }

-- a solve with an answer, and one that is refused 8
abbrev pub solved : Held → List (List Float) → List Float → List Float → Effect
solved h b l o = effect_of (done (answered tt)) h b l o

abbrev pub broken : Room → List Float → Effect
broken r o = effect_of (done (refused 8)) held.Nothing (cleared r.below) (zeros (length r.ldiag)) o

-- a call that changes nothing but work
abbrev pub resting : StoreAnswer → State → Room → List Float → Effect
resting a st r o = effect_of a st.held r.below r.ldiag o

-- 8 where a number of x is not finite
unfoldable pub finite_or : List Float → Effect → Effect → Effect
finite_or x e f = elim (all_finite x) [ true ↦ e | false ↦ f ]

abbrev pub resting_if : State → Room → List Float → List Float → Effect
resting_if st r x out = finite_or x (resting (done (answered tt)) st r (written x out)) (resting (done (refused 8)) st r out)

abbrev pub zero_effect : State → List ℕ → Room → List Float → Effect
zero_effect st order r out = solved held.Zero (cleared r.below) (zeros (length r.ldiag)) (scatter (take st.n order) (zero_x st r) out)

abbrev pub damped_effect : State → List ℕ → Rows → List Float → Effect
damped_effect st order l out = solved held.Damped (tails l.0) (heads l.0) (scatter (take st.n order) (damped_numbers l) out)

unfoldable pub effect : StoreCall → State → List ℕ → Room → Effect
effect (zero_solve out) st order r = finite_or (zero_x st r) (zero_effect st order r out) (broken r out)
effect (damped_solve diag out) st order r =
    let l = damped_l st order diag r in
    finite_or (damped_numbers l) (damped_effect st order l out) (broken r out)
effect (held_solve rhs out) st order r = resting_if st r (held_solved st.held (gather (take st.n order) rhs) r) out
effect (held_product out) st order r = resting_if st r (held_product_of st.held r) out
effect (gradient bnorm) st order r = resting (number (measure (gather (take st.n order) r.norms) bnorm r.upper r.qtb)) st r []
effect (above bnorm limit) st order r = resting (truth (above_limit (gather (take st.n order) r.norms) bnorm limit r.upper r.qtb)) st r []
effect (jx_norm x) st order r =
    let xs = gather (take st.n order) x in
    resting (ranged (finite_or_8 (jx_norm_of xs r.upper) (jx_ranges xs r.upper))) st r []
effect (scaling md diag x bound) st order r =
    let a = rescaled md st.n r.norms diag x bound in
    resting (scaled a.0) st r a.1
effect determined st order r = resting (count (answered (determined_of st.m r.upper))) st r []
effect non_singular st order r = resting (truth (answered (non_singular_of st.m st.n r.upper))) st r []

abbrev pub effected : State → List Float → Effect → StoreOutcome
effected st s e = store_outcome e.answer (with_held st e.held) (lay (leaving e.below e.ldiag (load st.n s))) e.out

-- the number that a call is refused by before it looks at the room, 0 for none
abbrev pub tested_of : StoreCall → State → List ℕ → List Float → ℕ
tested_of c st order s = first_of (store_tests c st (length s) order)

-- ---- one choice under two readings
chosen : {A B C : Type 0} (f : A → C) (g : B → C) (b : Bool) {x y : A} {u v : B} → f x ≡ g u → f y ≡ g v
    → f (elim b [ true ↦ x | false ↦ y ]) ≡ g (elim b [ true ↦ u | false ↦ v ])
chosen f g true p q = p
chosen f g false p q = q

by_tests : {A : Type 0} (f : A → StoreOutcome) (b : Bool) {x y : A} {u v : StoreOutcome} → f x ≡ u → f y ≡ v
    → f (elim b [ true ↦ x | false ↦ y ]) ≡ elim b [ true ↦ u | false ↦ v ]
by_tests f true p q = p
by_tests f false p q = q

-- LAW: a call is refused by its tests, everything as it came, or has its effect.
pub perform_is : (c : StoreCall) (st : State) (order : List ℕ) (s : List Float)
    → perform_store c st order s ≡ elim (eqb (tested_of c st order s) 0) [
      | true ↦ effected st s (effect c st order (load st.n s))
      | false ↦ store_refusal c (tested_of c st order s) st s
    ]
unfolding perform_store shortest_of further_of effect finite_or zero_call damped_room damped_call solve_call mul_call gradient_call above_call jx_call determined_call non_singular_call scaling_tests scaling_call
perform_is (zero_solve out) st order s = by_tests (of_ended done) (eqb (tested_of (zero_solve out) st order s) 0) (chosen (of_ended done) (effected st s) (all_finite (zero_x st (load st.n s))) refl refl) refl
perform_is (damped_solve diag out) st order s = by_tests (of_ended done) (eqb (tested_of (damped_solve diag out) st order s) 0) (chosen (of_ended done) (effected st s) (all_finite (damped_numbers (damped_l st order diag (load st.n s)))) refl refl) refl
perform_is (held_solve rhs out) st order s = by_tests (of_ended done) (eqb (tested_of (held_solve rhs out) st order s) 0) (chosen (of_ended done) (effected st s) (all_finite (held_solved st.held (gather (take st.n order) rhs) (load st.n s))) refl refl) refl
perform_is (held_product out) st order s = by_tests (of_ended done) (eqb (tested_of (held_product out) st order s) 0) (chosen (of_ended done) (effected st s) (all_finite (held_product_of st.held (load st.n s))) refl refl) refl
perform_is (gradient bnorm) st order s = by_tests (of_told number) (eqb (tested_of (gradient bnorm) st order s) 0) refl refl
perform_is (above bnorm limit) st order s = by_tests (of_told truth) (eqb (tested_of (above bnorm limit) st order s) 0) refl refl
perform_is (jx_norm x) st order s = by_tests (of_told ranged) (eqb (tested_of (jx_norm x) st order s) 0) refl refl
perform_is (scaling mode.FirstScaled diag x bound) st order s = by_tests (of_ended scaled) (eqb (tested_of (scaling mode.FirstScaled diag x bound) st order s) 0) refl refl
perform_is (scaling mode.FirstUnscaled diag x bound) st order s = by_tests (of_ended scaled) (eqb (tested_of (scaling mode.FirstUnscaled diag x bound) st order s) 0) refl refl
perform_is (scaling mode.LaterScaled diag x bound) st order s = by_tests (of_ended scaled) (eqb (tested_of (scaling mode.LaterScaled diag x bound) st order s) 0) refl refl
perform_is (scaling mode.LaterUnscaled diag x bound) st order s = by_tests (of_ended scaled) (eqb (tested_of (scaling mode.LaterUnscaled diag x bound) st order s) 0) refl refl
perform_is determined st order s = by_tests (of_told count) (eqb (tested_of determined st order s) 0) refl refl
perform_is non_singular st order s = by_tests (of_told truth) (eqb (tested_of non_singular st order s) 0) refl refl
