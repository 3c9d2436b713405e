-- Of the order list a call reads the first n, and no other. Assumes nothing.
use mathlib.Core.Path.{◌≡◌, refl, sym, ap, ◌∙◌}
use mathlib.Core.Bool.{Bool, true, false}
use mathlib.Core.List.{List}
use Prim.Native.Nat.{ℕ, ◌≤◌, min}
use native.Mathlib.Omega.{arith}
use lib.Dec.{eqb, ltb}
use lib.ListN.{length, take}
use lib.Ieee.{Float}
use borrow.Author.Tests.{ltb-true, ltb-false, lt-ltb, le-ltb}
use Rattle.factor.specs.Room.{Room, load}
use Rattle.leaves.specs.Tests.{Test, first_of}
use Rattle.demands.specs.Calls.{StoreOutcome, StoreCall, zero_solve, damped_solve, held_solve, held_product, gradient, above, jx_norm, scaling, determined, non_singular, perform_store}
use Rattle.factor.specs.declared.state.State.{State}
use Rattle.measures.specs.declared.scaling.Mode.TheVariants as mode
use Rattle.demands.proofs.Effects.{Effect, effect, effected, tested_of, perform_is}
use Rattle.demands.specs.Refusals.{store_refusal, shortest_of, further_of, store_tests}

-- a slice that is long enough does not decide
pub least-same : (n a b x : ℕ) → n ≤ a → n ≤ b → ltb (min a x) n ≡ ltb (min b x) n
least-same n a b x p q = by (ltb x n) refl
  where
    by : (c : Bool) → ltb x n ≡ c → ltb (min a x) n ≡ ltb (min b x) n
    by true e = let h = ltb-true x n e in lt-ltb (min a x) n (omega arith) ∙ sym (lt-ltb (min b x) n (omega arith))
    by false e = let h = ltb-false x n e in le-ltb (min a x) n (omega arith) ∙ sym (le-ltb (min b x) n (omega arith))

module _ (st : State) (o p : List ℕ) (lo : st.n ≤ length o) (lp : st.n ≤ length p) (same : take st.n o ≡ take st.n p) where
  shortest_same : (c : StoreCall) → ltb (shortest_of c st o) st.n ≡ ltb (shortest_of c st p) st.n
  unfolding shortest_of
  shortest_same (zero_solve out) = least-same st.n (length o) (length p) (length out) lo lp
  shortest_same (damped_solve diag out) = least-same st.n (length o) (length p) (min (length diag) (length out)) lo lp
  shortest_same (held_solve rhs out) = least-same st.n (length o) (length p) (min (length rhs) (length out)) lo lp
  shortest_same (held_product out) = refl
  shortest_same (gradient bnorm) = le-ltb (length o) st.n lo ∙ sym (le-ltb (length p) st.n lp)
  shortest_same (above bnorm limit) = le-ltb (length o) st.n lo ∙ sym (le-ltb (length p) st.n lp)
  shortest_same (jx_norm x) = least-same st.n (length o) (length p) (length x) lo lp
  shortest_same (scaling mode.FirstScaled diag x bound) = refl
  shortest_same (scaling mode.FirstUnscaled diag x bound) = refl
  shortest_same (scaling mode.LaterScaled diag x bound) = refl
  shortest_same (scaling mode.LaterUnscaled diag x bound) = refl
  shortest_same determined = refl
  shortest_same non_singular = refl

  further_same : (c : StoreCall) → further_of c st o ≡ further_of c st p
  unfolding further_of
  further_same (zero_solve out) = rw same
  further_same (damped_solve diag out) = rw same
  further_same (held_solve rhs out) = rw same
  further_same (held_product out) = refl
  further_same (gradient bnorm) = rw same
  further_same (above bnorm limit) = rw same
  further_same (jx_norm x) = rw same
  further_same (scaling mode.FirstScaled diag x bound) = refl
  further_same (scaling mode.FirstUnscaled diag x bound) = refl
  further_same (scaling mode.LaterScaled diag x bound) = refl
  further_same (scaling mode.LaterUnscaled diag x bound) = refl
  further_same determined = refl
  further_same non_singular = refl

  effect_same : (c : StoreCall) (r : Room) → effect c st o r ≡ effect c st p r
  unfolding effect
  effect_same (zero_solve out) r = rw same
  effect_same (damped_solve diag out) r = rw same
  effect_same (held_solve rhs out) r = rw same
  effect_same (held_product out) r = refl
  effect_same (gradient bnorm) r = rw same
  effect_same (above bnorm limit) r = rw same
  effect_same (jx_norm x) r = rw same
  effect_same (scaling md diag x bound) r = refl
  effect_same determined r = refl
  effect_same non_singular r = refl

  tests_same : (c : StoreCall) (k : ℕ) → store_tests c st k o ≡ store_tests c st k p
  tests_same c k = rw (shortest_same c, further_same c)

  abbrev told_by : StoreCall → List Float → ℕ → Effect → StoreOutcome
  told_by c s k e = elim (eqb k 0) [ true ↦ effected st s e | false ↦ store_refusal c k st s ]

  -- LAW
  pub order_surplus : (c : StoreCall) (s : List Float) → perform_store c st o s ≡ perform_store c st p s
  order_surplus c s =
      let r = load st.n s in
      perform_is c st o s ∙ ap (λ (ts : List Test). told_by c s (first_of ts) (effect c st o r)) (tests_same c (length s))
      ∙ ap (λ (e : Effect). told_by c s (tested_of c st p s) e) (effect_same c r) ∙ sym (perform_is c st p s)
