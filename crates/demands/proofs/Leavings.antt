-- The rooms that calls leave: shaped, and of what. Assumes nothing.
use mathlib.Core.Path.{◌≡◌, refl, sym, ◌∙◌, subst}
use mathlib.Core.Bool.{Bool, true, false}
use mathlib.Core.List.{List}
use Prim.Native.Nat.{ℕ, ◌≤◌}
use lib.Dec.{eqb}
use lib.ListN.{length}
use lib.Ieee.{Float}
use borrow.Author.Tests.{eqb-true, eqb-false, eq-eqb, ne_eqb, le-ltb}
use Rattle.factor.specs.State.{store_need}
use Rattle.factor.specs.Room.{Room, load, leaving}
use Rattle.factor.specs.Tests.{room_tests}
use Rattle.leaves.specs.Tests.{all_finite}
use Rattle.eliminate.specs.Eliminate.{heads, tails}
use Rattle.demands.specs.Calls.{StoreOutcome, StoreCall, zero_solve, damped_solve, held_solve, held_product, gradient, above, jx_norm, scaling, determined, non_singular, perform_store}
use Rattle.factor.specs.declared.state.State.{State}
use Rattle.measures.specs.declared.scaling.Mode.TheVariants as mode
use Rattle.leaves.proofs.Refusals.{numbered, passed_iff, none_of_both}
use Rattle.factor.proofs.Passed.{Passed, room_passed, passed_sized}
use Rattle.factor.proofs.Layouts.{load-lay, load_shaped, leaving_shaped, rested_shaped, emptied_shaped}
use Rattle.eliminate.proofs.Triangular.{heads-length}
use Rattle.eliminate.proofs.Settling.{tails-length}
use Rattle.eliminate.proofs.Stairs.{damping_stepped, tails_tall}
use Rattle.demands.proofs.Effects.{Effect, effect, effected, finite_or, tested_of, perform_is}
use Rattle.factor.specs.inner.Rooms.{Sized, Shaped}
use Rattle.demands.specs.Refusals.{store_refusal, further_of, shortest_of, store_tests}
use Rattle.demands.specs.Eight.{damped_l}

-- ---- what the tests tell
further_numbered : (c : StoreCall) (st : State) (order : List ℕ) → numbered (further_of c st order) ≡ true
unfolding further_of
further_numbered (zero_solve out) st order = refl
further_numbered (damped_solve diag out) st order = refl
further_numbered (held_solve rhs out) st order = refl
further_numbered (held_product out) st order = refl
further_numbered (gradient bnorm) st order = refl
further_numbered (above bnorm limit) st order = refl
further_numbered (jx_norm x) st order = refl
further_numbered (scaling mode.FirstScaled diag x bound) st order = refl
further_numbered (scaling mode.FirstUnscaled diag x bound) st order = refl
further_numbered (scaling mode.LaterScaled diag x bound) st order = refl
further_numbered (scaling mode.LaterUnscaled diag x bound) st order = refl
further_numbered determined st order = refl
further_numbered non_singular st order = refl

pub tests_numbered : (c : StoreCall) (st : State) (k : ℕ) (order : List ℕ) → numbered (store_tests c st k order) ≡ true
tests_numbered c st k order = further_numbered c st order

pub room_tested : (c : StoreCall) (st : State) (order : List ℕ) (s : List Float) → tested_of c st order s ≡ 0 → Passed st (length s) (shortest_of c st order)
room_tested c st order s e =
    let ts = room_tests st (length s) (shortest_of c st order) in
    room_passed st (length s) (shortest_of c st order)
    ((passed_iff ts refl).1 (none_of_both ts (further_of c st order) ((passed_iff (store_tests c st (length s) order) (tests_numbered c st (length s) order)).0 e)).0)

pub room_sized : (c : StoreCall) (st : State) (order : List ℕ) (s : List Float) → tested_of c st order s ≡ 0 → Sized st.n s
room_sized c st order s e = passed_sized st s (shortest_of c st order) (room_tested c st order s e)

-- of a store that is long enough the tests ask nothing else
pub tests_long : (c : StoreCall) (st : State) (order : List ℕ) (k l : ℕ) → store_need st.n ≤ k → store_need st.n ≤ l → store_tests c st k order ≡ store_tests c st l order
tests_long c st order k l p q = rw (le-ltb k (store_need st.n) p, le-ltb l (store_need st.n) q)

-- ---- one outcome by its two cases
module _ (c : StoreCall) (st : State) (order : List ℕ) (s : List Float) where
  pub passed_is : tested_of c st order s ≡ 0 → perform_store c st order s ≡ effected st s (effect c st order (load st.n s))
  passed_is e = perform_is c st order s ∙ rw (eq-eqb (tested_of c st order s) 0 e)

  pub refused_is : (tested_of c st order s ≡ 0 → ⊥) → perform_store c st order s ≡ store_refusal c (tested_of c st order s) st s
  refused_is h = perform_is c st order s ∙ rw (ne_eqb (tested_of c st order s) 0 h)

  pub performed : (P : StoreOutcome → Type 0) → (tested_of c st order s ≡ 0 → P (effected st s (effect c st order (load st.n s))))
      → ((tested_of c st order s ≡ 0 → ⊥) → P (store_refusal c (tested_of c st order s) st s)) → P (perform_store c st order s)
  performed P p q = by (eqb (tested_of c st order s) 0) refl
    where
      by : (b : Bool) → eqb (tested_of c st order s) 0 ≡ b → P (perform_store c st order s)
      by true e = let z = eqb-true (tested_of c st order s) 0 e in subst P (sym (passed_is z)) (p z)
      by false e = let z = eqb-false (tested_of c st order s) 0 e in subst P (sym (refused_is z)) (q z)

-- ---- the room that is left
pub either : (P : Effect → Type 0) (x : List Float) (e f : Effect) → P e → P f → P (finite_or x e f)
unfolding finite_or
either P x e f p q = by (all_finite x)
  where
    by : (b : Bool) → P (elim b [ true ↦ e | false ↦ f ])
    by true = p
    by false = q

module _ (st : State) (order : List ℕ) (r : Room) (z : Shaped st.n r) where
  abbrev Left : Effect → Type 0
  Left e = Shaped st.n (leaving e.below e.ldiag r)

  rows_left : (diag : List Float) → (let x = (damped_l st order diag r).0 in Shaped st.n (leaving (tails x) (heads x) r))
  rows_left diag =
      let x = (damped_l st order diag r).0 in
      let w = damping_stepped st.n _ r.upper r.qtb z.upper_wide in
      leaving_shaped st.n r z (tails x) (heads x) (tails-length x ∙ w.wide) (tails_tall st.n x w) (heads-length x ∙ w.wide)

  pub effect_shaped : (c : StoreCall) → Left (effect c st order r)
  unfolding effect
  effect_shaped (zero_solve out) = either Left _ _ _ (emptied_shaped st.n r z) (emptied_shaped st.n r z)
  effect_shaped (damped_solve diag out) = either Left _ _ _ (rows_left diag) (emptied_shaped st.n r z)
  effect_shaped (held_solve rhs out) = either Left _ _ _ (rested_shaped st.n r z) (rested_shaped st.n r z)
  effect_shaped (held_product out) = either Left _ _ _ (rested_shaped st.n r z) (rested_shaped st.n r z)
  effect_shaped (gradient bnorm) = rested_shaped st.n r z
  effect_shaped (above bnorm limit) = rested_shaped st.n r z
  effect_shaped (jx_norm x) = rested_shaped st.n r z
  effect_shaped (scaling md diag x bound) = rested_shaped st.n r z
  effect_shaped determined = rested_shaped st.n r z
  effect_shaped non_singular = rested_shaped st.n r z

-- LAW: the store after a call that passed its tests is the room that its effect says.
pub room_after : (c : StoreCall) (st : State) (order : List ℕ) (s : List Float) → Sized st.n s → (let e = effect c st order (load st.n s) in
    load st.n (effected st s e).store ≡ leaving e.below e.ldiag (load st.n s))
room_after c st order s z = load-lay st.n _ (effect_shaped st order (load st.n s) (load_shaped st.n s z) c)
