-- 01, 'Refusal numbers', as a table of every call that takes a state: refused k, for k from 2 to 7, exactly when k's condition holds
-- and none that is tested before it; refused 8 exactly when all tests are passed and the call's own condition holds; and answered
-- otherwise. Assumes nothing.
use mathlib.Core.Path.{◌≡◌, refl, sym, ap, ◌∙◌, subst}
use mathlib.Core.Bool.{Bool, true, false, cond, not, ◌&&◌, ◌||◌}
use mathlib.Core.List.{List, [], ◌∷◌}
use mathlib.Core.Logic.{◌↔◌}
use Prim.Native.Nat.{ℕ, ◌<◌}
use native.Mathlib.Omega.{arith}
use lib.Dec.{eqb, ltb}
use lib.ListN.{length, take}
use lib.Ieee.{Float, lt, is_nan}
use borrow.Author.Tests.{eqb-true, eqb-false}
use Rattle.leaves.specs.declared.norm.Ranges.{Ranges}
use Rattle.leaves.specs.Reply.{Reply, answered, refused}
use Rattle.leaves.specs.Number.{plus_zero, max_of, is_finite}
use Rattle.leaves.specs.Norm.{norm}
use Rattle.leaves.specs.Product.{product_all}
use Rattle.factor.specs.State.{is_empty, store_need}
use Rattle.leaves.specs.Tests.{outside, Test, all_finite}
use Rattle.factor.specs.Room.{Room, load}
use Rattle.factor.specs.Solve.{gather}
use Rattle.factor.specs.Held.{held_solved, held_product_of}
use Rattle.measures.specs.Gradient.{gradient as measure, largest, above as asked, above_limit, jx_norm_of}
use Rattle.measures.specs.Scaling.{first_scaling, later_scaling, start_by, usable}
use Rattle.factor.specs.Solves.{damped_numbers}
use Rattle.measures.specs.Measures.{finite_or_8}
use Rattle.measures.specs.Rescale.{Scaled, or_refused, rescaled}
use Rattle.demands.specs.Calls.{reply_number, store_number, StoreOutcome, StoreCall, zero_solve, damped_solve, held_solve, held_product, gradient, above, jx_norm, scaling, determined, non_singular, perform_store, run}
use Rattle.factor.specs.declared.state.State.{State}
use Rattle.measures.specs.declared.scaling.Mode.TheVariants as mode
use Rattle.leaves.proofs.Refusals.{refused_iff, passed_iff}
use Rattle.demands.proofs.Effects.{Effect, effect, finite_or, tested_of}
use Rattle.demands.proofs.Leavings.{tests_numbered, passed_is, refused_is}
use Rattle.leaves.specs.Refusing.{NoneHold, RefusedBy}
use Rattle.demands.specs.Refusals.{store_refusal, refused_as, shortest_of, further_of, store_tests}
use Rattle.demands.specs.Eight.{zero_x, damped_l, top_of, any_nan, before_yes, column_measures, store_breaks}
use Rattle.demands.proofs.TestNumbers.{small, first_small}

-- ---- 8, call by call

abbrev eight_if : Bool → ℕ
eight_if b = cond b 8 0

finite_not_nan : (x : List Float) (e f : Effect) → store_number e.answer ≡ 0 → store_number f.answer ≡ 8
    → store_number (finite_or x e f).answer ≡ eight_if (not (all_finite x))
unfolding finite_or
finite_not_nan x e f p q = by (all_finite x)
  where
    by : (b : Bool) → (let g : Effect = elim b [ true ↦ e | false ↦ f ] in store_number g.answer ≡ eight_if (not b))
    by true = p
    by false = q

or8_number : (x : Float) (seen : Ranges) → reply_number (finite_or_8 x seen) ≡ eight_if (not (is_finite x))
or8_number x seen = by (is_finite x)
  where
    by : (b : Bool) → (let g : Reply (Float × Ranges) = elim b [ true ↦ answered (x, seen) | false ↦ refused 8 ] in reply_number g ≡ eight_if (not b))
    by true = refl
    by false = refl

largest_number : (top : Float) (xs : List Float) → reply_number (largest top xs) ≡ eight_if (any_nan xs || not (is_finite (top_of top xs)))
unfolding largest
largest_number top [] = by (is_finite top)
  where
    by : (b : Bool) → reply_number (cond {A = Reply Float} b (answered top) (refused 8)) ≡ eight_if (not b)
    by true = refl
    by false = refl
largest_number top (x ∷ xs) = by (largest_number (max_of top x) xs) (is_nan x)
  where
    by : reply_number (largest (max_of top x) xs) ≡ eight_if (any_nan xs || not (is_finite (top_of (max_of top x) xs))) → (b : Bool)
        → (let g : Reply Float = elim b [ true ↦ refused 8 | false ↦ largest (max_of top x) xs ] in
        reply_number g ≡ eight_if ((b || any_nan xs) || not (is_finite (top_of (max_of top x) xs))))
    by e true = refl
    by e false = e

-- 02, #105: of the measures before the first yes, one is not finite
above_number : (limit : Float) (xs : List Float) → reply_number (asked limit xs) ≡ eight_if (not (all_finite (before_yes limit xs)))
unfolding asked all_finite
above_number limit [] = refl
above_number limit (x ∷ xs) = by (above_number limit xs) (is_finite x) (lt limit x) refl
  where
    by : reply_number (asked limit xs) ≡ eight_if (not (all_finite (before_yes limit xs))) → (b c : Bool) → is_finite x ≡ b
        → (let g : Reply Bool = elim b [ true ↦ cond c (answered true) (asked limit xs) | false ↦ refused 8 ] in
        reply_number g ≡ eight_if (not (all_finite (cond (b && c) [] (x ∷ before_yes limit xs)))))
    by e true true q = refl
    by e true false q = rw q e
    by e false c q = rw q

rescaled_number : (ok : Bool) (a : Scaled) (new old : List Float) → reply_number (or_refused ok a new old).0 ≡ eight_if (not ok)
rescaled_number true a new old = refl
rescaled_number false a new old = refl

pub effect_number : (c : StoreCall) (st : State) (order : List ℕ) (r : Room) → store_number (effect c st order r).answer ≡ eight_if (store_breaks c st order r)
unfolding effect store_breaks measure above_limit rescaled
effect_number (zero_solve out) st order r = finite_not_nan (zero_x st r) _ _ refl refl
effect_number (damped_solve diag out) st order r = finite_not_nan (damped_numbers (damped_l st order diag r)) _ _ refl refl
effect_number (held_solve rhs out) st order r = finite_not_nan (held_solved st.held (gather (take st.n order) rhs) r) _ _ refl refl
effect_number (held_product out) st order r = finite_not_nan (held_product_of st.held r) _ _ refl refl
effect_number (gradient bnorm) st order r = largest_number plus_zero (column_measures st order bnorm r)
effect_number (above bnorm limit) st order r = above_number limit (column_measures st order bnorm r)
effect_number (jx_norm x) st order r = or8_number (jx_norm_of (gather (take st.n order) x) r.upper) _
effect_number (scaling mode.FirstScaled diag x bound) st order r =
    let d = first_scaling r.norms in
    rescaled_number (all_finite d && usable (start_by bound (norm (product_all d (take st.n x))))) _ _ _
effect_number (scaling mode.FirstUnscaled diag x bound) st order r = rescaled_number (usable (start_by bound (norm (take st.n x)))) _ _ _
effect_number (scaling mode.LaterScaled diag x bound) st order r = rescaled_number (all_finite (later_scaling r.norms (take st.n diag))) _ _ _
effect_number (scaling mode.LaterUnscaled diag x bound) st order r = refl
effect_number determined st order r = refl
effect_number non_singular st order r = refl

-- ---- the tests' numbers are below 8
further_small : (c : StoreCall) (st : State) (order : List ℕ) → small (further_of c st order) ≡ true
unfolding further_of
further_small (zero_solve out) st order = refl
further_small (damped_solve diag out) st order = refl
further_small (held_solve rhs out) st order = refl
further_small (held_product out) st order = refl
further_small (gradient bnorm) st order = refl
further_small (above bnorm limit) st order = refl
further_small (jx_norm x) st order = refl
further_small (scaling mode.FirstScaled diag x bound) st order = refl
further_small (scaling mode.FirstUnscaled diag x bound) st order = refl
further_small (scaling mode.LaterScaled diag x bound) st order = refl
further_small (scaling mode.LaterUnscaled diag x bound) st order = refl
further_small determined st order = refl
further_small non_singular st order = refl

tested_small : (c : StoreCall) (st : State) (order : List ℕ) (s : List Float) → tested_of c st order s < 8
tested_small c st order s = first_small (store_tests c st (length s) order) (further_small c st order)

pub refused_number : (c : StoreCall) (k : ℕ) → store_number (refused_as c k) ≡ k
refused_number (zero_solve out) k = refl
refused_number (damped_solve diag out) k = refl
refused_number (held_solve rhs out) k = refl
refused_number (held_product out) k = refl
refused_number (gradient bnorm) k = refl
refused_number (above bnorm limit) k = refl
refused_number (jx_norm x) k = refl
refused_number (scaling md diag x bound) k = refl
refused_number determined k = refl
refused_number non_singular k = refl

-- ---- the table
eight_back : (b : Bool) → eight_if b ≡ 8 → b ≡ true
eight_back true e = refl
eight_back false e = absurd (omega arith)

none_back : (b : Bool) → eight_if b ≡ 0 → b ≡ false
none_back true e = absurd (omega arith)
none_back false e = refl

either_way : (b : Bool) (k : ℕ) → 0 < k → k < 8 → eight_if b ≡ k → ⊥
either_way true k p q e = omega arith
either_way false k p q e = omega arith

module _ (c : StoreCall) (st : State) (order : List ℕ) (s : List Float) where
  abbrev tests : List Test
  tests = store_tests c st (length s) order

  abbrev given : ℕ
  given = store_number (perform_store c st order s).answer

  abbrev broke : Bool
  broke = store_breaks c st order (load st.n s)

  passed_number : tested_of c st order s ≡ 0 → given ≡ eight_if broke
  passed_number e = ap (λ (o : StoreOutcome). store_number o.answer) (passed_is c st order s e) ∙ effect_number c st order (load st.n s)

  stopped_number : (tested_of c st order s ≡ 0 → ⊥) → given ≡ tested_of c st order s
  stopped_number h = ap (λ (o : StoreOutcome). store_number o.answer) (refused_is c st order s h) ∙ refused_number c (tested_of c st order s)

  by_number : (P : ℕ → Type 0) → (tested_of c st order s ≡ 0 → P (eight_if broke)) → ((tested_of c st order s ≡ 0 → ⊥) → P (tested_of c st order s)) → P given
  by_number P p q = decide (eqb (tested_of c st order s) 0) refl
    where
      decide : (b : Bool) → eqb (tested_of c st order s) 0 ≡ b → P given
      decide true e = let z = eqb-true (tested_of c st order s) 0 e in subst P (sym (passed_number z)) (p z)
      decide false e = let z = eqb-false (tested_of c st order s) 0 e in subst P (sym (stopped_number z)) (q z)

  -- LAW: 2 to 7, in the order of the tests
  pub refused_early : (k : ℕ) → 0 < k → k < 8 → (given ≡ k) ↔ RefusedBy tests k
  refused_early k p q = (
    by_number (λ (g : ℕ). g ≡ k → RefusedBy tests k) (λ z e. absurd (either_way broke k p q e)) (λ h e. (refused_iff tests k p).0 e),
    λ r. let e = (refused_iff tests k p).1 r in stopped_number (λ z. let j = sym e ∙ z in omega arith) ∙ e,
  )

  -- LAW: and then everything is as it came
  pub refused_whole : (k : ℕ) → 0 < k → RefusedBy tests k → perform_store c st order s ≡ store_refusal c k st s
  refused_whole k p r =
      let e = (refused_iff tests k p).1 r in
      refused_is c st order s (λ z. let j = sym e ∙ z in omega arith) ∙ ap (λ (i : ℕ). store_refusal c i st s) e

  none_met : tested_of c st order s ≡ 0 → NoneHold tests
  none_met e = (passed_iff tests (tests_numbered c st (length s) order)).0 e

  met_none : NoneHold tests → tested_of c st order s ≡ 0
  met_none h = (passed_iff tests (tests_numbered c st (length s) order)).1 h

  -- LAW: 8
  pub refused_eight : (given ≡ 8) ↔ (NoneHold tests × (broke ≡ true))
  refused_eight = (
    by_number (λ (g : ℕ). g ≡ 8 → NoneHold tests × (broke ≡ true)) (λ z e. (none_met z, eight_back broke e))
        (λ h e. let j = tested_small c st order s in absurd (omega arith)),
    λ w. passed_number (met_none w.0) ∙ ap eight_if w.1,
  )

  -- LAW: answered
  pub answered_otherwise : (given ≡ 0) ↔ (NoneHold tests × (broke ≡ false))
  answered_otherwise = (
    by_number (λ (g : ℕ). g ≡ 0 → NoneHold tests × (broke ≡ false)) (λ z e. (none_met z, none_back broke e)) (λ h e. absurd (h e)),
    λ w. passed_number (met_none w.0) ∙ ap eight_if w.1,
  )

  abbrev after_first : List Test
  after_first = (outside st.m st.n, 2) ∷ (ltb (length s) (store_need st.n) || ltb (shortest_of c st order) st.n, 3) ∷ further_of c st order

  -- LAW: 5 for an empty state, before anything is read
  pub refused-empty : is_empty st.held ≡ true → perform_store c st order s ≡ store_refusal c 5 st s
  refused-empty h = refused_whole 5 (omega arith) (record { earlier = []; later = after_first; splits = ap (λ (b : Bool). (b, 5) ∷ after_first) h; none_earlier = tt })

-- LAW: after a refused factoring no run changes anything
pub empty-run : (order : List ℕ) (cs : List StoreCall) (st : State) (s : List Float) → is_empty st.held ≡ true → run perform_store order cs st s ≡ (st, s)
unfolding run
empty-run order [] st s h = refl
empty-run order (c ∷ cs) st s h =
    ap (λ (o : StoreOutcome). run perform_store order cs o.state o.store) (refused-empty c st order s h) ∙ empty-run order cs st s h
