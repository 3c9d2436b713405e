-- 01, 'Refusal numbers', as one table of the calls of `specs/History.antt`, which take a state: each number exactly when its condition
-- holds and none that is tested before it, and what is then in the lent slices. Assumes nothing.
use mathlib.Core.Path.{◌≡◌, refl, sym, ap, ◌∙◌}
use mathlib.Core.Bool.{Bool, true, false, ◌&&◌, and-eq-true_iff}
use mathlib.Core.List.{List, []}
use mathlib.Core.Logic.{◌↔◌}
use Prim.Native.Nat.{ℕ, ◌<◌}
use native.Mathlib.Omega.{arith}
use lib.Dec.{eqb}
use lib.ListN.{length, take}
use lib.Ieee.{Float}
use borrow.Author.Tests.{eqb-true, eq-eqb}
use Rattle.leaves.specs.Norm.{norm, ranges, neither}
use Rattle.leaves.specs.declared.norm.Ranges.{Ranges}
use Rattle.leaves.specs.Product.{product_all}
use Rattle.leaves.specs.Reply.{Reply, answered, refused}
use Rattle.factor.specs.Room.{Room, load, lay, leaving, rested}
use Rattle.leaves.specs.Square.{zeros}
use Rattle.leaves.specs.Tests.{first_of, all_finite}
use Rattle.factor.specs.Solve.{gather}
use Rattle.factor.specs.Held.{held_solved, held_product_of}
use Rattle.measures.specs.Scaling.{first_scaling, later_scaling, start_by, usable}
use Rattle.factor.specs.Solves.{damped_numbers}
use Rattle.factor.specs.Outcome.{written}
use Rattle.measures.specs.Rescale.{Scaled, first, later, or_refused, rescaled}
use Rattle.demands.specs.Calls as basic
use Rattle.demands.specs.Calls.{reply_number}
use Rattle.factor.specs.declared.state.State.{State}
use Rattle.measures.specs.declared.scaling.Mode.{Mode}
use Rattle.measures.specs.declared.scaling.Mode.TheVariants as mode
use Rattle.leaves.proofs.Refusals.{passed_iff}
use Rattle.demands.proofs.Effects.{Effect, effect, effected, finite_or}
use Rattle.demands.proofs.Effects as base
use Rattle.factor.proofs.Layouts.{load_shaped}
use Rattle.demands.proofs.Leavings.{tests_numbered, passed_is, room_sized, room_after}
use Rattle.demands.proofs.Tabled as base-table
use Rattle.demands.specs.History.{Call, search, of_base_outcome, of_search, number_of, perform, is_solve, settling}
use Rattle.demands.specs.History as any
use Rattle.demands.proofs.SearchTable as table
use Rattle.demands.proofs.Laws.{zero, as_zero, zero-tested, base_settling, search-settling}
use Rattle.leaves.specs.Refusing.{NoneHold, RefusedBy}
use Rattle.demands.specs.Refusals.{tests_of, refusal, store_tests}
use Rattle.demands.specs.Eight.{zero_x, damped_l, store_left_by_eight, Breaks, Stands, left_by_eight}

either : (st : State) (s x : List Float) (e f : Effect) (o : basic.StoreOutcome) → basic.store_number e.answer ≡ 0 → effected st s f ≡ o
    → basic.store_number (finite_or x e f).answer ≡ 8 → effected st s (finite_or x e f) ≡ o
unfolding finite_or
either st s x e f o z h = by (all_finite x)
  where
    by : (b : Bool) → (let g : Effect = elim b [ true ↦ e | false ↦ f ] in basic.store_number g.answer ≡ 8 → effected st s g ≡ o)
    by true n = absurd (omega arith)
    by false n = h

by_eight : {A : Type 0} (r : Reply A) → reply_number r ≡ 8 → r ≡ refused 8
by_eight (answered a) h = absurd (omega arith)
by_eight (refused k) h = ap refused h

scaled_eight : (ok : Bool) (a : Scaled) (new old : List Float) → (let r = or_refused ok a new old in reply_number r.0 ≡ 8 → (r.0 ≡ refused 8) × (r.1 ≡ old))
scaled_eight true a new old h = absurd (omega arith)
scaled_eight false a new old h = (refl, refl)

rescaled_eight : (md : Mode) (n : ℕ) (norms diag x : List Float) (bound : Float)
    → (let r = rescaled md n norms diag x bound in reply_number r.0 ≡ 8 → (r.0 ≡ refused 8) × (r.1 ≡ diag))
unfolding rescaled
rescaled_eight mode.FirstScaled n norms diag x bound h =
    let d = first_scaling norms in
    let t = start_by bound (norm (product_all d (take n x))) in
    scaled_eight (all_finite d && usable t) (first t (ranges (product_all d (take n x)))) (written d diag) diag h
rescaled_eight mode.FirstUnscaled n norms diag x bound h = let t = start_by bound (norm (take n x)) in scaled_eight (usable t) (first t (ranges (take n x))) diag diag h
rescaled_eight mode.LaterScaled n norms diag x bound h = let d = later_scaling norms (take n diag) in scaled_eight (all_finite d) (later neither) (written d diag) diag h
rescaled_eight mode.LaterUnscaled n norms diag x bound h = absurd (omega arith)

module _ (st : State) (order : List ℕ) (s : List Float) where
  abbrev room : Room
  room = load st.n s

  scaled-left : (r : Reply Scaled × List Float) (diag : List Float) → (r.0 ≡ refused 8) × (r.1 ≡ diag)
      → basic.store_outcome (basic.scaled r.0) st (lay (rested room)) r.1 ≡ basic.store_outcome (basic.scaled (refused 8)) st (lay (rested room)) diag
  scaled-left r diag h =
      ap (λ (x : Reply Scaled). basic.store_outcome (basic.scaled x) st (lay (rested room)) r.1) h.0
      ∙ ap (λ (x : List Float). basic.store_outcome (basic.scaled (refused 8)) st (lay (rested room)) x) h.1

  effect_eight : (c : basic.StoreCall) → basic.store_number (effect c st order room).answer ≡ 8 → effected st s (effect c st order room) ≡ store_left_by_eight c st s
  unfolding effect
  effect_eight (basic.zero_solve out) h = either st s (zero_x st room) _ _ _ refl refl h
  effect_eight (basic.damped_solve diag out) h = either st s (damped_numbers (damped_l st order diag room)) _ _ _ refl refl h
  effect_eight (basic.held_solve rhs out) h = either st s (held_solved st.held (gather (take st.n order) rhs) room) _ _ _ refl refl h
  effect_eight (basic.held_product out) h = either st s (held_product_of st.held room) _ _ _ refl refl h
  effect_eight (basic.gradient bnorm) h = ap (λ (x : Reply Float). basic.store_outcome (basic.number x) st (lay (rested room)) []) (by_eight _ h)
  effect_eight (basic.above bnorm limit) h = ap (λ (x : Reply Bool). basic.store_outcome (basic.truth x) st (lay (rested room)) []) (by_eight _ h)
  effect_eight (basic.jx_norm x) h = ap (λ (x : Reply (Float × Ranges)). basic.store_outcome (basic.ranged x) st (lay (rested room)) []) (by_eight _ h)
  effect_eight (basic.scaling md diag x bound) h = scaled-left (rescaled md st.n room.norms diag x bound) diag (rescaled_eight md st.n room.norms diag x bound h)
  effect_eight basic.determined h = absurd (omega arith)
  effect_eight basic.non_singular h = absurd (omega arith)

  base_eight : (c : basic.StoreCall) → basic.store_number (basic.perform_store c st order s).answer ≡ 8 → basic.perform_store c st order s ≡ store_left_by_eight c st s
  base_eight c h =
      let n = ((base-table.refused_eight c st order s).0 h).0 in
      let e = passed_is c st order s ((passed_iff (store_tests c st (length s) order) (tests_numbered c st (length s) order)).1 n) in
      e ∙ effect_eight c (ap (λ (o : basic.StoreOutcome). basic.store_number o.answer) (sym e) ∙ h)

-- ---- every call

-- LAW: 2 to 7
pub refused_early : (c : Call) (st : State) (order : List ℕ) (s : List Float) (k : ℕ) → 0 < k → k < 8
    → (number_of (perform c st order s).answer ≡ k) ↔ RefusedBy (tests_of c st order s) k
unfolding perform
refused_early (any.base c) st order s k p q = base-table.refused_early c st order s k p q
refused_early (search diag radius lambda out) st order s k p q = table.refused_early st order diag radius lambda s out k p q

-- LAW: and then everything is as it came
pub refused_whole : (c : Call) (st : State) (order : List ℕ) (s : List Float) (k : ℕ) → 0 < k → RefusedBy (tests_of c st order s) k → perform c st order s ≡ refusal c k st s
unfolding perform
refused_whole (any.base c) st order s k p r = ap of_base_outcome (base-table.refused_whole c st order s k p r)
refused_whole (search diag radius lambda out) st order s k p r = ap of_search (table.refused_whole st order diag radius lambda s out k p r)

-- LAW: 8
pub refused_eight : (c : Call) (st : State) (order : List ℕ) (s : List Float)
    → (number_of (perform c st order s).answer ≡ 8) ↔ (NoneHold (tests_of c st order s) × Breaks c st order s)
unfolding perform
refused_eight (any.base c) st order s = base-table.refused_eight c st order s
refused_eight (search diag radius lambda out) st order s = table.refused_eight st order diag radius lambda s out

-- LAW: and what is then in the lent slices
pub eight_whole : (c : Call) (st : State) (order : List ℕ) (s : List Float) → number_of (perform c st order s).answer ≡ 8 → perform c st order s ≡ left_by_eight c st s
unfolding perform
eight_whole (any.base c) st order s h = ap of_base_outcome (base_eight st order s c h)
eight_whole (search diag radius lambda out) st order s h = ap of_search (table.eight_whole st order diag radius lambda s out h)

-- LAW: answered
pub answered_otherwise : (c : Call) (st : State) (order : List ℕ) (s : List Float)
    → (number_of (perform c st order s).answer ≡ 0) ↔ (NoneHold (tests_of c st order s) × Stands c st order s)
unfolding perform
answered_otherwise (any.base c) st order s = base-table.answered_otherwise c st order s
answered_otherwise (search diag radius lambda out) st order s = table.answered_otherwise st order diag radius lambda s out

-- ---- work is +0 after every call that passes all checks before 8, answered or not
base_work : (c : basic.StoreCall) (st : State) (order : List ℕ) (s : List Float) → base.tested_of c st order s ≡ 0 → (load st.n (basic.perform_store c st order s).store).work ≡ zeros st.n
unfolding leaving
base_work c st order s e =
    let z = room_sized c st order s e in
    ap (λ (o : basic.StoreOutcome). (load st.n o.store).work) (passed_is c st order s e) ∙ ap (λ (r : Room). r.work) (room_after c st order s z) ∙ ap zeros (load_shaped st.n s z).work_long

-- LAW
pub work_rests : (c : Call) (st : State) (order : List ℕ) (s : List Float) → NoneHold (tests_of c st order s) → (load st.n (perform c st order s).store).work ≡ zeros st.n
unfolding perform
work_rests (any.base c) st order s h = base_work c st order s ((passed_iff (store_tests c st (length s) order) (tests_numbered c st (length s) order)).1 h)
work_rests (search diag radius lambda out) st order s h =
    let e = (passed_iff (tests_of (search diag radius lambda out) st order s) refl).1 h in
    ap (λ (x : List Float). (load st.n x).work) (as_zero diag radius lambda out st order s e) ∙ base_work (zero st) st order s (zero-tested diag radius lambda out st order s e)

-- LAW: a call settles exactly when it is a solve or a search and passes all checks before 8
pub settles_when : (c : Call) (st : State) (order : List ℕ) (s : List Float) → (settling c st order s ≡ true) ↔ ((is_solve c ≡ true) × NoneHold (tests_of c st order s))
settles_when (any.base c) st order s =
    let ts = store_tests c st (length s) order in
    let q = tests_numbered c st (length s) order in
    let k = base.tested_of c st order s in (
      λ h. let w = (and-eq-true_iff (basic.is_store_solve c) (eqb k 0)).0 (sym (base_settling c st order s) ∙ h) in (w.0, (passed_iff ts q).0 (eqb-true k 0 w.1)),
      λ w. base_settling c st order s ∙ (and-eq-true_iff (basic.is_store_solve c) (eqb k 0)).1 (w.0, eq-eqb k 0 ((passed_iff ts q).1 w.1)),
    )
settles_when (search diag radius lambda out) st order s =
    let ts = tests_of (search diag radius lambda out) st order s in (
      λ h. (refl, (passed_iff ts refl).0 (eqb-true (first_of ts) 0 (sym (search-settling diag radius lambda out st order s) ∙ h))),
      λ w. search-settling diag radius lambda out st order s ∙ eq-eqb (first_of ts) 0 ((passed_iff ts refl).1 w.1),
    )
