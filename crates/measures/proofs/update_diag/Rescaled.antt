-- The scaling call by its tests and by what its working gives. Assumes nothing.
use mathlib.Core.Path.{◌≡◌, refl, sym, ap, ◌∙◌}
use mathlib.Core.List.{List, [], ◌∷◌, ◌++◌}
use Prim.Native.Nat.{ℕ, ◌≤◌, min}
use native.Mathlib.Omega.{arith}
use lib.ListN.{length}
use lib.Ieee.{Float}
use borrow.Author.Tests.{ne_eqb}
use Rattle.leaves.specs.Reply.{Reply, refused}
use Rattle.factor.specs.Room.{load, lay, rested}
use Rattle.leaves.specs.Tests.{Test, first_of}
use Rattle.factor.specs.Tests.{room_tests, finite_test, finite_number, not_above}
use Rattle.measures.specs.Rescale.{Scaled, first_tests, scaling_tests, rescaled, scaling_call}
use Rattle.factor.specs.Outcome.{ended}
use Rattle.factor.specs.declared.state.State.{State}
use Rattle.measures.specs.declared.scaling.Mode.{Mode}
use Rattle.measures.specs.declared.scaling.Mode.TheVariants as mode
use Rattle.factor.proofs.Passed.{Passed, room_passed}
use Rattle.leaves.proofs.Refusals.{call-refused, call-worked, stopped, went_to, earlier_passed}
use Rattle.measures.specs.inner.Reads.{parameters_read}

-- ---- the first call's tests: the room's, of the shorter of its two slices, and then three
module _ (st : State) (store : ℕ) (diag x : List Float) (bound : Float) {j : ℕ} (l : j ≡ min (length diag) (length x)) where
  abbrev rooms : List Test
  rooms = room_tests st store (min (length diag) (length x))

  abbrev start_tests : List Test
  start_tests = finite_test st x ∷ finite_number bound ∷ (not_above bound, 7) ∷ []

  shorter : {c : ℕ} → c ≡ first_of (room_tests st store j) → c ≡ first_of rooms
  shorter e = e ∙ ap (λ (i : ℕ). first_of (room_tests st store i)) l

  pub first_stopped : {c : ℕ} → c ≡ first_of (room_tests st store j) → (c ≡ 0 → ⊥) → c ≡ first_of (first_tests st store diag x bound)
  first_stopped e h = sym (stopped rooms start_tests _ (shorter e) h)

  pub first_went : {k : ℕ} → 0 ≡ first_of (room_tests st store j) → k ≡ first_of start_tests → k ≡ first_of (first_tests st store diag x bound)
  first_went e h = went_to rooms start_tests refl (shorter e) refl h

-- ---- each mode's tests
module _ (st : State) (store : ℕ) (diag x : List Float) (bound : Float) {k : ℕ} {md : Mode} where
  pub first_scaled_tests : md ≡ mode.FirstScaled → k ≡ first_of (first_tests st store diag x bound) → k ≡ first_of (scaling_tests st md store diag x bound)
  unfolding scaling_tests
  first_scaled_tests e h = rw e h

  pub first_unscaled_tests : md ≡ mode.FirstUnscaled → k ≡ first_of (first_tests st store diag x bound) → k ≡ first_of (scaling_tests st md store diag x bound)
  unfolding scaling_tests
  first_unscaled_tests e h = rw e h

  pub later_scaled_tests : md ≡ mode.LaterScaled → k ≡ first_of (room_tests st store (length diag) ++ (finite_test st diag ∷ []))
      → k ≡ first_of (scaling_tests st md store diag x bound)
  unfolding scaling_tests
  later_scaled_tests e h = rw e h

  pub later_unscaled_tests : md ≡ mode.LaterUnscaled → k ≡ first_of (room_tests st store (length diag)) → k ≡ first_of (scaling_tests st md store diag x bound)
  unfolding scaling_tests
  later_unscaled_tests e h = rw e h

-- ---- what is known once they are passed: the lent scaling holds n, and so does x where it is read
abbrev pub Lent : State → Mode → ℕ → List Float → List Float → Type 0
Lent st md store diag x = Passed st store (length diag) × (parameters_read md st.n ≤ length x)

first_passed : (st : State) (store : ℕ) (diag x : List Float) (bound : Float) → first_of (first_tests st store diag x bound) ≡ 0
    → Passed st store (length diag) × (st.n ≤ length x)
first_passed st store diag x bound e =
    let ts = room_tests st store (min (length diag) (length x)) in
    let p = room_passed st store (min (length diag) (length x)) (earlier_passed ts (finite_test st x ∷ finite_number bound ∷ (not_above bound, 7) ∷ []) refl refl e) in
    let l = p.each_long in
    (record { filled = p.filled; sizes = p.sizes; store_long = p.store_long; each_long = omega arith }, omega arith)

scaling_lent : (st : State) (md : Mode) (store : ℕ) (diag x : List Float) (bound : Float) → first_of (scaling_tests st md store diag x bound) ≡ 0
    → Lent st md store diag x
unfolding scaling_tests
scaling_lent st mode.FirstScaled store diag x bound e = first_passed st store diag x bound e
scaling_lent st mode.FirstUnscaled store diag x bound e = first_passed st store diag x bound e
scaling_lent st mode.LaterScaled store diag x bound e =
    (room_passed st store (length diag) (earlier_passed (room_tests st store (length diag)) (finite_test st diag ∷ []) refl refl e), omega arith)
scaling_lent st mode.LaterUnscaled store diag x bound e = (room_passed st store (length diag) e, omega arith)

pub scaling_passed : (st : State) (md : Mode) (store : ℕ) (diag x : List Float) (bound : Float) {c : ℕ} → c ≡ first_of (scaling_tests st md store diag x bound) → c ≡ 0
    → Lent st md store diag x
scaling_passed st md store diag x bound e z = scaling_lent st md store diag x bound (sym e ∙ z)

-- ---- the call
module _ (st : State) (md : Mode) (diag x : List Float) (bound : Float) (s : List Float) {c : ℕ} (e : c ≡ first_of (scaling_tests st md (length s) diag x bound)) where
  pub scaling_refused : (c ≡ 0 → ⊥) → ended (refused c) st s diag ≡ scaling_call st md diag x bound s
  unfolding scaling_call
  scaling_refused h = call-refused _ (λ k. ended (refused k) st s diag) _ c (sym e) (ne_eqb c 0 h)

  pub scaling_worked : c ≡ 0 → {a : Reply Scaled} {d s' : List Float} → ◌≡◌ {A = Reply Scaled × List Float} (a, d) (rescaled md st.n (load st.n s).norms diag x bound)
      → s' ≡ lay (rested (load st.n s)) → ended a st s' d ≡ scaling_call st md diag x bound s
  unfolding scaling_call
  scaling_worked z h l =
      rw l (ap (λ (p : Reply Scaled × List Float). ended p.0 st (lay (rested (load st.n s))) p.1) h)
      ∙ call-worked _ (λ k. ended (refused k) st s diag) _ (sym e ∙ z)
