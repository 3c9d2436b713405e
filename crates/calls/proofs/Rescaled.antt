-- The scaling call with marks, by its tests and by what its working gives. Assumes nothing.
use mathlib.Core.Path.{◌≡◌, refl, sym, ap, ◌∙◌}
use mathlib.Core.List.{List, [], ◌∷◌, ◌++◌}
use Prim.Native.Nat.{ℕ, ◌≤◌, min}
use native.Mathlib.Omega.{arith}
use lib.ListN.{length, take, drop, replicate, length-replicate}
use lib.Seq.{length-take-le}
use lib.Ieee.{Float}
use Rattle.leaves.specs.Number.{one}
use Rattle.std.specs.Prelude.{Result}
use Rattle.leaves.specs.declared.reply.Refusal.{Refusal}
use Rattle.leaves.specs.Reply.{Reply, refused, refusal_number, reply_of}
use Rattle.leaves.proofs.Replies.{refusal_number-some}
use Rattle.leaves.specs.Tests.{first_of}
use Rattle.frozen.specs.Frozen.{free_of}
use Rattle.frozen.specs.Moved.{gather_call}
use Rattle.factor.specs.Tests.{finite_test, finite_number, not_above}
use Rattle.factor.specs.Outcome as outcome
use Rattle.factor.specs.declared.state.State.{State as Plain}
use Rattle.measures.specs.Rescale.{Scaled}
use Rattle.measures.specs.Rescale as plain
use Rattle.measures.specs.declared.scaling.Mode.{Mode}
use Rattle.measures.specs.declared.scaling.Mode.TheVariants as mode
use Rattle.measures.specs.inner.Reads.{parameters_read}
use Rattle.calls.specs.declared.state.State.{State}
use Rattle.calls.specs.State.{marked, marks_in, cols, whole, without_frozen}
use Rattle.calls.specs.Tests.{marked_room_tests, free_test}
use Rattle.calls.specs.Outcome.{MarkedEnded, marked_ended, ended_as, narrowed_in}
use Rattle.calls.specs.Rescale.{marked_first_tests, marked_scaling_tests, frozen_entries, scaled_by, marked_scaling}
use Rattle.calls.proofs.Backs.{put_back}
use Rattle.calls.proofs.Passed.{Ready, room_ready, by_no_mark, by_refusal, by_working}
use Rattle.calls.proofs.Ways.{gather-worked}

-- ---- each mode's tests
module _ (st : State) (store : ℕ) (diag x : List Float) (bound : Float) {k : ℕ} {md : Mode} where
  pub first_scaled_tests : md ≡ mode.FirstScaled → k ≡ first_of (marked_first_tests st store diag x bound) → k ≡ first_of (marked_scaling_tests st md store diag x bound)
  unfolding marked_scaling_tests
  first_scaled_tests e h = rw e h

  pub first_unscaled_tests : md ≡ mode.FirstUnscaled → k ≡ first_of (marked_first_tests st store diag x bound) → k ≡ first_of (marked_scaling_tests st md store diag x bound)
  unfolding marked_scaling_tests
  first_unscaled_tests e h = rw e h

  pub later_scaled_tests : md ≡ mode.LaterScaled → k ≡ first_of (marked_room_tests st store (length diag) ++ (finite_test (whole st) diag ∷ free_test st ∷ []))
      → k ≡ first_of (marked_scaling_tests st md store diag x bound)
  unfolding marked_scaling_tests
  later_scaled_tests e h = rw e h

  pub later_unscaled_tests : md ≡ mode.LaterUnscaled → k ≡ first_of (marked_room_tests st store (length diag) ++ (free_test st ∷ [])) → k ≡ first_of (marked_scaling_tests st md store diag x bound)
  unfolding marked_scaling_tests
  later_unscaled_tests e h = rw e h

-- ---- what is known once they are passed: the lent scaling holds n, and so does x where it is read
abbrev pub Lent : State → Mode → List Float → List Float → List Float → Type 0
Lent st md store diag x = Ready st store (length diag) × (parameters_read md st.n ≤ length x)

first_ready : (st : State) (store diag x : List Float) (bound : Float) → first_of (marked_first_tests st (length store) diag x bound) ≡ 0
    → Ready st store (length diag) × (st.n ≤ length x)
first_ready st store diag x bound e =
    let r = room_ready st store (min (length diag) (length x)) (finite_test (whole st) x ∷ finite_number bound ∷ (not_above bound, 7) ∷ []) refl e in
    let l = r.each_long in
    (record { filled = r.filled; sizes = r.sizes; reducible = r.reducible; each_long = omega arith }, omega arith)

scaling_lent : (st : State) (md : Mode) (store diag x : List Float) (bound : Float) → first_of (marked_scaling_tests st md (length store) diag x bound) ≡ 0
    → Lent st md store diag x
unfolding marked_scaling_tests
scaling_lent st mode.FirstScaled store diag x bound e = first_ready st store diag x bound e
scaling_lent st mode.FirstUnscaled store diag x bound e = first_ready st store diag x bound e
scaling_lent st mode.LaterScaled store diag x bound e = (room_ready st store (length diag) (finite_test (whole st) diag ∷ []) refl e, omega arith)
scaling_lent st mode.LaterUnscaled store diag x bound e = (room_ready st store (length diag) [] refl e, omega arith)

pub scaling_ready : (st : State) (md : Mode) (store diag x : List Float) (bound : Float) → 0 ≡ first_of (marked_scaling_tests st md (length store) diag x bound) → Lent st md store diag x
scaling_ready st md store diag x bound e = scaling_lent st md store diag x bound (sym e)

-- ---- what stands at a frozen column afterwards
module _ (n : ℕ) (diag : List Float) {md : Mode} where
  pub entries_filled : (y : List Float) → md ≡ mode.FirstScaled → n ≤ length diag → y ≡ replicate (length (take n diag)) one → y ++ drop n diag ≡ frozen_entries md n diag
  unfolding frozen_entries
  entries_filled y e h f =
      rw e (put_back n diag (replicate n one) h (ap length f ∙ length-replicate (length (take n diag)) one) (f ∙ ap (λ (k : ℕ). replicate k one) (length-take-le n diag h)))

pub others_kept : (n : ℕ) (diag : List Float) (md : Mode) → (md ≡ mode.FirstScaled → ⊥) → diag ≡ frozen_entries md n diag
unfolding frozen_entries
others_kept n diag mode.FirstScaled h = absurd (h refl)
others_kept n diag mode.FirstUnscaled h = refl
others_kept n diag mode.LaterScaled h = refl
others_kept n diag mode.LaterUnscaled h = refl

-- ---- x is read by the first call alone
scaling_read : (p : Plain) (md : Mode) (d : List Float) {xs ys : List Float} (bound : Float) (s : List Float) (n k : ℕ) → parameters_read md n ≤ k → (n ≤ k → xs ≡ ys)
    → plain.scaling_call p md d xs bound s ≡ plain.scaling_call p md d ys bound s
unfolding plain.scaling_call plain.scaling_tests plain.rescaled
scaling_read p mode.FirstScaled d bound s n k h e = ap (λ (l : List Float). plain.scaling_call p mode.FirstScaled d l bound s) (e h)
scaling_read p mode.FirstUnscaled d bound s n k h e = ap (λ (l : List Float). plain.scaling_call p mode.FirstUnscaled d l bound s) (e h)
scaling_read p mode.LaterScaled d bound s n k h e = refl
scaling_read p mode.LaterUnscaled d bound s n k h e = refl

-- ---- the call
module _ (st : State) (md : Mode) (diag x : List Float) (bound : Float) (s : List Float) where
  abbrev unmarked : MarkedEnded Scaled
  unmarked = ended_as st (plain.scaling_call (whole st) md diag x bound s)

  abbrev worked : MarkedEnded Scaled
  worked = scaled_by st md diag s (plain.scaling_call (without_frozen st) md (free_of (marks_in st) diag) (free_of (marks_in st) x) bound (narrowed_in st s))

  pub scaling_unmarked : {p q : Plain} {st' : State} {t o : List Float} {a : Reply Scaled} → st.marks ≡ 0 → p ≡ whole st
      → outcome.ended a q t o ≡ plain.scaling_call p md diag x bound s → st' ≡ marked st.marks q → marked_ended a st' t o ≡ marked_scaling st md diag x bound s
  unfolding marked_scaling
  scaling_unmarked {t = t} {o} {a} m w h e =
      ap (λ (z : State). marked_ended a z t o) e
      ∙ ap (λ (r : outcome.Ended Scaled). ended_as st r) (h ∙ ap (λ (z : Plain). plain.scaling_call z md diag x bound s) w)
      ∙ by_no_mark st.marks (marked_scaling_tests st md (length s) diag x bound) unmarked worked (λ k. marked_ended (refused k) st s diag) m

  pub scaling_refused : (r : Refusal) → (st.marks ≡ 0 → ⊥) → refusal_number r ≡ first_of (marked_scaling_tests st md (length s) diag x bound)
      → marked_ended (refused (refusal_number r)) st s diag ≡ marked_scaling st md diag x bound s
  unfolding marked_scaling
  scaling_refused r m e = by_refusal st.marks (marked_scaling_tests st md (length s) diag x bound) unmarked worked (λ k. marked_ended (refused k) st s diag) m e (refusal_number-some r)

  -- w: what was lent for the gathered x
  pub scaling_worked : (st.marks ≡ 0 → ⊥) → 0 ≡ first_of (marked_scaling_tests st md (length s) diag x bound) → {r : MarkedEnded Scaled} {ys xs : List Float} (w : List Float) (u : Result (Unit {0}) Refusal)
      → length w ≡ cols st → (reply_of u, xs) ≡ gather_call st.n st.marks x w → ys ≡ xs
      → r ≡ scaled_by st md diag s (plain.scaling_call (without_frozen st) md (free_of (marks_in st) diag) ys bound (narrowed_in st s)) → r ≡ marked_scaling st md diag x bound s
  unfolding marked_scaling
  scaling_worked m e {ys = ys} {xs} w u l g y h =
      let k = (scaling_ready st md s diag x bound e).1 in
      let q = scaling_read (without_frozen st) md (free_of (marks_in st) diag) bound (narrowed_in st s) st.n (length x) k (λ (i : st.n ≤ length x). y ∙ (gather-worked st.n st.marks x w xs u i l g).1) in
      h
      ∙ ap (λ (r : outcome.Ended Scaled). scaled_by st md diag s r) q
      ∙ by_working st.marks (marked_scaling_tests st md (length s) diag x bound) unmarked worked (λ k. marked_ended (refused k) st s diag) m e refl
