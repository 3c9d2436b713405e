-- What the calls share that are no solve: a store for the problem without the frozen columns, and each call by its marks and its tests.
-- Assumes nothing.
use mathlib.Core.Path.{◌≡◌, refl, ap, ◌∙◌}
use mathlib.Core.Bool.{true}
use mathlib.Core.List.{List, ◌++◌}
use Prim.Native.Nat.{ℕ, ◌*◌, ◌≤◌}
use native.Mathlib.Nat.{mul-le-mul}
use native.Mathlib.Omega.{arith}
use lib.ListN.{length, take, drop, replicate, length-replicate, length-append}
use lib.Seq.{length-take-le, take_at}
use lib.Ieee.{Float}
use Rattle.std.specs.Prelude.{Result, is_ok}
use Rattle.leaves.specs.Number.{plus_zero, one}
use Rattle.leaves.specs.declared.reply.Refusal.{Refusal}
use Rattle.leaves.specs.Reply.{Reply, refused, refusal_number, reply_of}
use Rattle.leaves.proofs.Replies.{refusal_number-some}
use Rattle.leaves.specs.Tests.{Test, first_of}
use Rattle.leaves.proofs.Overs.{lent_long}
use Rattle.factor.specs.State.{store_need}
use Rattle.factor.specs.Outcome.{read}
use Rattle.factor.specs.Outcome as plain
use Rattle.factor.specs.Parts.{rest_in}
use Rattle.factor.specs.declared.state.State.{State as Plain}
use Rattle.calls.specs.declared.state.State.{State}
use Rattle.calls.specs.State.{marked, cols, whole}
use Rattle.calls.specs.Tests.{call_by}
use Rattle.calls.specs.Outcome.{MarkedTold, marked_told, told_as, rested_by}
use Rattle.calls.specs.inner.Reducible.{Reducible}
use Rattle.calls.proofs.Ways.{rest_worked as rested}
use Rattle.calls.proofs.Passed.{Ready, by_no_mark, by_refusal, by_working}

-- ---- the first of 320 numbers, lent as a store
need_fits : (free : ℕ) → free ≤ 16 → store_need free ≤ 320
need_fits free h = let g : free * free ≤ 16 * 16 = mul-le-mul h h in omega arith

module _ {need free : ℕ} {r : List Float} (e : r ≡ replicate 320 one) (f : need ≡ store_need free) (h : free ≤ 16) where
  pub small_fits : need ≤ length r
  small_fits = let l : length r ≡ 320 = ap length e ∙ length-replicate 320 one in let g = need_fits free h in omega arith

  pub small_long : length (take need r) ≡ need
  small_long = length-take-le need r small_fits

-- ---- a lent problem whose tests are passed, its free columns counted
module _ {st : State} {store : List Float} {shortest free : ℕ} (r : Ready st store shortest) (e : free ≡ cols st) where
  pub counted_few : free ≤ 16
  counted_few = let p = r.reducible.fits in let w = r.reducible.few in omega arith

  pub counted_each : free ≤ shortest
  counted_each = let p = r.reducible.fits in let l = r.each_long in omega arith

  pub counted_in : Reducible st.n st.marks free store
  counted_in = rw e r.reducible

-- ---- w, written into the first of sixteen numbers and lent again
module _ {free : ℕ} {room : List Float} (w : List Float) (e : room ≡ replicate 16 plus_zero) (h : free ≤ 16) (k : length w ≡ length (take free room)) where
  as_long : length w ≡ free
  as_long = k ∙ lent_long free room e h

  pub again_fits : free ≤ length (w ++ drop free room)
  again_fits = let l = as_long in simp length-append (omega arith)

  pub again_same : take free (w ++ drop free room) ≡ w
  again_same = take_at w (drop free room) free as_long

  pub again_long : length (take free (w ++ drop free room)) ≡ free
  again_long = ap length again_same ∙ as_long

-- ---- the call: unmarked, the call that knows no marks, of its state
module _ {A : Type 0} (st : State) (store : List Float) (tests : List Test) (unmarked : Plain → plain.Told A) (worked : plain.Told A) where
  abbrev pub rest_call : MarkedTold A
  rest_call = call_by st.marks tests (told_as st (unmarked (whole st))) (rested_by st store worked) (λ k. marked_told (refused k) st store)

  pub rest_unmarked : {p q : Plain} {s : State} {t : List Float} {a : Reply A} → st.marks ≡ 0 → p ≡ whole st → plain.told a q t ≡ unmarked p
      → s ≡ marked st.marks q → marked_told a s t ≡ rest_call
  rest_unmarked {q = q} {t = t} {a} m d h e =
      ap (λ (x : State). marked_told a x t) e ∙ ap (told_as st) (h ∙ ap unmarked d) ∙ by_no_mark st.marks tests (told_as st (unmarked (whole st))) (rested_by st store worked) (λ k. marked_told (refused k) st store) m

  pub rest_refused : (r : Refusal) → (st.marks ≡ 0 → ⊥) → refusal_number r ≡ first_of tests → marked_told (refused (refusal_number r)) st store ≡ rest_call
  rest_refused r m e = by_refusal st.marks tests (told_as st (unmarked (whole st))) (rested_by st store worked) (λ k. marked_told (refused k) st store) m e (refusal_number-some r)

  -- answered or refused by the call on the problem without the frozen columns, and then work cleared
  module _ {shortest : ℕ} (r : Ready st store shortest) {a : Reply A} {s : List Float} (d : Result (Unit {0}) Refusal) (k : read (reply_of d) s ≡ rest_in st.n store) where
    pub rest_worked : (st.marks ≡ 0 → ⊥) → 0 ≡ first_of tests → a ≡ worked.reply → marked_told a st s ≡ rest_call
    rest_worked m e h =
        rw (h, (rested r.reducible s d k).1) (by_working st.marks tests (told_as st (unmarked (whole st))) (rested_by st store worked) (λ k. marked_told (refused k) st store) m e refl)

-- the clearing answers
pub rest_granted : {st : State} {store s : List Float} {shortest : ℕ} → Ready st store shortest → (d : Result (Unit {0}) Refusal) → read (reply_of d) s ≡ rest_in st.n store → is_ok d ≡ true
rest_granted {s = s} r d k = ap is_ok (rested r.reducible s d k).0
