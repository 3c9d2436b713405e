-- The way to the problem without the frozen columns, and back: what is lent to its call, and an output that comes back. Assumes nothing.
use mathlib.Core.Path.{◌≡◌, sym, ap, ◌∙◌}
use mathlib.Core.List.{List, ◌++◌}
use Prim.Native.Nat.{ℕ, ◌≤◌}
use native.Mathlib.Omega.{arith}
use lib.ListN.{length, take, drop}
use lib.Seq.{length-take-le}
use lib.Ieee.{Float}
use Rattle.leaves.specs.Reply.{Reply}
use Rattle.factor.specs.Outcome.{written}
use Rattle.factor.specs.Outcome as plain
use Rattle.factor.specs.declared.state.State.{State as Plain}
use Rattle.calls.specs.declared.state.State.{State}
use Rattle.calls.specs.State.{marked, cols, whole}
use Rattle.calls.specs.Outcome.{MarkedEnded, marked_ended, ended_as}
use Rattle.calls.specs.inner.Reducible.{Reducible}
use Rattle.calls.proofs.Resting.{counted_in}
use Rattle.calls.proofs.Passed.{Ready}

-- ---- with no mark: the call that knows none
module _ {A : Type 0} (st : State) {a : Reply A} {p : Plain} {st' : State} {s : List Float} where
  pub ended-unmarked : (call : Plain → plain.Ended A) {w : Plain} {o : List Float} → w ≡ whole st → plain.ended a p s o ≡ call w → st' ≡ marked st.marks p
      → marked_ended a st' s o ≡ ended_as st (call (whole st))
  ended-unmarked call e h g = rw (← e, ← h, g)

-- ---- what is lent to the call on the reduced problem
module _ (st : State) (store : List Float) (shortest : ℕ) (h : Ready st store shortest) {free : ℕ} (f : free ≡ cols st) where
  pub ready_reducible : Reducible st.n st.marks free store
  ready_reducible = counted_in h f

  -- an order list, or any other with an entry for each column
  pub first_fits : {A : Type 0} (xs : List A) → st.n ≤ length xs → free ≤ length xs
  first_fits xs l = let a = ready_reducible.fits in omega arith

  pub first_long : {A : Type 0} (xs : List A) → st.n ≤ length xs → length (take free xs) ≡ free
  first_long xs l = length-take-le free xs (first_fits xs l)

-- ---- the store of an answer, where the call's own contract has it as the definition does
pub with-store : {A : Type 0} {a : Reply A} {st : State} {s z o : List Float} {x : MarkedEnded A} → s ≡ z → marked_ended a st z o ≡ x → marked_ended a st s o ≡ x
with-store {a = a} {st} {o = o} e h = ap (λ (l : List Float). marked_ended a st l o) e ∙ h

-- ---- an output of which the first n were lent and came back as y
pub put_back : (n : ℕ) (out xs : List Float) {y : List Float} → n ≤ length out → length y ≡ length (take n out) → y ≡ xs → y ++ drop n out ≡ written xs out
put_back n out xs {y} h k e = ap (λ (j : ℕ). y ++ drop j out) (sym (k ∙ length-take-le n out h)) ∙ ap (λ (z : List Float). written z out) e
