-- 02, #108: what a call with marks leaves below the diagonal and in l_diag is, without the frozen columns, what the call on the problem without them leaves.
-- Assumes nothing.
use mathlib.Core.Path.{◌≡◌, refl, sym, ap, ◌∙◌, subst}
use mathlib.Core.Bool.{Bool, true, false, true≢false}
use mathlib.Core.List.{List, [], ◌∷◌}
use Prim.Native.Nat.{ℕ, zero, suc, ◌+◌, ◌-◌, ◌<◌, ◌≤◌}
use native.Mathlib.Omega.{arith}
use lib.ListN.{length, take, get_or}
use lib.Seq.{take_at}
use lib.Ieee.{Float}
use Rattle.leaves.specs.Number.{plus_zero}
use Rattle.leaves.specs.Refusing.{NoneHold}
use Rattle.leaves.specs.Square.{zeros, cleared}
use Rattle.leaves.proofs.Refusals.{passed_iff}
use Rattle.frozen.specs.Frozen.{free_of}
use Rattle.frozen.proofs.Reduces.{cut_from}
use Rattle.factor.specs.Room.{Room, load, leaving}
use Rattle.factor.specs.Solve.{padded}
use Rattle.factor.specs.declared.state.State.{State as Plain}
use Rattle.factor.specs.inner.Rooms.{Shaped}
use Rattle.calls.specs.declared.state.State.{State}
use Rattle.calls.specs.State.{marks_in, cols, without_frozen}
use Rattle.calls.specs.Outcome.{widened}
use Rattle.demands.specs.Calls.{StoreOutcome, perform_store, zero_solve, damped_solve, held_solve, held_product, gradient, above, jx_norm, scaling, determined, non_singular}
use Rattle.demands.specs.History.{Call, base, search, perform, is_solve}
use Rattle.demands.specs.Eight.{zero_x}
use Rattle.demands.specs.Refusals.{store_tests, tests_of}
use Rattle.demands.specs.Marked.{reduced_call}
use Rattle.demands.proofs.Effects.{Effect, effect, zero_effect, broken, tested_of}
use Rattle.demands.proofs.Leavings.{tests_numbered, room_sized, passed_is, either, room_after}
use Rattle.demands.proofs.Laws.{as_zero, zero-tested}
use Rattle.demands.proofs.FrozenRooms.{below_left, ldiag_left}

-- ---- +0 cut down
zeros_cut : (k : ℕ) (l : List Float) → take k (zeros (length l)) ≡ zeros (length (take k l))
zeros_cut zero l = refl
zeros_cut (suc k) [] = refl
zeros_cut (suc k) (x ∷ l) = ap (λ (y : List Float). plus_zero ∷ y) (zeros_cut k l)

pub cleared_cut : (w j : ℕ) (ls : List (List Float)) → cut_from w j (cleared ls) ≡ cleared (cut_from w j ls)
unfolding cleared
cleared_cut w j [] = refl
cleared_cut w j (l ∷ ls) = rw (zeros_cut (w - suc j) l, cleared_cut w (suc j) ls)

pub cleared_fewer : (k : ℕ) (ls : List (List Float)) → take k (cleared ls) ≡ cleared (take k ls)
unfolding cleared
cleared_fewer zero ls = refl
cleared_fewer (suc k) [] = refl
cleared_fewer (suc k) (l ∷ ls) = ap (λ (x : List (List Float)). zeros (length l) ∷ x) (cleared_fewer k ls)

-- ---- what was widened, cut down again
pub widened_cut : (w j n k : ℕ) (ls : List (List Float)) → length ls ≡ k → k ≤ n → ((i : ℕ) → i < length ls → length (get_or ls i []) ≡ w - suc (j + i))
    → cut_from w j (take k (widened n ls)) ≡ ls
unfolding widened
widened_cut w j n zero [] e f h = refl
widened_cut w j n zero (l ∷ ls) e f h = absurd (omega arith)
widened_cut w j n (suc k) [] e f h = absurd (omega arith)
widened_cut w j zero (suc k) (l ∷ ls) e f h = absurd (omega arith)
widened_cut w j (suc n) (suc k) (l ∷ ls) e f h =
    let a = h 0 (omega arith) in
    let b : take (w - suc j) (padded n l) ≡ l = take_at l (zeros (n - length l)) (w - suc j) (a ∙ omega arith) in
    rw (b, widened_cut w (suc j) n k ls (omega arith) (omega arith) (λ i p. h (suc i) (omega arith) ∙ omega arith))

-- ---- the zero solve and the search leave +0 below the diagonal and in l_diag

abbrev pub is_emptying : Call → Bool
is_emptying (base (zero_solve out)) = true
is_emptying (base (damped_solve diag out)) = false
is_emptying (base (held_solve rhs out)) = false
is_emptying (base (held_product out)) = false
is_emptying (base (gradient bnorm)) = false
is_emptying (base (above bnorm limit)) = false
is_emptying (base (jx_norm x)) = false
is_emptying (base (scaling md diag x bound)) = false
is_emptying (base determined) = false
is_emptying (base non_singular) = false
is_emptying (search diag radius lambda out) = true

abbrev pub Emptied : Room → Room → Type 0
Emptied r t = (t.below ≡ cleared r.below) × (t.ldiag ≡ zeros (length r.ldiag))

left-emptied : (b : List (List Float)) (l : List Float) (r : Room) (x : Room) → x ≡ leaving b l r → b ≡ cleared r.below → l ≡ zeros (length r.ldiag) → Emptied r x
unfolding leaving
left-emptied b l r x e p q = (ap (λ (y : Room). y.below) e ∙ p, ap (λ (y : Room). y.ldiag) e ∙ q)

zero_empties : (out : List Float) (st : Plain) (order : List ℕ) (s : List Float) → tested_of (zero_solve out) st order s ≡ 0
    → Emptied (load st.n s) (load st.n (perform_store (zero_solve out) st order s).store)
unfolding effect
zero_empties out st order s e =
    let r = load st.n s in
    let f = effect (zero_solve out) st order r in
    let h : (f.below ≡ cleared r.below) × (f.ldiag ≡ zeros (length r.ldiag)) =
    either (λ (x : Effect). (x.below ≡ cleared r.below) × (x.ldiag ≡ zeros (length r.ldiag))) (zero_x st r) (zero_effect st order r out) (broken r out) (refl, refl) (refl, refl) in
    left-emptied f.below f.ldiag r _
    (ap (λ (o : StoreOutcome). load st.n o.store) (passed_is (zero_solve out) st order s e) ∙ room_after (zero_solve out) st order s (room_sized (zero_solve out) st order s e)) h.0 h.1

pub call_empties : (c : Call) → is_emptying c ≡ true → (st : State) (order : List ℕ) (s : List Float) → NoneHold (tests_of (reduced_call st c) (without_frozen st) order s)
    → Emptied (load (cols st) s) (load (cols st) (perform (reduced_call st c) (without_frozen st) order s).store)
unfolding reduced_call perform
call_empties (base (zero_solve out)) i st order s h =
    let d = zero_solve (zeros (cols st)) in
    zero_empties (zeros (cols st)) (without_frozen st) order s ((passed_iff (store_tests d (without_frozen st) (length s) order) (tests_numbered d (without_frozen st) (length s) order)).1 h)
call_empties (base (damped_solve diag out)) i st order s h = absurd (true≢false (sym i))
call_empties (base (held_solve rhs out)) i st order s h = absurd (true≢false (sym i))
call_empties (base (held_product out)) i st order s h = absurd (true≢false (sym i))
call_empties (base (gradient bnorm)) i st order s h = absurd (true≢false (sym i))
call_empties (base (above bnorm limit)) i st order s h = absurd (true≢false (sym i))
call_empties (base (jx_norm x)) i st order s h = absurd (true≢false (sym i))
call_empties (base (scaling md diag x bound)) i st order s h = absurd (true≢false (sym i))
call_empties (base determined) i st order s h = absurd (true≢false (sym i))
call_empties (base non_singular) i st order s h = absurd (true≢false (sym i))
call_empties (search diag radius lambda out) i st order s h =
    let d = free_of (marks_in st) diag in
    let o = zeros (cols st) in
    let e = (passed_iff (tests_of (search d radius lambda o) (without_frozen st) order s) refl).1 h in
    subst (λ (x : List Float). Emptied (load (cols st) s) (load (cols st) x)) (sym (as_zero d radius lambda o (without_frozen st) order s e))
    (zero_empties (zeros (cols st)) (without_frozen st) order s (zero-tested d radius lambda o (without_frozen st) order s e))

-- ---- by what kind of call it is: x is the room that the reduced problem's call left, y the one that it found
module _ (st : State) (x r y : Room) (fits : cols st ≤ st.n) (z : Shaped (cols st) x) (w : Shaped st.n r) (yb : y.below ≡ cut_from (cols st) 0 (take (cols st) r.below))
    (yl : y.ldiag ≡ take (cols st) r.ldiag) where
  abbrev pub BackTo : Call → Type 0
  BackTo c = (cut_from (cols st) 0 (take (cols st) (below_left c st x r)) ≡ x.below) × (take (cols st) (ldiag_left c st x r) ≡ x.ldiag)

  back_emptied : Emptied y x
      → (cut_from (cols st) 0 (take (cols st) (cleared r.below)) ≡ x.below) × (take (cols st) (zeros (length r.ldiag)) ≡ x.ldiag)
  back_emptied h = (
    ap (λ (l : List (List Float)). cut_from (cols st) 0 l) (cleared_fewer (cols st) r.below) ∙ cleared_cut (cols st) 0 (take (cols st) r.below) ∙ ap cleared (sym yb) ∙ sym h.0,
    zeros_cut (cols st) r.ldiag ∙ ap (λ (l : List Float). zeros (length l)) (sym yl) ∙ sym h.1,
  )

  back_damped : (cut_from (cols st) 0 (take (cols st) (widened st.n x.below)) ≡ x.below) × (take (cols st) (padded st.n x.ldiag) ≡ x.ldiag)
  back_damped =
      let a = z.below_wide in (
        widened_cut (cols st) 0 st.n (cols st) x.below a fits (λ i h. z.below_tall i (omega arith) ∙ omega arith),
        take_at x.ldiag (zeros (st.n - length x.ldiag)) (cols st) z.ldiag_long,
      )

  back_rests : (x.below ≡ y.below) × (x.ldiag ≡ y.ldiag) → (cut_from (cols st) 0 (take (cols st) r.below) ≡ x.below) × (take (cols st) r.ldiag ≡ x.ldiag)
  back_rests h = (sym yb ∙ sym h.0, sym yl ∙ sym h.1)

  pub back_to : (c : Call) → (is_emptying c ≡ true → Emptied y x) → (is_solve c ≡ false → (x.below ≡ y.below) × (x.ldiag ≡ y.ldiag)) → BackTo c
  unfolding below_left ldiag_left
  back_to (base (zero_solve out)) p q = back_emptied (p refl)
  back_to (base (damped_solve diag out)) p q = back_damped
  back_to (base (held_solve rhs out)) p q = back_rests (q refl)
  back_to (base (held_product out)) p q = back_rests (q refl)
  back_to (base (gradient bnorm)) p q = back_rests (q refl)
  back_to (base (above bnorm limit)) p q = back_rests (q refl)
  back_to (base (jx_norm v)) p q = back_rests (q refl)
  back_to (base (scaling md diag v bound)) p q = back_rests (q refl)
  back_to (base determined) p q = back_rests (q refl)
  back_to (base non_singular) p q = back_rests (q refl)
  back_to (search diag radius lambda out) p q = back_emptied (p refl)
