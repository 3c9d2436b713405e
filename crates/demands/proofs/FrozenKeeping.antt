-- Demand 3 with marks, what the laws of one call ask of the call on the problem without the frozen columns, call by call. Assumes nothing.
use mathlib.Core.Path.{◌≡◌, refl, sym, ap, ◌∙◌}
use mathlib.Core.Bool.{true, false, true≢false}
use mathlib.Core.List.{List}
use Prim.Native.Nat.{ℕ, ◌≤◌, min}
use native.Mathlib.Omega.{arith}
use lib.Dec.{ltb}
use lib.ListN.{length, take}
use lib.Seq.{take-take}
use lib.Ieee.{Float}
use borrow.Author.Tests.{le-ltb}
use Rattle.leaves.specs.Square.{zeros, cleared}
use Rattle.factor.specs.Room.{Room}
use Rattle.factor.specs.Solve.{padded}
use Rattle.factor.specs.State.{is_empty, store_need}
use Rattle.factor.specs.declared.state.Held.{Held}
use Rattle.factor.specs.inner.Rooms.{Shaped}
use Rattle.factor.proofs.Damped.{cleared-same}
use Rattle.measures.specs.declared.scaling.Mode.TheVariants as mode
use Rattle.calls.specs.declared.state.State.{State}
use Rattle.calls.specs.State.{marked_held, cols}
use Rattle.calls.specs.Tests.{form_test}
use Rattle.calls.specs.Outcome.{widened}
use Rattle.calls.proofs.Passed.{free_count-fits}
use Rattle.demands.specs.Calls.{zero_solve, damped_solve, held_solve, held_product, gradient, above, jx_norm, scaling, determined, non_singular}
use Rattle.demands.specs.History.{Call, base, search, Outcome, is_solve}
use Rattle.demands.specs.inner.Helds.{is_held}
use Rattle.demands.specs.Refusals.{shortest_of}
use Rattle.demands.specs.Marked.{tests_marked, reduced_call, answered_out, store_back, read_back}
use Rattle.demands.proofs.Surplus.{least-same}
use Rattle.demands.proofs.ReducedTests.{shortest_by, further_by, tests_split}
use Rattle.demands.proofs.FrozenRooms.{below_left, ldiag_left}

-- ---- of which kind the reduced problem's call is
pub solve_still : (c : Call) (st : State) → is_solve (reduced_call st c) ≡ is_solve c
unfolding reduced_call
solve_still (base (zero_solve out)) st = refl
solve_still (base (damped_solve diag out)) st = refl
solve_still (base (held_solve rhs out)) st = refl
solve_still (base (held_product out)) st = refl
solve_still (base (gradient bnorm)) st = refl
solve_still (base (above bnorm limit)) st = refl
solve_still (base (jx_norm x)) st = refl
solve_still (base (scaling md diag x bound)) st = refl
solve_still (base determined) st = refl
solve_still (base non_singular) st = refl
solve_still (search diag radius lambda out) st = refl

pub held_still : (c : Call) (st : State) → is_held (reduced_call st c) ≡ is_held c
unfolding reduced_call
held_still (base (zero_solve out)) st = refl
held_still (base (damped_solve diag out)) st = refl
held_still (base (held_solve rhs out)) st = refl
held_still (base (held_product out)) st = refl
held_still (base (gradient bnorm)) st = refl
held_still (base (above bnorm limit)) st = refl
held_still (base (jx_norm x)) st = refl
held_still (base (scaling md diag x bound)) st = refl
held_still (base determined) st = refl
held_still (base non_singular) st = refl
held_still (search diag radius lambda out) st = refl

pub solve_not_held : (c : Call) → is_solve c ≡ true → is_held c ≡ false
solve_not_held (base (zero_solve out)) h = refl
solve_not_held (base (damped_solve diag out)) h = refl
solve_not_held (base (held_solve rhs out)) h = absurd (true≢false (sym h))
solve_not_held (base (held_product out)) h = absurd (true≢false (sym h))
solve_not_held (base (gradient bnorm)) h = refl
solve_not_held (base (above bnorm limit)) h = refl
solve_not_held (base (jx_norm x)) h = refl
solve_not_held (base (scaling md diag x bound)) h = refl
solve_not_held (base determined) h = refl
solve_not_held (base non_singular) h = refl
solve_not_held (search diag radius lambda out) h = refl

-- ---- what a call leaves below the diagonal and in l_diag

-- no solve: as it was
pub left_rests : (c : Call) → is_solve c ≡ false → (st : State) (x r : Room) → (below_left c st x r ≡ r.below) × (ldiag_left c st x r ≡ r.ldiag)
unfolding below_left ldiag_left
left_rests (base (zero_solve out)) h st x r = absurd (true≢false h)
left_rests (base (damped_solve diag out)) h st x r = absurd (true≢false h)
left_rests (base (held_solve rhs out)) h st x r = (refl, refl)
left_rests (base (held_product out)) h st x r = (refl, refl)
left_rests (base (gradient bnorm)) h st x r = (refl, refl)
left_rests (base (above bnorm limit)) h st x r = (refl, refl)
left_rests (base (jx_norm y)) h st x r = (refl, refl)
left_rests (base (scaling md diag y bound)) h st x r = (refl, refl)
left_rests (base determined) h st x r = (refl, refl)
left_rests (base non_singular) h st x r = (refl, refl)
left_rests (search diag radius lambda out) h st x r = absurd (true≢false h)

-- a solve: the same by what the reduced problem's solve left, whatever stood there before
module _ (st : State) (x y r t : Room) (b : x.below ≡ y.below) (l : x.ldiag ≡ y.ldiag) (z : Shaped st.n r) (w : Shaped st.n t) where
  cleared-alike : (cleared r.below ≡ cleared t.below) × (zeros (length r.ldiag) ≡ zeros (length t.ldiag))
  cleared-alike =
      let e = z.below_wide in (
        cleared-same r.below t.below (z.below_wide ∙ sym w.below_wide) (λ k h. z.below_tall k (omega arith) ∙ sym (w.below_tall k (omega arith))),
        ap zeros (z.ldiag_long ∙ sym w.ldiag_long),
      )

  pub left_settles : (c : Call) → is_solve c ≡ true → (below_left c st x r ≡ below_left c st y t) × (ldiag_left c st x r ≡ ldiag_left c st y t)
  unfolding below_left ldiag_left
  left_settles (base (zero_solve out)) h = cleared-alike
  left_settles (base (damped_solve diag out)) h = (ap (λ (v : List (List Float)). widened st.n v) b, ap (λ (v : List Float). padded st.n v) l)
  left_settles (base (held_solve rhs out)) h = absurd (true≢false (sym h))
  left_settles (base (held_product out)) h = absurd (true≢false (sym h))
  left_settles (base (gradient bnorm)) h = absurd (true≢false (sym h))
  left_settles (base (above bnorm limit)) h = absurd (true≢false (sym h))
  left_settles (base (jx_norm v)) h = absurd (true≢false (sym h))
  left_settles (base (scaling md diag v bound)) h = absurd (true≢false (sym h))
  left_settles (base determined) h = absurd (true≢false (sym h))
  left_settles (base non_singular) h = absurd (true≢false (sym h))
  left_settles (search diag radius lambda out) h = cleared-alike

-- ---- whatever is held
module _ (st : State) (h : Held) where
  pub reduced_fresh : (c : Call) → reduced_call (marked_held st h) c ≡ reduced_call st c
  unfolding reduced_call
  reduced_fresh (base (zero_solve out)) = refl
  reduced_fresh (base (damped_solve diag out)) = refl
  reduced_fresh (base (held_solve rhs out)) = refl
  reduced_fresh (base (held_product out)) = refl
  reduced_fresh (base (gradient bnorm)) = refl
  reduced_fresh (base (above bnorm limit)) = refl
  reduced_fresh (base (jx_norm x)) = refl
  reduced_fresh (base (scaling md diag x bound)) = refl
  reduced_fresh (base determined) = refl
  reduced_fresh (base non_singular) = refl
  reduced_fresh (search diag radius lambda out) = refl

  pub back_fresh : (c : Call) (s : List Float) (e : Outcome) → read_back c (marked_held st h) s e ≡ read_back c st s e
  unfolding store_back answered_out
  back_fresh (base (zero_solve out)) s e = refl
  back_fresh (base (damped_solve diag out)) s e = refl
  back_fresh (base (held_solve rhs out)) s e = refl
  back_fresh (base (held_product out)) s e = refl
  back_fresh (base (gradient bnorm)) s e = refl
  back_fresh (base (above bnorm limit)) s e = refl
  back_fresh (base (jx_norm x)) s e = refl
  back_fresh (base (scaling md diag x bound)) s e = refl
  back_fresh (base determined) s e = refl
  back_fresh (base non_singular) s e = refl
  back_fresh (search diag radius lambda out) s e = refl

  -- a solve's tests but the first
  pub further_fresh : (c : Call) (order : List ℕ) → is_solve c ≡ true → (shortest_by c (marked_held st h) order ≡ shortest_by c st order) × (further_by c (marked_held st h) order ≡ further_by c st order)
  unfolding shortest_by shortest_of further_by
  further_fresh (base (zero_solve out)) order i = (refl, refl)
  further_fresh (base (damped_solve diag out)) order i = (refl, refl)
  further_fresh (base (held_solve rhs out)) order i = absurd (true≢false (sym i))
  further_fresh (base (held_product out)) order i = absurd (true≢false (sym i))
  further_fresh (base (gradient bnorm)) order i = absurd (true≢false (sym i))
  further_fresh (base (above bnorm limit)) order i = absurd (true≢false (sym i))
  further_fresh (base (jx_norm x)) order i = absurd (true≢false (sym i))
  further_fresh (base (scaling md diag x bound)) order i = absurd (true≢false (sym i))
  further_fresh (base determined) order i = absurd (true≢false (sym i))
  further_fresh (base non_singular) order i = absurd (true≢false (sym i))
  further_fresh (search diag radius lambda out) order i = (refl, refl)

  pub tests_fresh : (c : Call) (order : List ℕ) (s : List Float) → is_solve c ≡ true → is_empty h ≡ false → is_empty st.held ≡ false → tests_marked c (marked_held st h) order s ≡ tests_marked c st order s
  tests_fresh c order s i e f =
      let g = further_fresh c order i in
      tests_split c (marked_held st h) order s ∙ rw (e, f, g.0, g.1) refl ∙ sym (tests_split c st order s)

-- ---- of a store that is long enough the tests ask nothing else
pub tests_long : (c : Call) (st : State) (order : List ℕ) (s t : List Float) → store_need st.n ≤ length s → store_need st.n ≤ length t → tests_marked c st order s ≡ tests_marked c st order t
tests_long c st order s t p q =
    tests_split c st order s ∙ rw (le-ltb (length s) (store_need st.n) p, le-ltb (length t) (store_need st.n) q) refl ∙ sym (tests_split c st order t)

-- ---- and of the order list no more than its first n
module _ (st : State) (o p : List ℕ) (lo : st.n ≤ length o) (lp : st.n ≤ length p) (same : take st.n o ≡ take st.n p) where
  pub first_same : take (cols st) o ≡ take (cols st) p
  first_same =
      let f = free_count-fits st.n st.marks in
      sym (take-take (cols st) st.n o f) ∙ ap (λ (l : List ℕ). take (cols st) l) same ∙ take-take (cols st) st.n p f

  shortest_same : (c : Call) → ltb (shortest_by c st o) st.n ≡ ltb (shortest_by c st p) st.n
  unfolding shortest_by shortest_of
  shortest_same (base (zero_solve out)) = least-same st.n (length o) (length p) (length out) lo lp
  shortest_same (base (damped_solve diag out)) = least-same st.n (length o) (length p) (min (length diag) (length out)) lo lp
  shortest_same (base (held_solve rhs out)) = least-same st.n (length o) (length p) (min (length rhs) (length out)) lo lp
  shortest_same (base (held_product out)) = refl
  shortest_same (base (gradient bnorm)) = le-ltb (length o) st.n lo ∙ sym (le-ltb (length p) st.n lp)
  shortest_same (base (above bnorm limit)) = le-ltb (length o) st.n lo ∙ sym (le-ltb (length p) st.n lp)
  shortest_same (base (jx_norm x)) = least-same st.n (length o) (length p) (length x) lo lp
  shortest_same (base (scaling mode.FirstScaled diag x bound)) = refl
  shortest_same (base (scaling mode.FirstUnscaled diag x bound)) = refl
  shortest_same (base (scaling mode.LaterScaled diag x bound)) = refl
  shortest_same (base (scaling mode.LaterUnscaled diag x bound)) = refl
  shortest_same (base determined) = refl
  shortest_same (base non_singular) = refl
  shortest_same (search diag radius lambda out) = least-same st.n (length o) (length p) (min (length diag) (length out)) lo lp

  order_same : form_test st o ≡ form_test st p
  order_same = rw (first_same, same)

  further_same : (c : Call) → further_by c st o ≡ further_by c st p
  unfolding further_by
  further_same (base (zero_solve out)) = rw order_same
  further_same (base (damped_solve diag out)) = rw order_same
  further_same (base (held_solve rhs out)) = rw order_same
  further_same (base (held_product out)) = refl
  further_same (base (gradient bnorm)) = rw order_same
  further_same (base (above bnorm limit)) = rw order_same
  further_same (base (jx_norm x)) = rw order_same
  further_same (base (scaling mode.FirstScaled diag x bound)) = refl
  further_same (base (scaling mode.FirstUnscaled diag x bound)) = refl
  further_same (base (scaling mode.LaterScaled diag x bound)) = refl
  further_same (base (scaling mode.LaterUnscaled diag x bound)) = refl
  further_same (base determined) = refl
  further_same (base non_singular) = refl
  further_same (search diag radius lambda out) = rw order_same

  pub tests_same : (c : Call) (s : List Float) → tests_marked c st o s ≡ tests_marked c st p s
  tests_same c s = tests_split c st o s ∙ rw (shortest_same c, further_same c) refl ∙ sym (tests_split c st p s)
