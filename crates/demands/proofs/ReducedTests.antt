-- 02, #108: a call with marks that passes its tests passes those of the call without marks on the problem without the frozen columns. Assumes nothing.
use mathlib.Core.Path.{◌≡◌, refl, ap, ◌∙◌, subst}
use mathlib.Core.Bool.{true, false, not, ◌||◌, and-eq-true_iff}
use mathlib.Core.List.{List, [], ◌∷◌, ◌++◌}
use Prim.Native.Nat.{ℕ, ◌≤◌, min}
use native.Mathlib.Nat.{le_refl}
use native.Mathlib.Omega.{arith}
use lib.Dec.{ltb}
use lib.ListN.{length, take, drop, length-replicate}
use lib.Seq.{length-take-le, take-take, take_all}
use lib.Ieee.{Float}
use borrow.Author.Tests.{le-ltb, not-false}
use Rattle.leaves.specs.Number.{plus_zero}
use Rattle.leaves.specs.Square.{zeros}
use Rattle.leaves.specs.Tests.{outside, Test, all_finite, none_zero}
use Rattle.leaves.specs.Refusing.{NoneHold}
use Rattle.leaves.proofs.Insides.{Inside, within}
use Rattle.leaves.proofs.Refusals.{numbered, none_of_both}
use Rattle.frozen.specs.Frozen.{free_of}
use Rattle.frozen.proofs.Reduces.{marks-length, free_length, free_finite, free_none_zero, narrowed-length}
use Rattle.factor.specs.State.{is_empty, store_need}
use Rattle.factor.specs.Tests.{is_permutation, held_test, finite_test, finite_number, not_above, below}
use Rattle.factor.specs.Tests as plain
use Rattle.measures.specs.declared.scaling.Mode.TheVariants as mode
use Rattle.calls.specs.declared.state.State.{State}
use Rattle.calls.specs.State.{marks_in, cols, whole, without_frozen}
use Rattle.calls.specs.Tests.{continues, is_order, marked_room_tests, form_test, free_test}
use Rattle.calls.specs.Outcome.{narrowed_in}
use Rattle.calls.specs.Rescale.{marked_scaling_tests}
use Rattle.calls.proofs.Passed.{Ready, none_ready}
use Rattle.demands.specs.Calls.{zero_solve, damped_solve, held_solve, held_product, gradient, above, jx_norm, scaling, determined, non_singular}
use Rattle.demands.specs.History.{Call, base, search}
use Rattle.demands.specs.Refusals.{shortest_of, further_of, tests_of}
use Rattle.demands.specs.Marked.{tests_marked, reduced_call}

-- ---- a call's tests are those of its room, its further ones, and that a column is free

-- the shortest of the slices that a call lends with a number for each column
unfoldable pub shortest_by : Call → State → List ℕ → ℕ
shortest_by (base c) st order = shortest_of c (whole st) order
shortest_by (search diag radius lambda out) st order = min (length order) (min (length diag) (length out))

-- and what it tests between 3 and 9
unfoldable pub further_by : Call → State → List ℕ → List Test
further_by (base (zero_solve out)) st order = form_test st order ∷ []
further_by (base (damped_solve diag out)) st order = form_test st order ∷ finite_test (whole st) diag ∷ []
further_by (base (held_solve rhs out)) st order = form_test st order ∷ held_test (whole st) ∷ finite_test (whole st) rhs ∷ []
further_by (base (held_product out)) st order = held_test (whole st) ∷ []
further_by (base (gradient bnorm)) st order = form_test st order ∷ finite_number bnorm ∷ (not_above bnorm, 7) ∷ []
further_by (base (above bnorm limit)) st order = form_test st order ∷ finite_number bnorm ∷ finite_number limit ∷ (not_above bnorm, 7) ∷ (below limit, 7) ∷ []
further_by (base (jx_norm x)) st order = form_test st order ∷ finite_test (whole st) x ∷ []
further_by (base (scaling mode.FirstScaled diag x bound)) st order = finite_test (whole st) x ∷ finite_number bound ∷ (not_above bound, 7) ∷ []
further_by (base (scaling mode.FirstUnscaled diag x bound)) st order = finite_test (whole st) x ∷ finite_number bound ∷ (not_above bound, 7) ∷ []
further_by (base (scaling mode.LaterScaled diag x bound)) st order = finite_test (whole st) diag ∷ []
further_by (base (scaling mode.LaterUnscaled diag x bound)) st order = []
further_by (base determined) st order = []
further_by (base non_singular) st order = []
further_by (search diag radius lambda out) st order =
    form_test st order ∷ finite_test (whole st) diag ∷ finite_number radius ∷ finite_number lambda ∷ (not_above radius, 7) ∷ (below lambda, 7) ∷ (not (none_zero (take st.n diag)), 7) ∷ []

pub tests_split : (c : Call) (st : State) (order : List ℕ) (s : List Float)
    → tests_marked c st order s ≡ marked_room_tests st (length s) (shortest_by c st order) ++ (further_by c st order ++ (free_test st ∷ []))
unfolding tests_marked shortest_by shortest_of further_by marked_scaling_tests
tests_split (base (zero_solve out)) st order s = refl
tests_split (base (damped_solve diag out)) st order s = refl
tests_split (base (held_solve rhs out)) st order s = refl
tests_split (base (held_product out)) st order s = refl
tests_split (base (gradient bnorm)) st order s = refl
tests_split (base (above bnorm limit)) st order s = refl
tests_split (base (jx_norm x)) st order s = refl
tests_split (base (scaling mode.FirstScaled diag x bound)) st order s = refl
tests_split (base (scaling mode.FirstUnscaled diag x bound)) st order s = refl
tests_split (base (scaling mode.LaterScaled diag x bound)) st order s = refl
tests_split (base (scaling mode.LaterUnscaled diag x bound)) st order s = refl
tests_split (base determined) st order s = refl
tests_split (base non_singular) st order s = refl
tests_split (search diag radius lambda out) st order s = refl

further_numbered : (c : Call) (st : State) (order : List ℕ) → numbered (further_by c st order ++ (free_test st ∷ [])) ≡ true
unfolding further_by
further_numbered (base (zero_solve out)) st order = refl
further_numbered (base (damped_solve diag out)) st order = refl
further_numbered (base (held_solve rhs out)) st order = refl
further_numbered (base (held_product out)) st order = refl
further_numbered (base (gradient bnorm)) st order = refl
further_numbered (base (above bnorm limit)) st order = refl
further_numbered (base (jx_norm x)) st order = refl
further_numbered (base (scaling mode.FirstScaled diag x bound)) st order = refl
further_numbered (base (scaling mode.FirstUnscaled diag x bound)) st order = refl
further_numbered (base (scaling mode.LaterScaled diag x bound)) st order = refl
further_numbered (base (scaling mode.LaterUnscaled diag x bound)) st order = refl
further_numbered (base determined) st order = refl
further_numbered (base non_singular) st order = refl
further_numbered (search diag radius lambda out) st order = refl

pub marked_numbered : (c : Call) (st : State) (order : List ℕ) (s : List Float) → numbered (tests_marked c st order s) ≡ true
marked_numbered c st order s = ap numbered (tests_split c st order s) ∙ further_numbered c st order

-- ---- what is known once they are passed
module _ (c : Call) (st : State) (order : List ℕ) (s : List Float) (h : NoneHold (tests_marked c st order s)) where
  split : NoneHold (marked_room_tests st (length s) (shortest_by c st order)) × NoneHold (further_by c st order ++ (free_test st ∷ []))
  split = none_of_both (marked_room_tests st (length s) (shortest_by c st order)) (further_by c st order ++ (free_test st ∷ [])) (subst NoneHold (tests_split c st order s) h)

  further-split : NoneHold (further_by c st order) × NoneHold (free_test st ∷ [])
  further-split = none_of_both (further_by c st order) (free_test st ∷ []) split.1

  pub marked_ready : Ready st s (shortest_by c st order)
  marked_ready = none_ready st s (shortest_by c st order) split.0 further-split.1

  pub further_passed : NoneHold (further_by c st order)
  further_passed = further-split.0

-- ---- one test of each kind, on the problem without the frozen columns
module _ (st : State) (s : List Float) (k : ℕ) (r : Ready st s k) where
  abbrev free : ℕ
  free = cols st

  pub fewer : free ≤ st.n
  fewer = r.reducible.fits

  pub small_long : length (narrowed_in st s) ≡ store_need free
  small_long = narrowed-length st.n free s fewer r.reducible.long

  pub small_inside : Inside st.m free
  small_inside =
      let i = r.sizes in
      let a = i.cols_few in
      let b = fewer in
      record { rows_some = i.rows_some; rows_few = i.rows_few; cols_some = r.reducible.some; cols_few = omega arith }

  -- emptiness, sizes and lengths, then what else is passed
  room_and : {X : Type 0} (j : ℕ) → free ≤ j → X
      → (is_empty st.held ≡ false) × ((outside st.m free ≡ false) × (((ltb (length (narrowed_in st s)) (store_need free) || ltb j free) ≡ false) × X))
  room_and j l x =
      let e = le-ltb (length (narrowed_in st s)) (store_need free) (rw small_long (le_refl (store_need free))) in
      (r.filled, (within st.m free small_inside, (rw (e, le-ltb j free l), x)))

  module _ (order : List ℕ) where
    taken_long : st.n ≤ length order → length (take free order) ≡ free
    taken_long l = let b = fewer in length-take-le free order (omega arith)

    ordered : (form_test st order).0 ≡ false → (plain.order_test (without_frozen st) (take free order)).0 ≡ false
    ordered h =
        let w = not-false (is_order free st.n order) h in
        let p = ((and-eq-true_iff (is_permutation free order) (continues free (drop free (take st.n order)))).0 w).0 in
        rw (take-take free free order (le_refl free), p)

  module _ (xs : List Float) (l : st.n ≤ length xs) where
    pub gathered_long : length (free_of (marks_in st) xs) ≡ free
    gathered_long = let e = marks-length st.n st.marks in free_length (marks_in st) xs (omega arith)

    gathered_whole : take free (free_of (marks_in st) xs) ≡ free_of (marks_in st) xs
    gathered_whole = let e = gathered_long in take_all free (free_of (marks_in st) xs) (omega arith)

    finite_still : (finite_test (whole st) xs).0 ≡ false → (finite_test (without_frozen st) (free_of (marks_in st) xs)).0 ≡ false
    finite_still h =
        let e = marks-length st.n st.marks in
        let f : all_finite (take (length (marks_in st)) xs) ≡ true = rw e (not-false (all_finite (take st.n xs)) h) in
        rw (gathered_whole, free_finite (marks_in st) xs f)

    nonzero_still : not (none_zero (take st.n xs)) ≡ false → not (none_zero (take free (free_of (marks_in st) xs))) ≡ false
    nonzero_still h =
        let e = marks-length st.n st.marks in
        let f : none_zero (take (length (marks_in st)) xs) ≡ true = rw e (not-false (none_zero (take st.n xs)) h) in
        rw (gathered_whole, free_none_zero (marks_in st) xs f)

  zeros_long : length (zeros free) ≡ free
  zeros_long = length-replicate free plus_zero

-- LAW
module _ (st : State) (order : List ℕ) (s : List Float) where
  abbrev lent : Call → List Test
  lent c = tests_of (reduced_call st c) (without_frozen st) (take (cols st) order) (narrowed_in st s)

  passes : (c : Call) → Ready st s (shortest_by c st order) → NoneHold (further_by c st order) → NoneHold (lent c)
  unfolding shortest_by shortest_of further_by further_of reduced_call
  passes (base (zero_solve out)) r w =
      let k = min (length order) (length out) in
      let l = r.each_long in
      let o = taken_long st s k r order (omega arith) in
      let z = zeros_long st s k r in
      room_and st s k r (min (length (take (cols st) order)) (length (zeros (cols st)))) (omega arith) (ordered st s k r order w.0, tt)
  passes (base (damped_solve diag out)) r w =
      let k = min (length order) (min (length diag) (length out)) in
      let l = r.each_long in
      let o = taken_long st s k r order (omega arith) in
      let z = zeros_long st s k r in
      let gl : st.n ≤ length diag = omega arith in
      let g = gathered_long st s k r diag gl in
      room_and st s k r (min (length (take (cols st) order)) (min (length (free_of (marks_in st) diag)) (length (zeros (cols st))))) (omega arith) (ordered st s k r order w.0, (finite_still st s k r diag gl w.1.0, tt))
  passes (base (held_solve rhs out)) r w =
      let k = min (length order) (min (length rhs) (length out)) in
      let l = r.each_long in
      let o = taken_long st s k r order (omega arith) in
      let z = zeros_long st s k r in
      let gl : st.n ≤ length rhs = omega arith in
      let g = gathered_long st s k r rhs gl in
      room_and st s k r (min (length (take (cols st) order)) (min (length (free_of (marks_in st) rhs)) (length (zeros (cols st))))) (omega arith) (ordered st s k r order w.0, (w.1.0, (finite_still st s k r rhs gl w.1.1.0, tt)))
  passes (base (held_product out)) r w =
      let k = length out in
      let l = r.each_long in
      let z = zeros_long st s k r in
      room_and st s k r (length (zeros (cols st))) (omega arith) w
  passes (base (gradient bnorm)) r w =
      let k = length order in
      let l = r.each_long in
      let o = taken_long st s k r order (omega arith) in
      room_and st s k r (length (take (cols st) order)) (omega arith) (ordered st s k r order w.0, w.1)
  passes (base (above bnorm limit)) r w =
      let k = length order in
      let l = r.each_long in
      let o = taken_long st s k r order (omega arith) in
      room_and st s k r (length (take (cols st) order)) (omega arith) (ordered st s k r order w.0, w.1)
  passes (base (jx_norm x)) r w =
      let k = min (length order) (length x) in
      let l = r.each_long in
      let o = taken_long st s k r order (omega arith) in
      let gl : st.n ≤ length x = omega arith in
      let g = gathered_long st s k r x gl in
      room_and st s k r (min (length (take (cols st) order)) (length (free_of (marks_in st) x))) (omega arith) (ordered st s k r order w.0, (finite_still st s k r x gl w.1.0, tt))
  passes (base (scaling mode.FirstScaled diag x bound)) r w =
      let k = min (length diag) (length x) in
      let l = r.each_long in
      let dl : st.n ≤ length diag = omega arith in
      let d = gathered_long st s k r diag dl in
      let gl : st.n ≤ length x = omega arith in
      let g = gathered_long st s k r x gl in
      room_and st s k r (min (length (free_of (marks_in st) diag)) (length (free_of (marks_in st) x))) (omega arith) (finite_still st s k r x gl w.0, w.1)
  passes (base (scaling mode.FirstUnscaled diag x bound)) r w =
      let k = min (length diag) (length x) in
      let l = r.each_long in
      let dl : st.n ≤ length diag = omega arith in
      let d = gathered_long st s k r diag dl in
      let gl : st.n ≤ length x = omega arith in
      let g = gathered_long st s k r x gl in
      room_and st s k r (min (length (free_of (marks_in st) diag)) (length (free_of (marks_in st) x))) (omega arith) (finite_still st s k r x gl w.0, w.1)
  passes (base (scaling mode.LaterScaled diag x bound)) r w =
      let k = length diag in
      let l = r.each_long in
      let gl : st.n ≤ length diag = omega arith in
      let g = gathered_long st s k r diag gl in
      room_and st s k r (length (free_of (marks_in st) diag)) (omega arith) (finite_still st s k r diag gl w.0, tt)
  passes (base (scaling mode.LaterUnscaled diag x bound)) r w =
      let k = length diag in
      let l = r.each_long in
      let gl : st.n ≤ length diag = omega arith in
      let g = gathered_long st s k r diag gl in
      room_and st s k r (length (free_of (marks_in st) diag)) (omega arith) tt
  passes (base determined) r w = room_and st s st.n r (cols st) (le_refl (cols st)) tt
  passes (base non_singular) r w = room_and st s st.n r (cols st) (le_refl (cols st)) tt
  passes (search diag radius lambda out) r w =
      let k = min (length order) (min (length diag) (length out)) in
      let l = r.each_long in
      let o = taken_long st s k r order (omega arith) in
      let z = zeros_long st s k r in
      let gl : st.n ≤ length diag = omega arith in
      let g = gathered_long st s k r diag gl in
      room_and st s k r (min (length (take (cols st) order)) (min (length (free_of (marks_in st) diag)) (length (zeros (cols st))))) (omega arith) (ordered st s k r order w.0, (finite_still st s k r diag gl w.1.0, (w.1.1.0, (w.1.1.1.0, (w.1.1.1.1.0, (w.1.1.1.1.1.0, (nonzero_still st s k r diag gl w.1.1.1.1.1.1.0, tt)))))))

  pub reduced-passes : (c : Call) → NoneHold (tests_marked c st order s) → NoneHold (lent c)
  reduced-passes c h = passes c (marked_ready c st order s h) (further_passed c st order s h)
