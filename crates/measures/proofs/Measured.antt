-- Tests that follow one another, and the calls of module 6 by their tests and by what their workings give. Assumes nothing.
use mathlib.Core.Path.{◌≡◌, refl, sym, ap, ◌∙◌}
use mathlib.Core.Bool.{Bool, true, false}
use mathlib.Core.List.{List, [], ◌∷◌, ◌++◌}
use Prim.Native.Nat.{ℕ, ◌*◌, ◌<◌, ◌≤◌}
use native.Mathlib.Nat.{le_refl}
use native.Mathlib.Omega.{arith}
use lib.ListN.{length, take, drop, length-append}
use lib.Seq.{take_at}
use lib.Ieee.{Float}
use borrow.Author.Tests.{ne_eqb}
use Rattle.leaves.specs.Number.{plus_zero, is_finite}
use Rattle.leaves.specs.Reply.{Reply, answered, refused}
use Rattle.leaves.specs.Product.{divided_by}
use Rattle.leaves.specs.declared.norm.Ranges.{Ranges}
use Rattle.measures.specs.Gradient.{measures, largest, gradient, above, above_limit, jx_norm_of, jx_ranges}
use Rattle.factor.specs.Room.{load, lay, rested}
use Rattle.leaves.specs.Square.{diagonal}
use Rattle.factor.specs.Solve.{gather, non_singular_of}
use Rattle.measures.specs.Determined.{determined_of}
use Rattle.measures.specs.inner.Counted.{counted_of}
use Rattle.leaves.specs.Tests.{Test, first_of}
use Rattle.factor.specs.Tests.{room_tests, order_test, finite_test, finite_number, not_above, below, solve_tests}
use Rattle.factor.specs.Outcome.{told}
use Rattle.measures.specs.Measures.{finite_or_8, gradient_call, above_tests, above_call, jx_call, determined_call, non_singular_call}
use Rattle.factor.specs.declared.state.State.{State}
use Rattle.factor.specs.PivotOrder.{full_rank}
use Rattle.factor.proofs.Copied.{tests_passed}
use Rattle.factor.proofs.PivotOrders.{full_rank_passed}
use Rattle.factor.proofs.Passed.{Ordered, room_passed, passed_sized, solve_passed, order_alone}
use Rattle.leaves.proofs.Refusals.{call-refused, call-worked, stopped, went_to, earlier_passed}
use Rattle.leaves.proofs.Insides.{Inside}
use Rattle.leaves.proofs.Squares.{diagonal-length}
use Rattle.factor.specs.inner.Rooms.{Sized}
use Rattle.factor.proofs.Orders.{ordered-below}
use Rattle.leaves.specs.inner.Orders.{Names}

-- ---- sizes, as the workings on a store ask them
pub one_inside : {n : ℕ} {s : List Float} → 0 < n → Sized n s → Inside 1 n
one_inside h z = record { rows_some = omega arith; rows_few = omega arith; cols_some = h; cols_few = z.small }

-- what a problem is lent as, once its tests are passed
pub record Form (n : ℕ) (s : List Float) (order : List ℕ) : Type 0 where
  pub some : 0 < n
  pub sized : Sized n s
  pub names : Names n order

pub ordered_form : (st : State) (s : List Float) (order : List ℕ) (shortest : ℕ) → Ordered st (length s) order shortest → Form st.n s order
ordered_form st s order shortest o =
    record {
      some = o.room.sizes.cols_some;
      sized = passed_sized st s shortest o.room;
      names = record { long = o.order_long; below = ordered-below st (length s) order shortest o };
    }

-- ---- the gradient
abbrev pub gradient_tests : State → ℕ → List ℕ → Float → List Test
gradient_tests st store order bnorm =
    room_tests st store (length order) ++ (order_test st order ∷ finite_number bnorm ∷ (not_above bnorm, 7) ∷ [])

-- the order list's tests, as the working asks them
pub gradient_first : (st : State) (store : ℕ) (order : List ℕ) {c : ℕ} → c ≡ first_of (solve_tests st store order (length order))
    → c ≡ first_of (room_tests st store (length order) ++ (order_test st order ∷ []))
gradient_first st store order e = e ∙ ap first_of (order_alone st store order)

module _ (st : State) (store : ℕ) (order : List ℕ) (bnorm : Float) where
  abbrev bnorm_tests : List Test
  bnorm_tests = finite_number bnorm ∷ (not_above bnorm, 7) ∷ []

  abbrev listed : List Test
  listed = room_tests st store (length order) ++ (order_test st order ∷ [])

  pub gradient-stopped : {c : ℕ} → c ≡ first_of (solve_tests st store order (length order)) → (c ≡ 0 → ⊥) → c ≡ first_of (gradient_tests st store order bnorm)
  gradient-stopped e h = sym (stopped listed bnorm_tests _ (gradient_first st store order e) h)

  pub gradient_went : {k : ℕ} → 0 ≡ first_of (solve_tests st store order (length order)) → k ≡ first_of bnorm_tests → k ≡ first_of (gradient_tests st store order bnorm)
  gradient_went e h = went_to listed bnorm_tests refl (gradient_first st store order e) refl h

pub gradient_passed : (st : State) (store : ℕ) (order : List ℕ) (bnorm : Float) {c : ℕ} → c ≡ first_of (gradient_tests st store order bnorm) → c ≡ 0
    → Ordered st store order (length order)
gradient_passed st store order bnorm e z =
    let ts = room_tests st store (length order) ++ (order_test st order ∷ []) in
    let us = finite_number bnorm ∷ (not_above bnorm, 7) ∷ [] in
    solve_passed st store order (length order)
    (ap first_of (order_alone st store order) ∙ earlier_passed ts us refl refl (sym e ∙ z))

-- the measure of the room that is lent
pub gradient_law : (n : ℕ) (s : List Float) (order : List ℕ) (bnorm : Float) {b t : List Float} {r : Reply Float}
    → b ≡ divided_by bnorm (load n s).qtb → t ≡ (load n s).norms
    → r ≡ largest plus_zero (measures b (load n s).upper (gather (take n order) t))
    → r ≡ gradient (gather (take n order) (load n s).norms) bnorm (load n s).upper (load n s).qtb
unfolding gradient
gradient_law n s order bnorm e f h = h ∙ rw (e, f)

module _ (st : State) (order : List ℕ) (bnorm : Float) (s : List Float) {c : ℕ} (e : c ≡ first_of (gradient_tests st (length s) order bnorm)) where
  pub gradient-refused : (c ≡ 0 → ⊥) → told (refused c) st s ≡ gradient_call st order bnorm s
  unfolding gradient_call
  gradient-refused h = call-refused _ (λ k. told (refused k) st s) _ c (sym e) (ne_eqb c 0 h)

  pub gradient-worked : c ≡ 0 → {r : Reply Float} {s' : List Float}
      → r ≡ gradient (gather (take st.n order) (load st.n s).norms) bnorm (load st.n s).upper (load st.n s).qtb
      → s' ≡ lay (rested (load st.n s)) → told r st s' ≡ gradient_call st order bnorm s
  unfolding gradient_call
  gradient-worked z h l = rw (h, l) (call-worked _ (λ k. told (refused k) st s) _ (sym e ∙ z))

-- ---- the question beside it (02, #105): its own tests, after the order list's
abbrev pub limit_tests : Float → Float → List Test
limit_tests bnorm limit = finite_number bnorm ∷ finite_number limit ∷ (not_above bnorm, 7) ∷ (below limit, 7) ∷ []

module _ (st : State) (store : ℕ) (order : List ℕ) (bnorm limit : Float) where
  abbrev ordered : List Test
  ordered = room_tests st store (length order) ++ (order_test st order ∷ [])

  pub above-stopped : {c : ℕ} → c ≡ first_of (solve_tests st store order (length order)) → (c ≡ 0 → ⊥) → c ≡ first_of (above_tests st store order bnorm limit)
  above-stopped e h = sym (stopped ordered (limit_tests bnorm limit) _ (gradient_first st store order e) h)

  pub above_went : {k : ℕ} → 0 ≡ first_of (solve_tests st store order (length order)) → k ≡ first_of (limit_tests bnorm limit)
      → k ≡ first_of (above_tests st store order bnorm limit)
  above_went e h = went_to ordered (limit_tests bnorm limit) refl (gradient_first st store order e) refl h

  pub above_passed : {c : ℕ} → c ≡ first_of (above_tests st store order bnorm limit) → c ≡ 0 → Ordered st store order (length order)
  above_passed e z =
      solve_passed st store order (length order)
      (ap first_of (order_alone st store order) ∙ earlier_passed ordered (limit_tests bnorm limit) refl refl (sym e ∙ z))

pub above_law : (n : ℕ) (s : List Float) (order : List ℕ) (bnorm limit : Float) {b t : List Float} {r : Reply Bool}
    → b ≡ divided_by bnorm (load n s).qtb → t ≡ (load n s).norms
    → r ≡ above limit (measures b (load n s).upper (gather (take n order) t))
    → r ≡ above_limit (gather (take n order) (load n s).norms) bnorm limit (load n s).upper (load n s).qtb
unfolding above_limit
above_law n s order bnorm limit e f h = h ∙ rw (e, f)

module _ (st : State) (order : List ℕ) (bnorm limit : Float) (s : List Float) {c : ℕ} (e : c ≡ first_of (above_tests st (length s) order bnorm limit)) where
  pub above-refused : (c ≡ 0 → ⊥) → told (refused c) st s ≡ above_call st order bnorm limit s
  unfolding above_call
  above-refused h = call-refused _ (λ k. told (refused k) st s) _ c (sym e) (ne_eqb c 0 h)

  pub above-worked : c ≡ 0 → {r : Reply Bool} {s' : List Float}
      → r ≡ above_limit (gather (take st.n order) (load st.n s).norms) bnorm limit (load st.n s).upper (load st.n s).qtb
      → s' ≡ lay (rested (load st.n s)) → told r st s' ≡ above_call st order bnorm limit s
  unfolding above_call
  above-worked z h l = rw (h, l) (call-worked _ (λ k. told (refused k) st s) _ (sym e ∙ z))

-- ---- the norm of Jx
abbrev pub jx_tests : State → ℕ → List ℕ → List Float → List Test
jx_tests st store order x = solve_tests st store order (length x) ++ (finite_test st x ∷ [])

pub jx_passed : (st : State) (store : ℕ) (order : List ℕ) (x : List Float) {c : ℕ} → c ≡ first_of (jx_tests st store order x) → c ≡ 0
    → Ordered st store order (length x)
jx_passed st store order x e z =
    solve_passed st store order (length x) (earlier_passed (solve_tests st store order (length x)) (finite_test st x ∷ []) refl refl (sym e ∙ z))

as_is : (v : Float) (seen : Ranges) → is_finite v ≡ true → answered (v, seen) ≡ finite_or_8 v seen
as_is v seen h = rw (h, finite_or_8)

as_eight : (v : Float) (seen : Ranges) → is_finite v ≡ false → refused 8 ≡ finite_or_8 v seen
as_eight v seen h = rw (h, finite_or_8)

module _ (n : ℕ) (s : List Float) (order : List ℕ) (x : List Float) {v : Float} {seen : Ranges} {ok : Bool}
    (e : v ≡ jx_norm_of (gather (take n order) x) (load n s).upper)
    (k : seen ≡ jx_ranges (gather (take n order) x) (load n s).upper) (f : ok ≡ is_finite v) where
  abbrev whole : Float
  whole = jx_norm_of (gather (take n order) x) (load n s).upper

  abbrev took_part : Ranges
  took_part = jx_ranges (gather (take n order) x) (load n s).upper

  finite : is_finite whole ≡ ok
  finite = ap is_finite (sym e) ∙ sym f

  pair : ◌≡◌ {A = Float × Ranges} (v, seen) (whole, took_part)
  pair = ap (λ (y : Float). (y, seen)) e ∙ ap (λ (r : Ranges). (whole, r)) k

  pub jx_finite : ok ≡ true → answered (v, seen) ≡ finite_or_8 whole took_part
  jx_finite h = ap answered pair ∙ as_is whole took_part (finite ∙ h)

  pub jx_infinite : ok ≡ false → refused 8 ≡ finite_or_8 whole took_part
  jx_infinite h = as_eight whole took_part (finite ∙ h)

module _ (st : State) (order : List ℕ) (x s : List Float) {c : ℕ} (e : c ≡ first_of (jx_tests st (length s) order x)) where
  pub jx_refused : (c ≡ 0 → ⊥) → told (refused c) st s ≡ jx_call st order x s
  unfolding jx_call
  jx_refused h = call-refused _ (λ k. told (refused k) st s) _ c (sym e) (ne_eqb c 0 h)

  pub jx_worked : c ≡ 0 → {r : Reply (Float × Ranges)} {s' : List Float}
      → r ≡ finite_or_8 (jx_norm_of (gather (take st.n order) x) (load st.n s).upper) (jx_ranges (gather (take st.n order) x) (load st.n s).upper)
      → s' ≡ lay (rested (load st.n s)) → told r st s' ≡ jx_call st order x s
  unfolding jx_call
  jx_worked z h l = rw (h, l) (call-worked _ (λ k. told (refused k) st s) _ (sym e ∙ z))

-- ---- o, as what was worked out stands as the first n of a room
module _ (n : ℕ) (room o : List Float) (h : length o ≡ n) where
  pub lent_again : take n (o ++ drop n room) ≡ o
  lent_again = take_at o (drop n room) n h

  pub again_fits : n ≤ length (o ++ drop n room)
  again_fits = simp length-append (omega arith)

  pub again_long : length (take n (o ++ drop n room)) ≡ n
  again_long = ap length lent_again ∙ h

  pub determined_law : (m : ℕ) (s : List Float) {k : ℕ} → o ≡ diagonal (load n s).upper
      → k ≡ counted_of m (take n (o ++ drop n room)) → k ≡ determined_of m (load n s).upper
  unfolding determined_of
  determined_law m s e f = f ∙ ap (counted_of m) (lent_again ∙ e) ∙ rw (diagonal-length 0 (load n s).upper)

-- ---- determined, and whether A has rank n, as calls
module _ (st : State) (s : List Float) {c : ℕ} (e : c ≡ first_of (room_tests st (length s) st.n)) where
  pub rank_inside : c ≡ 0 → Inside st.m st.n
  rank_inside z = (room_passed st (length s) st.n (sym e ∙ z)).sizes

  pub rank_sized : c ≡ 0 → Sized st.n s
  rank_sized z = passed_sized st s st.n (room_passed st (length s) st.n (sym e ∙ z))

  pub determined-refused : (c ≡ 0 → ⊥) → told (refused c) st s ≡ determined_call st s
  unfolding determined_call
  determined-refused h = call-refused _ (λ k. told (refused k) st s) _ c (sym e) (ne_eqb c 0 h)

  pub determined-worked : c ≡ 0 → {k : ℕ} {s' : List Float} → k ≡ determined_of st.m (load st.n s).upper
      → s' ≡ lay (rested (load st.n s)) → told (answered k) st s' ≡ determined_call st s
  unfolding determined_call
  determined-worked z h l = rw (h, l) (call-worked _ (λ k. told (refused k) st s) _ (sym e ∙ z))

  pub singular_refused : (c ≡ 0 → ⊥) → told (refused c) st s ≡ non_singular_call st s
  unfolding non_singular_call
  singular_refused h = call-refused _ (λ k. told (refused k) st s) _ c (sym e) (ne_eqb c 0 h)

  pub singular_worked : c ≡ 0 → {r : Reply Bool} {s' : List Float} → r ≡ full_rank st.m st.n s
      → s' ≡ lay (rested (load st.n s)) → told r st s' ≡ non_singular_call st s
  unfolding non_singular_call
  singular_worked z {r} {s'} h l =
      let passed = tests_passed st.m st.n s st.n (rank_inside z) (rank_sized z) (le_refl st.n) in
      ap (λ (a : Reply Bool). told a st s') (h ∙ full_rank_passed st.m st.n s passed)
      ∙ ap (λ (t : List Float). told (answered (non_singular_of st.m st.n (load st.n s).upper)) st t) l
      ∙ call-worked _ (λ k. told (refused k) st s) _ (sym e ∙ z)
