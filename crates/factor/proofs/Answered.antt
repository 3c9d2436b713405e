-- What an answered factoring says of the lent slices: the room as factored, the order list a permutation. Assumes nothing.
use mathlib.Core.Path.{◌≡◌, refl, sym, ap, ◌∙◌}
use mathlib.Core.Bool.{Bool, true, false, ◌&&◌, and-eq-true_iff}
use mathlib.Core.List.{List, ◌++◌, map}
use Prim.Native.Nat.{ℕ}
use lib.Dec.{eqb}
use lib.ListN.{length, take, drop}
use lib.Seq.{length-take-le, take_at}
use lib.Ieee.{Float}
use borrow.Author.Tests.{eqb-true}
use Rattle.leaves.specs.Reply.{answered, refused}
use Rattle.leaves.specs.Norm.{norm, ranges_of}
use Rattle.leaves.specs.declared.norm.Ranges.{Ranges}
use Rattle.leaves.specs.Triangle.{columns}
use Rattle.leaves.proofs.Replies.{refused-answered, answered-same}
use Rattle.factor.specs.State.{store_need, bench_need}
use Rattle.factor.specs.Room.{Room, load, lay}
use Rattle.leaves.specs.Square.{zeros}
use Rattle.leaves.specs.Tests.{first_of, all_finite}
use Rattle.factor.specs.Tests.{distinct_below, is_permutation}
use Rattle.reduce.specs.Reduction.{Reduction, reduction_of, measured}
use Rattle.factor.specs.Factoring.{no_lower, Factored, factored, factor_tests, factored_room, finite_room, all_finite_in, factor_worked, factor_call}
use Rattle.factor.specs.Outcome.{written}
use Rattle.factor.specs.AsFactored.{AsFactored}
use Rattle.factor.specs.declared.state.Held.TheVariants as held
use Rattle.factor.proofs.Passed.{Factorable, factor_passed}
use Rattle.factor.proofs.Layouts.{load-lay}
use Rattle.factor.proofs.Workings.{norms_long}
use Rattle.reduce.proofs.Fitting.{Fits, reduction-fits}
use Rattle.factor.proofs.Shapes.{factored_shaped}
use Rattle.factor.proofs.Swaps.{reduction_permutes}
use Rattle.factor.specs.inner.Rooms.{Shaped}

-- ---- an answer comes of the first of two outcomes where the second is a refusal
by_first : {f : Ranges} (b : Bool) (x y : Factored) (k : ℕ) → y.reply ≡ refused k → (let z : Factored = elim b [ true ↦ x | false ↦ y ] in z.reply ≡ answered f → (b ≡ true) × (z ≡ x))
by_first true x y k r h = (refl, refl)
by_first false x y k r h = refused-answered (sym r ∙ h)

module _ (m n : ℕ) (jacobian residuals store : List Float) (order : List ℕ) (bench : List Float) where
  abbrev call : Factored
  call = factor_call m n jacobian residuals store order bench

  abbrev made : Reduction
  made = reduction_of m n (columns m n jacobian) (take m residuals)

  abbrev room : Room
  room = factored_room m n (map norm (columns m n jacobian)) made (drop (store_need n) store)

  -- of every norm worked out
  abbrev flags : Ranges
  flags = ranges_of (measured m n (columns m n jacobian) (take m residuals))

  abbrev answer : Factored
  answer = factored (answered flags) (record { m = m; n = n; held = held.Nothing }) (lay room) (made.order ++ drop n order) (written (zeros (bench_need m n)) bench)

  worked : {f : Ranges} → (factor_worked m n jacobian residuals store order bench).reply ≡ answered f
      → (finite_room room ≡ true) × (factor_worked m n jacobian residuals store order bench ≡ answer)
  unfolding factor_worked
  worked h = by_first (finite_room room) answer _ 8 refl h

  called : {f : Ranges} → call.reply ≡ answered f
      → (eqb (first_of (factor_tests m n jacobian residuals (length store) (length order) (length bench))) 0 ≡ true) × (call ≡ factor_worked m n jacobian residuals store order bench)
  unfolding factor_call
  called h = by_first (eqb (first_of (factor_tests m n jacobian residuals (length store) (length order) (length bench))) 0) (factor_worked m n jacobian residuals store order bench) _ _ refl h

  module _ {f : Ranges} (h : call.reply ≡ answered f) where
    -- it passed its tests
    pub answered_passed : Factorable m n jacobian residuals (length store) (length order) (length bench)
    answered_passed = factor_passed m n jacobian residuals (length store) (length order) (length bench) (eqb-true _ 0 (called h).0)

    worked-answered : (factor_worked m n jacobian residuals store order bench).reply ≡ answered f
    worked-answered = ap (λ (x : Factored). x.reply) (sym (called h).1) ∙ h

    -- the one outcome
    pub answered_is : call ≡ answer
    answered_is = (called h).1 ∙ (worked worked-answered).1

    -- LAW (02, #106): the flags of two answered factorings of one Jacobian and its residuals are the same, whatever is lent
    pub factoring-flags : f ≡ flags
    factoring-flags = answered-same (sym h ∙ ap (λ (x : Factored). x.reply) answered_is)

    finite : finite_room room ≡ true
    finite = (worked worked-answered).0

    residuals_front : length (take m residuals) ≡ m
    residuals_front = length-take-le m residuals answered_passed.residuals_long

    pub answered-fits : Fits m n made
    answered-fits = reduction-fits m n jacobian (take m residuals) answered_passed.jacobian_long residuals_front

    pub answered_shaped : Shaped n room
    answered_shaped = factored_shaped m n (map norm (columns m n jacobian)) (drop (store_need n) store) made answered-fits (norms_long m n jacobian)

    -- the store holds the factored room
    pub answered_room : load n call.store ≡ room
    answered_room = ap (λ (x : Factored). load n x.store) answered_is ∙ load-lay n room answered_shaped

    pub answered-state : call.state ≡ record { m = m; n = n; held = held.Nothing }
    answered-state = ap (λ (x : Factored). x.state) answered_is

    -- LAW: R, qt_b and the column norms are finite
    pub answered-finite : (all_finite_in (load n call.store).upper ≡ true) × ((all_finite (load n call.store).qtb ≡ true) × (all_finite (load n call.store).norms ≡ true))
    unfolding finite_room
    answered-finite =
        let a = (and-eq-true_iff (all_finite_in room.upper && all_finite room.qtb) (all_finite room.norms)).0 finite in
        let b = (and-eq-true_iff (all_finite_in room.upper) (all_finite room.qtb)).0 a.0 in
        rw answered_room (b.0, (b.1, a.1))

    -- LAW: below R, in l_diag and in work +0; the surplus as it was
    pub answered-lower : ((load n call.store).below ≡ no_lower n) × (((load n call.store).ldiag ≡ zeros n) × (((load n call.store).work ≡ zeros n) × ((load n call.store).rest ≡ drop (store_need n) store)))
    unfolding factored_room
    answered-lower = rw answered_room (refl, (refl, (refl, refl)))

    -- LAW
    pub answered_as_factored : AsFactored n (load n call.store)
    answered_as_factored = record {
      below_zero = answered-lower.0;
      ldiag_zero = answered-lower.1.0;
      work_zero = answered-lower.1.1.0;
      upper_finite = answered-finite.0;
      qtb_finite = answered-finite.1.0;
      norms_finite = answered-finite.1.1;
    }

    -- LAW: the order list's first n are a permutation of 0 to n−1
    pub answered-order : is_permutation n call.order ≡ true
    answered-order =
        let e : call.order ≡ made.order ++ drop n order = ap (λ (x : Factored). x.order) answered_is in
        ap (is_permutation n) e ∙ ap (distinct_below n) (take_at made.order (drop n order) n answered-fits.order_long)
        ∙ reduction_permutes m n jacobian (take m residuals) answered_passed.jacobian_long residuals_front
