-- 02, #105, with #108: what the question with marks answers, by the free columns' measures and beside the gradient with marks. Assumes nothing.
use mathlib.Core.Path.{◌≡◌, refl, sym, ap, ◌∙◌, subst}
use mathlib.Core.Bool.{Bool, true, false, cond}
use mathlib.Core.List.{List}
use mathlib.Core.Logic.{◌↔◌}
use Prim.Native.Nat.{ℕ, ◌<◌}
use lib.Dec.{eqb}
use lib.ListN.{length, take}
use lib.Ieee.{Float, lt}
use Rattle.leaves.specs.Number.{is_finite}
use Rattle.leaves.specs.Refusing.{NoneHold}
use Rattle.leaves.specs.Reply.{Reply, answered, refused}
use Rattle.leaves.specs.Tests.{Test, first_of, all_finite}
use Rattle.leaves.proofs.Refusals.{refused_iff, passed_iff}
use Rattle.leaves.proofs.Replies.{refused-answered}
use Rattle.factor.specs.Outcome.{Told}
use Rattle.factor.specs.Tests.{below}
use Rattle.measures.specs.Measures.{gradient_call, above_tests, above_call}
use Rattle.measures.proofs.Aboves.{above-agrees-call}
use Rattle.calls.specs.declared.state.State.{State}
use Rattle.calls.specs.State.{cols, whole, without_frozen}
use Rattle.calls.specs.Tests.{call_by}
use Rattle.calls.specs.Outcome.{MarkedTold, marked_told, told_as, narrowed_in, rested_by}
use Rattle.calls.specs.Measures.{marked_gradient, marked_above_tests, marked_above}
use Rattle.calls.proofs.Measured.{gradient_tests}
use Rattle.calls.proofs.Passed.{by_refusal, by_working}
use Rattle.demands.specs.Above.{before_non_finite, any_above, free_measures}
use Rattle.demands.specs.Calls.{reply_number, gradient, above}
use Rattle.demands.specs.History.{base}
use Rattle.demands.specs.Marked.{perform_marked, tests_marked, reduced_call}
use Rattle.demands.specs.Refusals.{shortest_of, further_of}
use Rattle.demands.proofs.AboveLaws.{judged, says_yes, says_no, says_eight, passed_is, above_beside_eight}
use Rattle.demands.proofs.ReducedTests.{reduced-passes}
use Rattle.demands.proofs.FrozenTable.{frozen_refused, frozen_eight}

-- ---- two calls with marks that are refused by the same number, side by side
module _ {A B : Type 0} (P : Reply A → Reply B → Type 0) (marks : ℕ) (ts us : List Test) (e : first_of us ≡ first_of ts)
    (u w : MarkedTold A) (r : ℕ → MarkedTold A) (u' w' : MarkedTold B) (r' : ℕ → MarkedTold B) where
  abbrev called : ℕ → MarkedTold B
  called k = elim (eqb marks 0) [ true ↦ u' | false ↦ elim (eqb k 0) [ true ↦ w' | false ↦ r' k ] ]

  beside : P u.reply u'.reply → P w.reply w'.reply → ((k : ℕ) → P (r k).reply (r' k).reply) → P (call_by marks ts u w r).reply (call_by marks us u' w' r').reply
  beside p q h = subst (λ (k : ℕ). P (call_by marks ts u w r).reply (called k).reply) (sym e) (by (eqb marks 0) (eqb (first_of ts) 0))
    where
      by : (b c : Bool)
          → (let x : MarkedTold A = elim b [ true ↦ u | false ↦ elim c [ true ↦ w | false ↦ r (first_of ts) ] ] in
          let y : MarkedTold B = elim b [ true ↦ u' | false ↦ elim c [ true ↦ w' | false ↦ r' (first_of ts) ] ] in
          P x.reply y.reply)
      by true c = p
      by false true = q
      by false false = h (first_of ts)

module _ (st : State) (order : List ℕ) (bnorm limit : Float) (store : List Float) where
  abbrev tests : List Test
  tests = marked_above_tests st (length store) order bnorm limit

  abbrev tests_beside : List Test
  tests_beside = gradient_tests st (length store) order bnorm

  abbrev ms : List Float
  ms = free_measures st order bnorm store

  -- the calls without marks, on the whole problem and on the one without the frozen columns
  abbrev over_all : Told Bool
  over_all = above_call (whole st) order bnorm limit store

  abbrev over_free : Told Bool
  over_free = above_call (without_frozen st) (take (cols st) order) bnorm limit (narrowed_in st store)

  abbrev gradient_over_all : Told Float
  gradient_over_all = gradient_call (whole st) order bnorm store

  abbrev gradient_over_free : Told Float
  gradient_over_free = gradient_call (without_frozen st) (take (cols st) order) bnorm (narrowed_in st store)

  same_first : is_finite limit ≡ true → below limit ≡ false → first_of tests ≡ first_of tests_beside
  unfolding first_of
  same_first f b = rw (f, b)

  -- LAW: for any number of marks, 0 too
  pub frozen_above-agrees : (g : Float) → (marked_gradient st order bnorm store).reply ≡ answered g → is_finite limit ≡ true → below limit ≡ false
      → (marked_above st order bnorm limit store).reply ≡ answered (lt limit g)
  unfolding marked_gradient marked_above
  frozen_above-agrees g e f b =
      beside (λ (x : Reply Float) (y : Reply Bool). x ≡ answered g → y ≡ answered (lt limit g)) st.marks tests_beside tests (same_first f b)
      (told_as st gradient_over_all) (rested_by st store gradient_over_free) (λ k. marked_told (refused k) st store)
      (told_as st over_all) (rested_by st store over_free) (λ k. marked_told (refused k) st store)
      (λ h. above-agrees-call (whole st) order bnorm limit store g h f b)
      (λ h. above-agrees-call (without_frozen st) (take (cols st) order) bnorm limit (narrowed_in st store) g h f b)
      (λ k h. refused-answered h) e

  module _ (m : st.marks ≡ 0 → ⊥) where
    reduced_is : first_of tests ≡ 0 → (marked_above st order bnorm limit store).reply ≡ over_free.reply
    unfolding marked_above
    reduced_is z =
        ap (λ (t : MarkedTold Bool). t.reply)
        (sym (by_working st.marks tests (told_as st over_all) (rested_by st store over_free) (λ k. marked_told (refused k) st store) m refl z))

    stopped_is : (first_of tests ≡ 0 → ⊥) → (marked_above st order bnorm limit store).reply ≡ refused (first_of tests)
    unfolding marked_above
    stopped_is h =
        ap (λ (t : MarkedTold Bool). t.reply)
        (sym (by_refusal st.marks tests (told_as st over_all) (rested_by st store over_free) (λ k. marked_told (refused k) st store) m refl h))

    small_passed : first_of tests ≡ 0 → first_of (above_tests (without_frozen st) (length (narrowed_in st store)) (take (cols st) order) bnorm limit) ≡ 0
    unfolding tests_marked reduced_call shortest_of further_of
    small_passed z =
        (passed_iff (above_tests (without_frozen st) (length (narrowed_in st store)) (take (cols st) order) bnorm limit) refl).1
        (reduced-passes st order store (base (above bnorm limit)) ((passed_iff tests refl).0 z))

    marked_passed : first_of tests ≡ 0 → (marked_above st order bnorm limit store).reply ≡ judged (any_above limit (before_non_finite ms)) (all_finite ms)
    marked_passed z = reduced_is z ∙ passed_is (without_frozen st) (take (cols st) order) bnorm limit (narrowed_in st store) (small_passed z)

    eight_passed : (marked_above st order bnorm limit store).reply ≡ refused 8 → NoneHold tests
    unfolding perform_marked tests_marked
    eight_passed h = ((frozen_eight (base (above bnorm limit)) st order store m).0 (ap reply_number h)).0

    -- LAW: by the free columns' measures
    pub frozen_above_yes : ((marked_above st order bnorm limit store).reply ≡ answered true) ↔ (NoneHold tests × (any_above limit (before_non_finite ms) ≡ true))
    frozen_above_yes = says_yes tests refl limit ms (marked_above st order bnorm limit store).reply marked_passed stopped_is

    pub frozen_above_no : ((marked_above st order bnorm limit store).reply ≡ answered false) ↔ (NoneHold tests × ((any_above limit ms ≡ false) × (all_finite ms ≡ true)))
    frozen_above_no = says_no tests refl limit ms (marked_above st order bnorm limit store).reply marked_passed stopped_is

    pub frozen_above_eight : ((marked_above st order bnorm limit store).reply ≡ refused 8) ↔ (NoneHold tests × ((any_above limit (before_non_finite ms) ≡ false) × (all_finite ms ≡ false)))
    frozen_above_eight = says_eight tests refl limit ms (marked_above st order bnorm limit store).reply marked_passed stopped_is eight_passed

    -- LAW: beside the gradient, where the limit is finite and not below zero
    module _ (f : is_finite limit ≡ true) (b : below limit ≡ false) where
      pub frozen_above_as_gradient : (k : ℕ) → 0 < k → (k ≡ 8 → ⊥)
          → (reply_number (marked_gradient st order bnorm store).reply ≡ k) ↔ (reply_number (marked_above st order bnorm limit store).reply ≡ k)
      unfolding perform_marked tests_marked
      frozen_above_as_gradient k p q =
          let g = frozen_refused (base (gradient bnorm)) st order store m k p q in
          let a = frozen_refused (base (above bnorm limit)) st order store m k p q in (
            λ h. a.1 ((refused_iff tests k p).0 (same_first f b ∙ (refused_iff tests_beside k p).1 (g.0 h))),
            λ h. g.1 ((refused_iff tests_beside k p).0 (sym (same_first f b) ∙ (refused_iff tests k p).1 (a.0 h))),
          )

      gradient_passed : (marked_gradient st order bnorm store).reply ≡ refused 8 → first_of tests_beside ≡ 0
      unfolding perform_marked tests_marked
      gradient_passed h = (passed_iff tests_beside refl).1 ((frozen_eight (base (gradient bnorm)) st order store m).0 (ap reply_number h)).0

      gradient-reduced : (marked_gradient st order bnorm store).reply ≡ refused 8 → gradient_over_free.reply ≡ refused 8
      unfolding marked_gradient
      gradient-reduced h =
          ap (λ (t : MarkedTold Float). t.reply)
          (by_working st.marks tests_beside (told_as st gradient_over_all) (rested_by st store gradient_over_free) (λ k. marked_told (refused k) st store) m refl (gradient_passed h))
          ∙ h

      pub frozen_above_beside_eight : (marked_gradient st order bnorm store).reply ≡ refused 8
          → (marked_above st order bnorm limit store).reply ≡ cond (any_above limit (before_non_finite ms)) (answered true) (refused 8)
      frozen_above_beside_eight h =
          reduced_is (same_first f b ∙ gradient_passed h) ∙ above_beside_eight (without_frozen st) (take (cols st) order) bnorm limit (narrowed_in st store) f b (gradient-reduced h)
