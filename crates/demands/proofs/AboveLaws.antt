-- 02, #105: what the question without marks answers, by the columns' measures and beside the gradient. Assumes nothing.
use mathlib.Core.Path.{◌≡◌, refl, sym, ap, ◌∙◌}
use mathlib.Core.Bool.{Bool, true, false, cond, true≢false, and-eq-true_iff}
use mathlib.Core.List.{List, [], ◌∷◌}
use mathlib.Core.Logic.{◌↔◌, ◌⊎◌, inl, inr}
use Prim.Native.Nat.{ℕ, ◌<◌}
use lib.Dec.{eqb}
use lib.ListN.{length, take}
use lib.Ieee.{Float, lt}
use borrow.Author.Tests.{eqb-true, eqb-false}
use Rattle.leaves.specs.Number.{is_finite}
use Rattle.leaves.specs.Refusing.{NoneHold}
use Rattle.leaves.specs.Reply.{Reply, answered, refused}
use Rattle.leaves.specs.Tests.{Test, first_of, all_finite}
use Rattle.leaves.proofs.Refusals.{numbered, refused_iff, passed_iff}
use Rattle.leaves.proofs.Replies.{answered-refused, refused-answered, answered-same}
use Rattle.factor.specs.Outcome.{Told}
use Rattle.factor.specs.Room.{load}
use Rattle.factor.specs.Solve.{gather}
use Rattle.factor.specs.Tests.{below}
use Rattle.factor.specs.declared.state.State.{State as Plain}
use Rattle.measures.specs.Gradient.{above as asks, gradient as measure, above_limit}
use Rattle.measures.specs.Measures.{gradient_call, above_tests, above_call}
use Rattle.measures.proofs.Aboves.{NoneAbove, EndedBy, Above, NotFinite, above_says_yes, above-refused_eight, above_says_no, above_where_refused}
use Rattle.measures.proofs.Measured.{gradient_tests, gradient-worked, above-refused, above-worked}
use Rattle.measures.proofs.gradient.Gradients.{above_not, above_is, above_on}
use Rattle.demands.specs.Above.{before_non_finite, any_above}
use Rattle.demands.specs.Calls.{reply_number, perform_store}
use Rattle.demands.specs.Calls as basic
use Rattle.demands.specs.Eight.{column_measures}
use Rattle.demands.specs.Refusals.{shortest_of, further_of}
use Rattle.demands.proofs.Tabled.{refused_early, refused_eight}

-- ---- by the measures: some above the limit before the first non-finite one, all finite
abbrev pub judged : Bool → Bool → Reply Bool
judged some all = cond some (answered true) (cond all (answered false) (refused 8))

asked_is : (limit : Float) (ms : List Float) → asks limit ms ≡ judged (any_above limit (before_non_finite ms)) (all_finite ms)
unfolding asks all_finite
asked_is limit [] = refl
asked_is limit (x ∷ xs) = by (asked_is limit xs) (is_finite x) refl (lt limit x) refl
  where
    by : asks limit xs ≡ judged (any_above limit (before_non_finite xs)) (all_finite xs) → (f : Bool) → is_finite x ≡ f → (l : Bool) → lt limit x ≡ l → asks limit (x ∷ xs) ≡ judged (any_above limit (before_non_finite (x ∷ xs))) (all_finite (x ∷ xs))
    by e true f true l = sym (above_is limit x xs f l) ∙ rw f (rw l)
    by e true f false l = sym (above_on limit x xs f l) ∙ e ∙ rw f (rw l)
    by e false f l k = sym (above_not limit x xs f) ∙ rw f

all_before : (ms : List Float) → all_finite ms ≡ true → before_non_finite ms ≡ ms
unfolding all_finite
all_before [] h = refl
all_before (x ∷ xs) h = let w = (and-eq-true_iff (is_finite x) (all_finite xs)).0 h in rw w.0 (ap (λ (ys : List Float). x ∷ ys) (all_before xs w.1))

yes_back : (some all : Bool) → judged some all ≡ answered true → some ≡ true
yes_back true all h = refl
yes_back false true h = answered-same h
yes_back false false h = refused-answered h

no_back : (some all : Bool) → judged some all ≡ answered false → (some ≡ false) × (all ≡ true)
no_back true all h = absurd (true≢false (answered-same h))
no_back false true h = (refl, refl)
no_back false false h = refused-answered h

eight_back : (some all : Bool) → judged some all ≡ refused 8 → (some ≡ false) × (all ≡ false)
eight_back true all h = answered-refused h
eight_back false true h = answered-refused h
eight_back false false h = (refl, refl)

-- the same by how the measures split, as `measures` has it
module _ (limit : Float) (ms : List Float) where
  abbrev some : Bool
  some = any_above limit (before_non_finite ms)

  pub yes_splits : (some ≡ true) ↔ EndedBy limit (Above limit) ms
  yes_splits = let w = above_says_yes limit ms in (λ h. w.0 (asked_is limit ms ∙ rw h), λ r. yes_back some (all_finite ms) (sym (asked_is limit ms) ∙ w.1 r))

  pub eight_splits : ((some ≡ false) × (all_finite ms ≡ false)) ↔ EndedBy limit NotFinite ms
  eight_splits =
      let w = above-refused_eight limit ms in
      (λ h. w.0 (asked_is limit ms ∙ rw (h.0, h.1)), λ r. eight_back some (all_finite ms) (sym (asked_is limit ms) ∙ w.1 r))

  pub no_splits : ((some ≡ false) × (all_finite ms ≡ true)) ↔ NoneAbove limit ms
  no_splits =
      let w = above_says_no limit ms in
      (λ h. w.0 (asked_is limit ms ∙ rw (h.0, h.1)), λ r. no_back some (all_finite ms) (sym (asked_is limit ms) ∙ w.1 r))

never_no : (some all : Bool) → (judged some all ≡ answered true) ⊎ (judged some all ≡ refused 8) → judged some all ≡ cond some (answered true) (refused 8)
never_no true all h = refl
never_no false true (inl h) = absurd (true≢false (sym (answered-same h)))
never_no false true (inr h) = answered-refused h
never_no false false h = refl

-- ---- x, a reply that is refused by the first test, or judged by the measures
module _ (tests : List Test) (q : numbered tests ≡ true) (limit : Float) (ms : List Float) (x : Reply Bool)
    (p : first_of tests ≡ 0 → x ≡ judged (any_above limit (before_non_finite ms)) (all_finite ms)) (s : (first_of tests ≡ 0 → ⊥) → x ≡ refused (first_of tests)) where
  passes : (b : Bool) → x ≡ answered b → first_of tests ≡ 0
  passes b h = by (eqb (first_of tests) 0) refl
    where
      by : (c : Bool) → eqb (first_of tests) 0 ≡ c → first_of tests ≡ 0
      by true e = eqb-true (first_of tests) 0 e
      by false e = refused-answered (sym (s (eqb-false (first_of tests) 0 e)) ∙ h)

  pub says_yes : (x ≡ answered true) ↔ (NoneHold tests × (any_above limit (before_non_finite ms) ≡ true))
  says_yes = (
    λ h. let z = passes true h in ((passed_iff tests q).0 z, yes_back (any_above limit (before_non_finite ms)) (all_finite ms) (sym (p z) ∙ h)),
    λ w. p ((passed_iff tests q).1 w.0) ∙ rw w.1,
  )

  pub says_no : (x ≡ answered false) ↔ (NoneHold tests × ((any_above limit ms ≡ false) × (all_finite ms ≡ true)))
  says_no = (
    λ h. let z = passes false h in
        let w = no_back (any_above limit (before_non_finite ms)) (all_finite ms) (sym (p z) ∙ h) in
        ((passed_iff tests q).0 z, (ap (any_above limit) (sym (all_before ms w.1)) ∙ w.0, w.1)),
    λ w. p ((passed_iff tests q).1 w.0) ∙ rw (all_before ms w.1.1, w.1.0, w.1.1),
  )

  pub says_eight : (x ≡ refused 8 → NoneHold tests) → (x ≡ refused 8) ↔ (NoneHold tests × ((any_above limit (before_non_finite ms) ≡ false) × (all_finite ms ≡ false)))
  says_eight n = (
    λ h. (n h, eight_back (any_above limit (before_non_finite ms)) (all_finite ms) (sym (p ((passed_iff tests q).1 (n h))) ∙ h)),
    λ w. p ((passed_iff tests q).1 w.0) ∙ rw (w.1.0, w.1.1),
  )

-- ---- without marks
module _ (st : Plain) (order : List ℕ) (bnorm limit : Float) (store : List Float) where
  abbrev ms : List Float
  ms = column_measures st order bnorm (load st.n store)

  abbrev tests : List Test
  tests = above_tests st (length store) order bnorm limit

  pub passed_is : first_of tests ≡ 0 → (above_call st order bnorm limit store).reply ≡ judged (any_above limit (before_non_finite ms)) (all_finite ms)
  unfolding above_limit
  passed_is z = ap (λ (t : Told Bool). t.reply) (sym (above-worked st order bnorm limit store refl z refl refl)) ∙ asked_is limit ms

  stopped_is : (first_of tests ≡ 0 → ⊥) → (above_call st order bnorm limit store).reply ≡ refused (first_of tests)
  stopped_is h = ap (λ (t : Told Bool). t.reply) (sym (above-refused st order bnorm limit store refl h))

  eight_passed : (above_call st order bnorm limit store).reply ≡ refused 8 → NoneHold tests
  unfolding perform_store shortest_of further_of
  eight_passed h = ((refused_eight (basic.above bnorm limit) st order store).0 (ap reply_number h)).0

  pub above_yes : ((above_call st order bnorm limit store).reply ≡ answered true) ↔ (NoneHold tests × (any_above limit (before_non_finite ms) ≡ true))
  above_yes = says_yes tests refl limit ms (above_call st order bnorm limit store).reply passed_is stopped_is

  pub above_no : ((above_call st order bnorm limit store).reply ≡ answered false) ↔ (NoneHold tests × ((any_above limit ms ≡ false) × (all_finite ms ≡ true)))
  above_no = says_no tests refl limit ms (above_call st order bnorm limit store).reply passed_is stopped_is

  pub above_eight : ((above_call st order bnorm limit store).reply ≡ refused 8) ↔ (NoneHold tests × ((any_above limit (before_non_finite ms) ≡ false) × (all_finite ms ≡ false)))
  above_eight = says_eight tests refl limit ms (above_call st order bnorm limit store).reply passed_is stopped_is eight_passed

  -- beside the gradient, where the limit is finite and not below zero
  module _ (f : is_finite limit ≡ true) (b : below limit ≡ false) where
    same_first : first_of tests ≡ first_of (gradient_tests st (length store) order bnorm)
    unfolding first_of
    same_first = rw (f, b)

    pub above_as_gradient : (k : ℕ) → 0 < k → k < 8
        → (reply_number (gradient_call st order bnorm store).reply ≡ k) ↔ (reply_number (above_call st order bnorm limit store).reply ≡ k)
    unfolding perform_store shortest_of further_of
    above_as_gradient k p q =
        let g = refused_early (basic.gradient bnorm) st order store k p q in
        let a = refused_early (basic.above bnorm limit) st order store k p q in
        let ts = gradient_tests st (length store) order bnorm in (
          λ h. a.1 ((refused_iff tests k p).0 (same_first ∙ (refused_iff ts k p).1 (g.0 h))),
          λ h. g.1 ((refused_iff ts k p).0 (sym same_first ∙ (refused_iff tests k p).1 (a.0 h))),
        )

    pub above_beside_eight : (gradient_call st order bnorm store).reply ≡ refused 8
        → (above_call st order bnorm limit store).reply ≡ cond (any_above limit (before_non_finite ms)) (answered true) (refused 8)
    unfolding perform_store shortest_of further_of above_limit
    above_beside_eight h =
        let ss = gather (take st.n order) (load st.n store).norms in
        let n = ((refused_eight (basic.gradient bnorm) st order store).0 (ap reply_number h)).0 in
        let z = (passed_iff (gradient_tests st (length store) order bnorm) refl).1 n in
        let e : measure ss bnorm (load st.n store).upper (load st.n store).qtb ≡ refused 8 =
        ap (λ (t : Told Float). t.reply) (gradient-worked st order bnorm store refl z refl refl) ∙ h in
        let w = above_where_refused ss bnorm limit (load st.n store).upper (load st.n store).qtb e in
        passed_is (same_first ∙ z) ∙ never_no (any_above limit (before_non_finite ms)) (all_finite ms) (judges w)
      where
        judges : (asks limit ms ≡ answered true) ⊎ (asks limit ms ≡ refused 8)
            → (judged (any_above limit (before_non_finite ms)) (all_finite ms) ≡ answered true) ⊎ (judged (any_above limit (before_non_finite ms)) (all_finite ms) ≡ refused 8)
        judges (inl a) = inl (sym (asked_is limit ms) ∙ a)
        judges (inr a) = inr (sym (asked_is limit ms) ∙ a)
