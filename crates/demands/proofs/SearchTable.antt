-- 01, 'Refusal numbers', as a table of the search: refused k, for k from 2 to 7, exactly when k's condition holds and none that is tested
-- before it, and then everything is as it came; refused 8 exactly when all tests are passed and the run ends at a place of refusal 8; answered
-- exactly when they are passed and the run ends by a stop rule. Assumes nothing.
use mathlib.Core.Path.{◌≡◌, refl, sym, ap, ◌∙◌, subst}
use mathlib.Core.Bool.{Bool, true, false, not, ◌||◌}
use mathlib.Core.List.{List, [], ◌∷◌}
use mathlib.Core.Logic.{◌↔◌, ◌⊎◌, inl, inr}
use Prim.Native.Nat.{ℕ, ◌<◌, min}
use native.Mathlib.Omega.{arith}
use lib.Dec.{eqb, ltb}
use lib.ListN.{length, take}
use lib.Ieee.{Float}
use borrow.Author.Tests.{eqb-true, eqb-false}
use Rattle.leaves.specs.Norm.{ranges_of}
use Rattle.leaves.specs.declared.norm.Ranges.{Ranges}
use Rattle.search.specs.Measured.{measured_by}
use Rattle.leaves.specs.Reply.{Reply, answered, refused}
use Rattle.factor.specs.State.{is_empty, with_held, store_need}
use Rattle.leaves.specs.Tests.{outside, Test, first_of, none_zero}
use Rattle.factor.specs.Room.{load, lay, emptied}
use Rattle.factor.specs.Tests.{order_test, finite_test, finite_number, not_above, below}
use Rattle.factor.specs.Outcome.{Ended, ended}
use Rattle.demands.specs.Calls.{reply_number}
use Rattle.factor.specs.declared.state.State.{State}
use Rattle.factor.specs.declared.state.Held.TheVariants as held
use Rattle.leaves.proofs.Refusals.{refused_iff, passed_iff, call-worked}
use Rattle.search.specs.Problem.{Problem}
use Rattle.search.specs.Run.{Run, Stop, Place, stopped, last, trial, run_of}
use Rattle.search.specs.Run as run
use Rattle.search.specs.Search.{Flagged, Answer, concluded, answer_of, problem_of, search_tests, searched, search_call}
use Rattle.search.specs.Ending.{ending}
use Rattle.search.proofs.Calling.{call_is_refused}
use Rattle.leaves.specs.Refusing.{NoneHold, RefusedBy}
use Rattle.demands.proofs.TestNumbers.{first_small}

-- ---- the number that is read off a run
abbrev end_number : Stop ⊎ Place → ℕ
end_number (inl s) = 0
end_number (inr p) = 8

concluded_number : (k : ℕ) (a : Answer) (r : Run) → reply_number (concluded k a r) ≡ end_number (ending r)
unfolding concluded ending
concluded_number k a (stopped s) = refl
concluded_number k a (run.refused p) = refl
concluded_number k a (last t r) = concluded_number _ _ r
concluded_number k a (trial t fp r) = concluded_number _ _ r

searched_number : (st : State) (s out : List Float) (seen : Ranges) (x : Reply Answer) → reply_number (searched st s out seen x).reply ≡ reply_number x
searched_number st s out seen (answered a) = refl
searched_number st s out seen (refused k) = refl

refused-searched : (st : State) (s out : List Float) (seen : Ranges) (x : Reply Answer) → reply_number x ≡ 8 → searched st s out seen x ≡ ended (refused 8) (with_held st held.Nothing) s out
refused-searched st s out seen (answered a) h = absurd (omega arith)
refused-searched st s out seen (refused k) h = ap (λ (j : ℕ). ended (refused j) (with_held st held.Nothing) s out) h

by_place : (e : Stop ⊎ Place) → end_number e ≡ 8 → (p : Place) × (e ≡ inr p)
by_place (inl s) h = absurd (omega arith)
by_place (inr p) h = (p, refl)

by_stop : (e : Stop ⊎ Place) → end_number e ≡ 0 → (s : Stop) × (e ≡ inl s)
by_stop (inl s) h = (s, refl)
by_stop (inr p) h = absurd (omega arith)

end-zero : (e : Stop ⊎ Place) (k : ℕ) → 0 < k → k < 8 → end_number e ≡ k → ⊥
end-zero (inl s) k p q h = omega arith
end-zero (inr s) k p q h = omega arith

module _ (st : State) (order : List ℕ) (diag : List Float) (radius lambda : Float) (store out : List Float) where
  abbrev pub tests : List Test
  tests = search_tests st (length store) order diag radius lambda (length out)

  abbrev pub tested : ℕ
  tested = first_of tests

  abbrev pub asked : Problem
  asked = problem_of st order diag radius (load st.n store)

  abbrev pub call : Ended Flagged
  call = search_call st order diag radius lambda store out

  abbrev pub given : ℕ
  given = reply_number call.reply

  abbrev pub ends : Stop ⊎ Place
  ends = ending (run_of asked lambda)

  -- ---- one outcome by its two cases
  pub passed_is : tested ≡ 0 → call ≡ searched st (lay (emptied (load st.n store))) out (ranges_of (measured_by asked lambda)) (answer_of asked lambda)
  unfolding search_call
  passed_is e = sym (call-worked _ (λ k. ended (refused k) st store out) _ e)

  pub refused_is : (tested ≡ 0 → ⊥) → call ≡ ended (refused tested) st store out
  refused_is h = sym (call_is_refused st store order diag radius lambda out refl h)

  -- ---- its number
  answer_number : reply_number (answer_of asked lambda) ≡ end_number ends
  unfolding answer_of
  answer_number = concluded_number 0 _ (run_of asked lambda)

  passed_number : tested ≡ 0 → given ≡ end_number ends
  passed_number e = ap (λ (x : Ended Flagged). reply_number x.reply) (passed_is e) ∙ searched_number st _ out _ (answer_of asked lambda) ∙ answer_number

  stopped_number : (tested ≡ 0 → ⊥) → given ≡ tested
  stopped_number h = ap (λ (x : Ended Flagged). reply_number x.reply) (refused_is h)

  tested_small : tested < 8
  tested_small = first_small tests refl

  by_number : (P : ℕ → Type 0) → (tested ≡ 0 → P (end_number ends)) → ((tested ≡ 0 → ⊥) → P tested) → P given
  by_number P p q = by (eqb tested 0) refl
    where
      by : (b : Bool) → eqb tested 0 ≡ b → P given
      by true e = let z = eqb-true tested 0 e in subst P (sym (passed_number z)) (p z)
      by false e = let z = eqb-false tested 0 e in subst P (sym (stopped_number z)) (q z)

  none_met : tested ≡ 0 → NoneHold tests
  none_met e = (passed_iff tests refl).0 e

  met_none : NoneHold tests → tested ≡ 0
  met_none h = (passed_iff tests refl).1 h

  -- LAW: 2 to 7, in the order of the tests
  pub refused_early : (k : ℕ) → 0 < k → k < 8 → (given ≡ k) ↔ RefusedBy tests k
  refused_early k p q = (
    by_number (λ (g : ℕ). g ≡ k → RefusedBy tests k) (λ z e. absurd (end-zero ends k p q e)) (λ h e. (refused_iff tests k p).0 e),
    λ r. let e = (refused_iff tests k p).1 r in stopped_number (λ z. let j = sym e ∙ z in omega arith) ∙ e,
  )

  -- LAW: and then everything is as it came
  pub refused_whole : (k : ℕ) → 0 < k → RefusedBy tests k → call ≡ ended (refused k) st store out
  refused_whole k p r =
      let e = (refused_iff tests k p).1 r in
      refused_is (λ z. let j = sym e ∙ z in omega arith) ∙ ap (λ (i : ℕ). ended (refused i) st store out) e

  -- LAW: 8
  pub refused_eight : (given ≡ 8) ↔ (NoneHold tests × ((p : Place) × (ends ≡ inr p)))
  refused_eight = (
    by_number (λ (g : ℕ). g ≡ 8 → NoneHold tests × ((p : Place) × (ends ≡ inr p))) (λ z e. (none_met z, by_place ends e)) (λ h e. let j = tested_small in absurd (omega arith)),
    λ w. passed_number (met_none w.0) ∙ ap end_number w.1.1,
  )

  -- LAW: and then the store is emptied, held nothing, the output as it came
  pub eight_whole : given ≡ 8 → call ≡ ended (refused 8) (with_held st held.Nothing) (lay (emptied (load st.n store))) out
  eight_whole h =
      let w = refused_eight.0 h in
      passed_is (met_none w.0) ∙ refused-searched st _ out _ (answer_of asked lambda) (answer_number ∙ ap end_number w.1.1)

  -- LAW: answered
  pub answered_otherwise : (given ≡ 0) ↔ (NoneHold tests × ((s : Stop) × (ends ≡ inl s)))
  answered_otherwise = (
    by_number (λ (g : ℕ). g ≡ 0 → NoneHold tests × ((s : Stop) × (ends ≡ inl s))) (λ z e. (none_met z, by_stop ends e)) (λ h e. absurd (h e)),
    λ w. passed_number (met_none w.0) ∙ ap end_number w.1.1,
  )

  abbrev after_first : List Test
  after_first =
      (outside st.m st.n, 2)
      ∷ (ltb (length store) (store_need st.n) || ltb (min (length order) (min (length diag) (length out))) st.n, 3)
      ∷ order_test st order
      ∷ finite_test st diag
      ∷ finite_number radius
      ∷ finite_number lambda
      ∷ (not_above radius, 7)
      ∷ (below lambda, 7)
      ∷ (not (none_zero (take st.n diag)), 7)
      ∷ []

  -- LAW: 5 for an empty state, before anything is read
  pub refused-empty : is_empty st.held ≡ true → call ≡ ended (refused 5) st store out
  refused-empty h = refused_whole 5 (omega arith) (record { earlier = []; later = after_first; splits = ap (λ (b : Bool). (b, 5) ∷ after_first) h; none_earlier = tt })
