-- 01, 'Refusal numbers', as tables of the public functions that take no state and stand on tests: the workings of a search, those below `factor`,
-- the parts of a store, and the tests themselves. Assumes nothing.
use mathlib.Core.Path.{◌≡◌, refl, sym, ap, ◌∙◌}
use mathlib.Core.Bool.{Bool, true, false}
use mathlib.Core.List.{List}
use Prim.Native.Nat.{ℕ, ◌*◌}
use native.Mathlib.Omega.{arith}
use lib.Dec.{eqb}
use lib.ListN.{take, drop}
use borrow.Author.Tests.{eqb-true, eqb-false, ne_eqb}
use Rattle.leaves.specs.Reply.{Reply, refused}
use Rattle.leaves.specs.Tests.{Test, first_of}
use Rattle.leaves.proofs.Refusals.{numbered, refused_iff, passed_iff, call-refused, call-worked}
use Rattle.leaves.specs.Refusing.{NoneHold}
use Rattle.reduce.specs.Reduced.{reduce_call, filled_call as reduce_filled_call}
use Rattle.eliminate.specs.Eliminated.{eliminate_call}
use Rattle.factor.specs.Tests.{permutation_tests, room_tests, solve_tests}
use Rattle.factor.specs.Factoring.{factor_worked}
use Rattle.factor.specs.Filled.{filled_of, factor_filled}
use Rattle.factor.specs.PivotOrder.{zero_in, damped_in, held_zero_in, held_damped_in, product_in, full_rank, empty_in}
use Rattle.factor.specs.Parts.{qtb_in, norms_in, diagonal_in, rest_in}
use Rattle.demands.specs.Calls.{reply_number}
use Rattle.demands.specs.Workings.{ByTests, ByTestsAnd8, Workings, Parts, SharedTests}
use Rattle.demands.proofs.TestNumbers.{small, first_small}
use Rattle.demands.proofs.FactoringTable.{worked_stands, worked_breaks}

module _ {A B : Type 0} (ts : List Test) (reply : A → Reply B) (came : Reply B → A) (worked : A) where
  abbrev pub outcome : A
  outcome = elim (eqb (first_of ts) 0) [ true ↦ worked | false ↦ came (refused (first_of ts)) ]

  -- LAW: of a working as each is defined
  pub by_tests : numbered ts ≡ true → ((r : Reply B) → reply (came r) ≡ r) → reply_number (reply worked) ≡ 0 → ByTests ts reply came outcome
  by_tests q same z = record {
    refused_when = λ k p. (λ h. (refused_iff ts k p).0 (sym number ∙ h), λ r. number ∙ (refused_iff ts k p).1 r);
    as_it_came = λ k p r. sym (call-refused worked (λ j. came (refused j)) ts k ((refused_iff ts k p).1 r) (ne_eqb k 0 (λ e. omega arith)));
    answered_when = (λ h. (passed_iff ts q).0 (sym number ∙ h), λ n. number ∙ (passed_iff ts q).1 n);
  }
    where
      number : reply_number (reply outcome) ≡ first_of ts
      number = by (eqb (first_of ts) 0) refl
        where
          by : (b : Bool) → eqb (first_of ts) 0 ≡ b → (let o : A = elim b [ true ↦ worked | false ↦ came (refused (first_of ts)) ] in reply_number (reply o) ≡ first_of ts)
          by true e = z ∙ sym (eqb-true (first_of ts) 0 e)
          by false e = ap reply_number (same (refused (first_of ts)))

-- the same of one that may be refused 8 where it passes its tests
module _ {A B : Type 0} (ts : List Test) (reply : A → Reply B) (came : Reply B → A) (worked stands breaks : A) (finite : Bool) where
  pub by_tests_and_8 : numbered ts ≡ true → small ts ≡ true → ((r : Reply B) → reply (came r) ≡ r) → (finite ≡ true → worked ≡ stands) → (finite ≡ false → worked ≡ breaks)
      → reply_number (reply stands) ≡ 0 → reply_number (reply breaks) ≡ 8 → ByTestsAnd8 ts reply came finite stands breaks (outcome ts reply came worked)
  by_tests_and_8 q s same st br zs zb = record {
    refused_when = λ k p l. (
      λ h. cases (λ n f e. absurd (let z = number e h in omega arith)) (λ n f e. absurd (let z = number e h in omega arith)) (λ n e. (refused_iff ts k p).0 (sym (by_number e) ∙ h)),
      λ r.
          let t = (refused_iff ts k p).1 r in
          cases (λ n f e. absurd (let z = (passed_iff ts q).1 n in omega arith)) (λ n f e. absurd (let z = (passed_iff ts q).1 n in omega arith)) (λ n e. by_number e ∙ t),
    );
    as_it_came = λ k p r. sym (call-refused worked (λ j. came (refused j)) ts k ((refused_iff ts k p).1 r) (ne_eqb k 0 (λ e. omega arith)));
    eight_when = (
      λ h. cases (λ n f e. absurd (let z = number e h in omega arith)) (λ n f e. (n, f)) (λ n e. absurd (let z = sym (by_number e) ∙ h in let y = first_small ts s in omega arith)),
      λ w. ap (λ (y : A). reply_number (reply y)) (passed_is ((passed_iff ts q).1 w.0) ∙ br w.1) ∙ zb,
    );
    eight_left = λ h. cases (λ n f e. absurd (let z = number e h in omega arith)) (λ n f e. e) (λ n e. absurd (let z = sym (by_number e) ∙ h in let y = first_small ts s in omega arith));
    answered_when = (
      λ h. cases (λ n f e. (n, f)) (λ n f e. absurd (let z = number e h in omega arith)) (λ n e. absurd (n (sym (by_number e) ∙ h))),
      λ w. ap (λ (y : A). reply_number (reply y)) (passed_is ((passed_iff ts q).1 w.0) ∙ st w.1) ∙ zs,
    );
    answered_left = λ h. cases (λ n f e. e) (λ n f e. absurd (let z = number e h in omega arith)) (λ n e. absurd (n (sym (by_number e) ∙ h)));
  }
    where
      passed_is : first_of ts ≡ 0 → outcome ts reply came worked ≡ worked
      passed_is e = sym (call-worked worked (λ j. came (refused j)) ts e)

      number : {x : A} {k : ℕ} → outcome ts reply came worked ≡ x → reply_number (reply (outcome ts reply came worked)) ≡ k → reply_number (reply x) ≡ k
      number e h = ap (λ (y : A). reply_number (reply y)) (sym e) ∙ h

      by_number : outcome ts reply came worked ≡ came (refused (first_of ts)) → reply_number (reply (outcome ts reply came worked)) ≡ first_of ts
      by_number e = ap (λ (y : A). reply_number (reply y)) e ∙ ap reply_number (same (refused (first_of ts)))

      -- which of the three it is
      cases : {X : Type 0} → (NoneHold ts → finite ≡ true → outcome ts reply came worked ≡ stands → X) → (NoneHold ts → finite ≡ false → outcome ts reply came worked ≡ breaks → X)
          → ((first_of ts ≡ 0 → ⊥) → outcome ts reply came worked ≡ came (refused (first_of ts)) → X) → X
      cases {X} a b r = by (eqb (first_of ts) 0) refl finite refl
        where
          by : (t : Bool) → eqb (first_of ts) 0 ≡ t → (d : Bool) → finite ≡ d → X
          by true e true f = let z = eqb-true (first_of ts) 0 e in a ((passed_iff ts q).0 z) f (passed_is z ∙ st f)
          by true e false f = let z = eqb-true (first_of ts) 0 e in b ((passed_iff ts q).0 z) f (passed_is z ∙ br f)
          by false e d f = r (eqb-false (first_of ts) 0 e) (sym (call-refused worked (λ j. came (refused j)) ts (first_of ts) refl e))

-- ---- the workings

-- LAW
pub workings : Workings
unfolding zero_in damped_in held_zero_in held_damped_in product_in full_rank empty_in reduce_call reduce_filled_call factor_filled eliminate_call
workings = record {
  zero = λ m n store w. by_tests _ _ _ _ refl (λ r. refl) refl;
  damped = λ n ds store w. by_tests _ _ _ _ refl (λ r. refl) refl;
  held_zero = λ n store w. by_tests _ _ _ _ refl (λ r. refl) refl;
  held_damped = λ n store w. by_tests _ _ _ _ refl (λ r. refl) refl;
  product = λ n store w. by_tests _ _ _ _ refl (λ r. refl) refl;
  full_rank = λ m n store. by_tests _ _ _ _ refl (λ r. refl) refl;
  empty = λ n store. by_tests _ _ _ _ refl (λ r. refl) refl;
  reduce_filled = λ m n norms diag order bench. by_tests _ _ _ _ refl (λ r. refl) refl;
  factor_filled = λ m n store order bench.
      let j = take (m * n) bench in
      let r = drop (m * n) bench in
      by_tests_and_8 _ _ _ (filled_of (factor_worked m n j r store order bench)) _ _ _ refl refl (λ a. refl) (λ h. ap filled_of (worked_stands m n j r store order bench h))
      (λ h. ap filled_of (worked_breaks m n j r store order bench h)) refl refl;
  eliminate_diag = λ n ds square rhs ldiag. by_tests _ _ _ _ refl (λ r. refl) refl;
}

-- LAW
pub parts : Parts
unfolding qtb_in norms_in diagonal_in rest_in
parts = record {
  qt_b = λ n store w. by_tests _ _ _ _ refl (λ r. refl) refl;
  norms = λ n store w. by_tests _ _ _ _ refl (λ r. refl) refl;
  diagonal = λ n store w. by_tests _ _ _ _ refl (λ r. refl) refl;
  rest = λ n store. by_tests _ _ _ _ refl (λ r. refl) refl;
}

-- ---- the tests: never refused, their answer is the number

-- LAW
pub shared_tests : SharedTests
shared_tests = record {
  permutation = λ n order. (refused_iff (permutation_tests n order), passed_iff (permutation_tests n order) refl);
  room = λ st store shortest. (refused_iff (room_tests st store shortest), passed_iff (room_tests st store shortest) refl);
  ordered = λ st store order shortest. (refused_iff (solve_tests st store order shortest), passed_iff (solve_tests st store order shortest) refl);
}
