-- What is known once the tests are passed. Assumes nothing.
use mathlib.Core.Path.{◌≡◌, refl}
use mathlib.Core.Bool.{true, false, ◌||◌, and-eq-true_iff}
use mathlib.Core.List.{List, [], ◌∷◌, ◌++◌}
use Prim.Native.Nat.{ℕ, zero, suc, ◌*◌, ◌<◌, ◌≤◌, min}
use native.Mathlib.Nat.{min-eq_left, le_refl, not-suc-le-zero, le_of_suc-le-suc}
use native.Mathlib.Omega.{arith}
use lib.Dec.{ltb}
use lib.ListN.{length, take, get_or}
use lib.Ieee.{Float, nan}
use borrow.Author.Tests.{ltb-false, not-false}
use Rattle.leaves.specs.Number.{is_finite}
use Rattle.factor.specs.State.{is_empty, store_need, bench_need}
use Rattle.leaves.specs.Tests.{outside, first_of, all_finite}
use Rattle.factor.specs.Tests.{is_permutation, size_tests, tested, room_tests, order_test, solve_tests}
use Rattle.factor.specs.Factoring.{factor_tests}
use Rattle.factor.specs.declared.state.State.{State}
use Rattle.leaves.proofs.Refusals.{passed_iff, none_of_both}
use Rattle.leaves.proofs.Insides.{neither, Inside, inside}
use Rattle.factor.specs.inner.Rooms.{Sized}
use Rattle.leaves.specs.Refusing.{NoneHold}

-- ---- what every working on lent numbers tests
pub record Fit (m n : ℕ) (store shortest : ℕ) : Type 0 where
  pub sizes : Inside m n
  pub store_long : store_need n ≤ store
  pub each_long : n ≤ shortest

fit_of_lem : (m n store shortest : ℕ) → NoneHold (size_tests m n store shortest) → Fit m n store shortest
fit_of_lem m n store shortest h =
    let s = neither (ltb store (store_need n)) (ltb shortest n) h.1.0 in
    record { sizes = inside m n h.0; store_long = ltb-false store (store_need n) s.0; each_long = ltb-false shortest n s.1 }

pub sizes_passed : (m n : ℕ) (store : List Float) (shortest : ℕ) → tested m n store shortest ≡ 0 → Fit m n (length store) shortest
sizes_passed m n store shortest e = fit_of_lem m n (length store) shortest ((passed_iff (size_tests m n (length store) shortest) refl).0 e)

pub fit_sized : (m n : ℕ) (s : List Float) (shortest : ℕ) → Fit m n (length s) shortest → Sized n s
fit_sized m n s shortest p = record { small = p.sizes.cols_few; fits = p.store_long }

-- ---- what every call with a state tests first
pub record Passed (st : State) (store shortest : ℕ) : Type 0 where
  pub filled : is_empty st.held ≡ false
  pub sizes : Inside st.m st.n
  pub store_long : store_need st.n ≤ store
  pub each_long : st.n ≤ shortest

passed_of : (st : State) (store shortest : ℕ) → NoneHold (room_tests st store shortest) → Passed st store shortest
passed_of st store shortest h =
    let f = fit_of_lem st.m st.n store shortest h.1 in
    record { filled = h.0; sizes = f.sizes; store_long = f.store_long; each_long = f.each_long }

pub room_passed : (st : State) (store shortest : ℕ) → first_of (room_tests st store shortest) ≡ 0 → Passed st store shortest
room_passed st store shortest e = passed_of st store shortest ((passed_iff (room_tests st store shortest) refl).0 e)

pub passed_sized : (st : State) (s : List Float) (shortest : ℕ) → Passed st (length s) shortest → Sized st.n s
passed_sized st s shortest p = record { small = p.sizes.cols_few; fits = p.store_long }

-- ---- and with an order list
pub record Ordered (st : State) (store : ℕ) (order : List ℕ) (shortest : ℕ) : Type 0 where
  pub room : Passed st store shortest
  pub order_long : st.n ≤ length order
  pub permuted : is_permutation st.n order ≡ true

pub solve_passed : (st : State) (store : ℕ) (order : List ℕ) (shortest : ℕ) → first_of (solve_tests st store order shortest) ≡ 0 → Ordered st store order shortest
solve_passed st store order shortest e =
    let h = none_of_both (room_tests st store (min (length order) shortest)) (order_test st order ∷ []) ((passed_iff (solve_tests st store order shortest) refl).0 e) in
    let p = passed_of st store (min (length order) shortest) h.0 in
    let l = p.each_long in
    record {
      room = record { filled = p.filled; sizes = p.sizes; store_long = p.store_long; each_long = omega arith };
      order_long = omega arith;
      permuted = not-false (is_permutation st.n order) h.1.0;
    }

-- a call whose one slice is the order list
pub order_alone : (st : State) (store : ℕ) (order : List ℕ)
    → solve_tests st store order (length order) ≡ room_tests st store (length order) ++ (order_test st order ∷ [])
order_alone st store order = rw (min-eq_left (le_refl (length order)))

-- ---- factoring
pub record Factorable (m n : ℕ) (jacobian residuals : List Float) (store order bench : ℕ) : Type 0 where
  pub sizes : Inside m n
  pub jacobian_long : m * n ≤ length jacobian
  pub residuals_long : m ≤ length residuals
  pub store_long : store_need n ≤ store
  pub order_long : n ≤ order
  pub bench_long : bench_need m n ≤ bench
  pub jacobian_finite : all_finite (take (m * n) jacobian) ≡ true
  pub residuals_finite : all_finite (take m residuals) ≡ true

pub factor_passed : (m n : ℕ) (jacobian residuals : List Float) (store order bench : ℕ)
    → first_of (factor_tests m n jacobian residuals store order bench) ≡ 0 → Factorable m n jacobian residuals store order bench
factor_passed m n jacobian residuals store order bench e =
    let h = (passed_iff (factor_tests m n jacobian residuals store order bench) refl).0 e in
    let a = neither (ltb (length jacobian) (m * n) || ltb (length residuals) m || ltb store (store_need n) || ltb order n) (ltb bench (bench_need m n)) h.1.0 in
    let b = neither (ltb (length jacobian) (m * n) || ltb (length residuals) m || ltb store (store_need n)) (ltb order n) a.0 in
    let d = neither (ltb (length jacobian) (m * n) || ltb (length residuals) m) (ltb store (store_need n)) b.0 in
    let f = neither (ltb (length jacobian) (m * n)) (ltb (length residuals) m) d.0 in
    record {
      sizes = inside m n h.0;
      jacobian_long = ltb-false (length jacobian) (m * n) f.0;
      residuals_long = ltb-false (length residuals) m f.1;
      store_long = ltb-false store (store_need n) d.1;
      order_long = ltb-false order n b.1;
      bench_long = ltb-false bench (bench_need m n) a.1;
      jacobian_finite = not-false (all_finite (take (m * n) jacobian)) h.1.1.0;
      residuals_finite = not-false (all_finite (take m residuals)) h.1.1.1.0;
    }

pub factor_inside : (m n : ℕ) (jacobian residuals : List Float) (store order bench : ℕ) → first_of (factor_tests m n jacobian residuals store order bench) ≡ 0 → outside m n ≡ false
factor_inside m n jacobian residuals store order bench e = ((passed_iff (factor_tests m n jacobian residuals store order bench) refl).0 e).0

-- ---- 6, entry by entry
pub finite_entry : (xs : List Float) → all_finite xs ≡ true → (i : ℕ) → i < length xs → is_finite (get_or xs i nan) ≡ true
unfolding all_finite
finite_entry [] h i l = absurd (not-suc-le-zero l)
finite_entry (x ∷ xs) h zero l = ((and-eq-true_iff (is_finite x) (all_finite xs)).0 h).0
finite_entry (x ∷ xs) h (suc i) l = finite_entry xs ((and-eq-true_iff (is_finite x) (all_finite xs)).0 h).1 i (le_of_suc-le-suc l)

pub finite_all : (xs : List Float) → ((i : ℕ) → i < length xs → is_finite (get_or xs i nan) ≡ true) → all_finite xs ≡ true
unfolding all_finite
finite_all [] h = refl
finite_all (x ∷ xs) h = rw (h 0 (omega arith)) (finite_all xs (λ i l. h (suc i) (omega arith)))
