-- 01, 'Refusal numbers, tested in this order', of a sheet: what the code's tests say of the definition's conditions. Assumes nothing.
use Prim.Native.Nat.{ℕ, ◌+◌, ◌*◌, ◌<◌, ◌≤◌}
use mathlib.Core.Path.{◌≡◌, sym, ap, ◌∙◌}
use mathlib.Core.Logic.{◌≢◌}
use mathlib.Core.Bool.{Bool, true, false, not, ◌||◌}
use mathlib.Core.List.{List}
use borrow.Author.Tests.{eq-eqb, ne_eqb, lt-ltb, le-ltb}
use lib.Dec.{eqb, ltb}
use lib.ListN.{length, take, drop, get_or, length-drop}
use lib.Seq.{drop-drop}
use lib.Ieee.{Float, nan}
use native.Mathlib.Omega.{arith}
use Rattle.leaves.specs.Tests.{outside, first_of, all_finite}
use Rattle.leaves.proofs.Insides.{inside, jacobian_small}
use Rattle.leaves.proofs.Refusals.{past, test_met}
use Rattle.sheet.specs.Sheet.{search, start, lasts, count_of, length_of, task_of, job_of}
use Rattle.sheet.specs.Tests.{task_tests, number_tests}
use Rattle.sheet.specs.declared.head.Head.{Head}

-- ---- 3: the sheet's length and the lent step's
module _ (h : Head) (len room : ℕ) {k : ℕ} (e : k ≡ count_of h) where
  pub length_off : len ≢ 3 + 8 * k → (not (eqb len (length_of h)) || ltb room h.n) ≡ true
  length_off t = rw (← e, ne_eqb _ _ t)

  module _ (t : len ≡ 3 + 8 * k) where
    pub step_short : room < h.n → (not (eqb len (length_of h)) || ltb room h.n) ≡ true
    step_short u = rw (← e, eq-eqb _ _ t, lt-ltb _ _ u)

    pub lengths_met : h.n ≤ room → (not (eqb len (length_of h)) || ltb room h.n) ≡ false
    lengths_met u = rw (← e, eq-eqb _ _ t, le-ltb _ _ u)

-- ---- 6 and 7: the numbers' places
module _ (h : Head) (xs : List Float) (e : length xs ≡ count_of h) (o : outside h.m h.n ≡ false) where
  pub rest_in_lem : h.m * h.n + h.m ≤ 2176
  rest_in_lem = let i = inside h.m h.n o in omega (arith, jacobian_small i, i.rows_few)

  pub whole : length xs ≡ h.m * h.n + h.m + h.n + lasts h.call
  unfolding count_of
  whole = e

  pub rest_long : h.n + lasts h.call ≤ length (drop (h.m * h.n + h.m) xs)
  rest_long = let w = whole in rw length-drop (omega arith)

  -- what stands behind the residuals
  pub task_is : task_of h.call h.n (drop (h.m * h.n + h.m) xs) ≡ (job_of h xs).task
  unfolding job_of
  task_is = ap (λ (l : List Float). task_of h.call h.n l) (sym (drop-drop h.m (h.m * h.n) xs))

-- a call other than 1 ends with one number
pub search-task : (call n : ℕ) (xs : List Float) → call ≡ 1 → search (take n xs) (get_or xs n nan) (get_or xs (n + 1) nan) ≡ task_of call n xs
unfolding task_of
search-task call n xs e = rw (eq-eqb _ _ e, task_of)

pub start-task : (call n : ℕ) (xs : List Float) → call ≢ 1 → start (take n xs) (get_or xs n nan) ≡ task_of call n xs
unfolding task_of
start-task call n xs e = rw (ne_eqb _ _ e, task_of)

pub search_ends : (call n : ℕ) (xs : List Float) → n + lasts call ≤ length xs → call ≡ 1 → n + 2 ≤ length xs
search_ends call n xs h e = rw (eq-eqb _ _ e) at h

pub start_ends : (call n : ℕ) (xs : List Float) → n + lasts call ≤ length xs → call ≢ 1 → n + 1 ≤ length xs
start_ends call n xs h e = rw (ne_eqb _ _ e) at h

-- ---- 6, then 7
module _ (h : Head) (xs : List Float) {b : Bool} (f : b ≡ all_finite xs) where
  finite_is : not (all_finite xs) ≡ not b
  finite_is = ap not (sym f)

  pub numbers-bad : not b ≡ true → 6 ≡ first_of (number_tests h xs)
  numbers-bad t = sym (test_met _ _ (finite_is ∙ t))

  pub numbers_good : not b ≡ false → {k : ℕ} → k ≡ first_of (task_tests (job_of h xs).task) → k ≡ first_of (number_tests h xs)
  numbers_good t = past _ _ (finite_is ∙ t)
