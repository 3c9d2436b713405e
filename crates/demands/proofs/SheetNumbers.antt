-- What is known of a sheet's job once no test of the sheet holds: Jacobian and residuals of the head's sizes, and a task whose numbers a search or a
-- first scaling accepts. Assumes nothing.
use mathlib.Core.Path.{◌≡◌, refl, sym, ap, subst}
use mathlib.Core.Bool.{Bool, true, false, not, and-eq-true_iff}
use mathlib.Core.List.{List, [], ◌∷◌}
use Prim.Native.Nat.{ℕ, zero, suc, ◌+◌, ◌*◌, ◌≤◌}
use native.Mathlib.Nat.{le_refl}
use native.Mathlib.Omega.{arith}
use lib.Dec.{eqb, ltb}
use lib.ListN.{length, take, drop, get_or, length-drop}
use lib.Seq.{length-take-le, take-take}
use lib.Ieee.{Float, nan}
use borrow.Author.Tests.{eqb-true, eqb-false, ltb-false, not-false}
use Rattle.leaves.specs.Number.{is_finite}
use Rattle.leaves.specs.Tests.{all_finite, none_zero}
use Rattle.leaves.proofs.Insides.{neither, Inside, inside}
use Rattle.factor.specs.Tests.{not_above, below}
use Rattle.factor.proofs.Passed.{finite_entry}
use Rattle.sheet.specs.Sheet.{Task, search, start, Job, head_of, doubles, count_of, length_of, lasts, task_of, job_of}
use Rattle.sheet.specs.Tests.{task_tests, numbers_of, sheet_tests}
use Rattle.sheet.specs.declared.head.Head.{Head}
use Rattle.sheet.proofs.Testing.{search-task, start-task, search_ends, start_ends}
use Rattle.leaves.specs.Refusing.{NoneHold}

-- ---- finite numbers, in part
finite_front : (k : ℕ) (xs : List Float) → all_finite xs ≡ true → all_finite (take k xs) ≡ true
unfolding all_finite
finite_front zero xs h = refl
finite_front (suc k) [] h = refl
finite_front (suc k) (x ∷ xs) h =
    let w = (and-eq-true_iff (is_finite x) (all_finite xs)).0 h in
    rw w.0 (finite_front k xs w.1)

finite_back : (k : ℕ) (xs : List Float) → all_finite xs ≡ true → all_finite (drop k xs) ≡ true
unfolding all_finite
finite_back zero xs h = h
finite_back (suc k) [] h = refl
finite_back (suc k) (x ∷ xs) h = finite_back k xs ((and-eq-true_iff (is_finite x) (all_finite xs)).0 h).1

doubles_long : (k : ℕ) (s : List ℕ) → length (doubles k s) ≡ k
unfolding doubles
doubles_long zero s = refl
doubles_long (suc k) s = ap suc (doubles_long k (drop 8 s))

-- ---- a task of n columns
pub record Sought (n : ℕ) (diag : List Float) (radius lambda : Float) : Type 0 where
  pub diag_long : n ≤ length diag
  pub diag_finite : all_finite (take n diag) ≡ true
  pub radius_finite : is_finite radius ≡ true
  pub lambda_finite : is_finite lambda ≡ true
  pub radius_above : not_above radius ≡ false
  pub lambda_not_below : below lambda ≡ false
  pub diag_nonzero : none_zero (take n diag) ≡ true

pub record Started (n : ℕ) (x : List Float) (bound : Float) : Type 0 where
  pub x_long : n ≤ length x
  pub x_finite : all_finite (take n x) ≡ true
  pub bound_finite : is_finite bound ≡ true
  pub bound_above : not_above bound ≡ false

abbrev pub Asked : ℕ → Task → Type 0
Asked n (search diag radius lambda) = Sought n diag radius lambda
Asked n (start x bound) = Started n x bound

module _ (n : ℕ) (xs : List Float) (f : all_finite xs ≡ true) where
  front_twice : take n (take n xs) ≡ take n xs
  front_twice = take-take n n xs (le_refl n)

  front_finite : all_finite (take n (take n xs)) ≡ true
  front_finite = finite_front n (take n xs) (finite_front n xs f)

  by_search_lem : n + 2 ≤ length xs → (let t = search (take n xs) (get_or xs n nan) (get_or xs (n + 1) nan) in NoneHold (task_tests t) → Asked n t)
  by_search_lem l h = record {
    diag_long = let e = length-take-le n xs (omega arith) in omega arith;
    diag_finite = front_finite;
    radius_finite = finite_entry xs f n (omega arith);
    lambda_finite = finite_entry xs f (n + 1) (omega arith);
    radius_above = h.0;
    lambda_not_below = h.1.0;
    diag_nonzero = rw front_twice (not-false (none_zero (take n xs)) h.1.1.0);
  }

  by_start : n + 1 ≤ length xs → (let t = start (take n xs) (get_or xs n nan) in NoneHold (task_tests t) → Asked n t)
  by_start l h = record {
    x_long = let e = length-take-le n xs (omega arith) in omega arith;
    x_finite = front_finite;
    bound_finite = finite_entry xs f n (omega arith);
    bound_above = h.0;
  }

  task-asked : (call : ℕ) → n + lasts call ≤ length xs → NoneHold (task_tests (task_of call n xs)) → Asked n (task_of call n xs)
  task-asked call l h = by (eqb call 1) refl
    where
      of_task : {t : Task} → t ≡ task_of call n xs → (NoneHold (task_tests t) → Asked n t) → Asked n (task_of call n xs)
      of_task e g = subst (Asked n) e (g (subst (λ (u : Task). NoneHold (task_tests u)) (sym e) h))

      by : (b : Bool) → eqb call 1 ≡ b → Asked n (task_of call n xs)
      by true e = let c = eqb-true call 1 e in of_task (search-task call n xs c) (by_search_lem (search_ends call n xs l c))
      by false e = let c = eqb-false call 1 e in of_task (start-task call n xs c) (by_start (start_ends call n xs l c))

-- ---- the whole job, and the lent step
pub record Workable (j : Job) (room : ℕ) : Type 0 where
  pub sizes : Inside j.m j.n
  pub jacobian_long : j.m * j.n ≤ length j.jacobian
  pub residuals_long : j.m ≤ length j.residuals
  pub jacobian_finite : all_finite (take (j.m * j.n) j.jacobian) ≡ true
  pub residuals_finite : all_finite (take j.m j.residuals) ≡ true
  pub step_long : j.n ≤ room
  pub asked : Asked j.n j.task

module _ (h : Head) (xs : List Float) (e : length xs ≡ count_of h) (f : all_finite xs ≡ true) where
  abbrev rest : List Float
  rest = drop (h.m * h.n) xs

  job_workable : (room : ℕ) → Inside h.m h.n → h.n ≤ room → NoneHold (task_tests (job_of h xs).task) → Workable (job_of h xs) room
  unfolding job_of count_of
  job_workable room i r t =
      let d = length-drop (h.m * h.n) xs in
      let g = length-drop h.m rest in
      let b = finite_back (h.m * h.n) xs f in
      let p = length-take-le (h.m * h.n) xs (omega arith) in
      let q = length-take-le h.m rest (omega arith) in
      record {
        sizes = i;
        jacobian_long = omega arith;
        residuals_long = omega arith;
        jacobian_finite = finite_front (h.m * h.n) _ (finite_front (h.m * h.n) xs f);
        residuals_finite = finite_front h.m _ (finite_front h.m rest b);
        step_long = r;
        asked = task-asked h.n (drop h.m rest) (finite_back h.m rest b) h.call (omega arith) t;
      }

-- LAW
pub sheet_workable : (s : List ℕ) (room : ℕ) → NoneHold (sheet_tests s room) → Workable (job_of (head_of s) (numbers_of (head_of s) s)) room
unfolding sheet_tests
sheet_workable s room h =
    let d = head_of s in
    let l = neither (not (eqb (length s) (length_of d))) (ltb room d.n) h.1.1.1.0 in
    job_workable d (numbers_of d s) (doubles_long (count_of d) (drop 3 s)) (not-false (all_finite (numbers_of d s)) h.1.1.1.1.0) room
    (inside d.m d.n h.1.1.0) (ltb-false room d.n l.1) h.1.1.1.1.1
