-- A sheet's answer has its n columns, so that its lines can always be written. Assumes nothing.
use Prim.Native.Nat.{ℕ, ◌<◌, ◌≤◌}
use mathlib.Core.Path.{◌≡◌, refl, ap, subst, ◌∙◌}
use mathlib.Core.Bool.{Bool, true, false}
use mathlib.Core.List.{List, ◌∷◌}
use native.Mathlib.Omega.{arith}
use borrow.Author.Tests.{ne_eqb, le-ltb, eqb-true}
use lib.Dec.{eqb, ltb}
use lib.ListN.{length, replicate}
use lib.Ieee.{Float}
use Rattle.leaves.specs.Reply.{Reply, answered, refused}
use Rattle.leaves.specs.Number.{plus_zero}
use Rattle.leaves.specs.Tests.{outside, Test, first_of}
use Rattle.leaves.specs.Square.{zeros}
use Rattle.factor.specs.Outcome.{Ended}
use Rattle.measures.specs.Measures.{determined_call}
use Rattle.factor.specs.Factoring.{factor_call}
use Rattle.measures.specs.Rescale.{Scaled, first, later, scaling_call}
use Rattle.factor.specs.declared.state.State.{State}
use Rattle.measures.specs.declared.scaling.Mode.TheVariants as mode
use Rattle.leaves.proofs.Insides.{inside}
use Rattle.factor.proofs.Answered.{answered-state}
use Rattle.search.specs.Search.{Flagged}
use Rattle.leaves.specs.declared.norm.Ranges.{Ranges}
use Rattle.sheet.specs.Sheet.{Task, search, start, Job, head_of, job_of}
use Rattle.sheet.specs.Tests.{unknown, numbers_of, sheet_tests}
use Rattle.sheet.specs.Fit.{Fit, searched, started, Finished, finished, mapped, by_search, by_determined, sought_from, by_scaling, started_from, task_from, by_factoring, worked_in, worked, sheet_call}
use Rattle.sheet.specs.Lines.{column_tests, lines_tests}
use Rattle.sheet.specs.declared.answer.Fitted.{Fitted}

-- an answer of n columns
abbrev Found : ℕ → Reply Fitted → Type 0
Found n (answered f) = f.columns ≡ n
Found n (refused k) = Unit {0}

abbrev Has : ℕ → Reply Fit → Type 0
Has n (answered (searched f)) = f.columns ≡ n
Has n (answered (started r f)) = f.columns ≡ n
Has n (refused k) = Unit {0}

by_search_lem : (n d : ℕ) (r : Reply Flagged) (out : List Float) → Found n (by_search n d r out).reply
by_search_lem n d (answered p) out = refl
by_search_lem n d (refused k) out = tt

by_determined_lem : (n : ℕ) (d : Reply ℕ) (s : Ended Flagged) (step : List Float) → Found n (by_determined n d s step).reply
by_determined_lem n (answered d) s step = by_search_lem n d s.reply s.out
by_determined_lem n (refused k) s step = tt

as_searched : (n : ℕ) (r : Reply Fitted) → Found n r → Has n (mapped searched r)
as_searched n (answered f) h = h
as_searched n (refused k) h = tt

as_started : (n : ℕ) (x : Float) (r : Reply Fitted) → Found n r → Has n (mapped (started x) r)
as_started n x (answered f) h = h
as_started n x (refused k) h = tt

module _ (st : State) (order : List ℕ) where
  sought_has : (diag : List Float) (radius lambda : Float) (store step : List Float) → Found st.n (sought_from st order diag radius lambda store step).reply
  unfolding sought_from
  sought_has diag radius lambda store step = by_determined_lem st.n (determined_call st store).reply _ step

  scaled_has : (r : Reply Scaled) (diag store step : List Float) → Has st.n (by_scaling st order r diag store step).reply
  scaled_has (answered (first t f)) diag store step = as_started st.n t.radius (sought_from st order diag t.radius plus_zero store step).reply (sought_has diag t.radius plus_zero store step)
  scaled_has (answered (later f)) diag store step = tt
  scaled_has (refused k) diag store step = tt

  started_has : (x : List Float) (bound : Float) (store step : List Float) → Has st.n (started_from st order x bound store step).reply
  unfolding started_from
  started_has x bound store step =
      let s = scaling_call st mode.FirstScaled (zeros 16) x bound store in scaled_has s.reply s.out s.store step

  task_has : (t : Task) (store step : List Float) → Has st.n (task_from t st order store step).reply
  unfolding task_from
  task_has (search diag radius lambda) store step = as_searched st.n (sought_from st order diag radius lambda store step).reply (sought_has diag radius lambda store step)
  task_has (start x bound) store step = started_has x bound store step

factored_has : (task : Task) (r : Reply Ranges) (st : State) (order : List ℕ) (store step : List Float) (n : ℕ) → ((f : Ranges) → r ≡ answered f → st.n ≡ n) → Has n (by_factoring task r st order store step).reply
factored_has task (answered u) st order store step n h = subst (λ (k : ℕ). Has k (task_from task st order store step).reply) (h u refl) (task_has st order task store step)
factored_has task (refused k) st order store step n h = tt

worked_has : (j : Job) (step : List Float) → Has j.n (worked j step).reply
unfolding worked worked_in
worked_has j step =
    let made = factor_call j.m j.n j.jacobian j.residuals (zeros 320) (replicate 16 0) (zeros 2176) in
    factored_has j.task made.reply made.state made.order made.store step j.n
    (λ f h. ap (λ (x : State). x.n) (answered-state j.m j.n j.jacobian j.residuals (zeros 320) (replicate 16 0) (zeros 2176) h))

-- ---- so the tests of its lines are passed
tests_free : (n : ℕ) → 0 < n → n ≤ 16 → first_of (column_tests n 16) ≡ 0
unfolding first_of
tests_free n p h = rw (ne_eqb n 0 (λ e. omega arith), le-ltb 16 n h)

lines_free : (n : ℕ) (a : Reply Fit) → 0 < n → n ≤ 16 → Has n a → first_of (lines_tests a 16) ≡ 0
unfolding first_of
lines_free n (answered (searched f)) p h e = ap (λ (k : ℕ). first_of (column_tests k 16)) e ∙ tests_free n p h
lines_free n (answered (started r f)) p h e = ap (λ (k : ℕ). first_of (column_tests k 16)) e ∙ tests_free n p h
lines_free n (refused k) p h e = refl

third : (a b o : Bool) (ts : List Test) → first_of ((a, 1) ∷ (b, 1) ∷ (o, 2) ∷ ts) ≡ 0 → o ≡ false
unfolding first_of
third true b o ts e = absurd (omega arith)
third false true o ts e = absurd (omega arith)
third false false true ts e = absurd (omega arith)
third false false false ts e = refl

passed_sizes : (s : List ℕ) (room : ℕ) → first_of (sheet_tests s room) ≡ 0 → outside (head_of s).m (head_of s).n ≡ false
unfolding sheet_tests
passed_sizes s room e = third (ltb (length s) 3) (unknown (head_of s)) (outside (head_of s).m (head_of s).n) _ e

pub sheet_lines_free : (s : List ℕ) (step : List Float) → first_of (lines_tests (sheet_call s step).reply 16) ≡ 0
unfolding sheet_call first_of job_of
sheet_lines_free s step = by (eqb (first_of (sheet_tests s (length step))) 0) refl
  where
    by : (b : Bool) → eqb (first_of (sheet_tests s (length step))) 0 ≡ b
        → (let u : Finished Fit = elim b [ true ↦ worked (job_of (head_of s) (numbers_of (head_of s) s)) step | false ↦ finished (refused (first_of (sheet_tests s (length step)))) step ] in first_of (lines_tests u.reply 16) ≡ 0)
    by true e =
        let i = inside (head_of s).m (head_of s).n (passed_sizes s (length step) (eqb-true (first_of (sheet_tests s (length step))) 0 e)) in
        lines_free (head_of s).n (worked (job_of (head_of s) (numbers_of (head_of s) s)) step).reply i.cols_some i.cols_few (worked_has (job_of (head_of s) (numbers_of (head_of s) s)) step)
    by false e = refl
