-- A sheet's working, from its bytes to its answer, is what its definition says. Assumes nothing.
use Prim.Native.Nat.{ℕ, ◌+◌, ◌*◌, ◌-◌, ◌<◌, ◌≤◌}
use mathlib.Core.Path.{◌≡◌, refl, sym, ap, ◌∙◌}
use mathlib.Core.Logic.{◌≢◌}
use mathlib.Core.Bool.{Bool, true, false, not, ◌||◌, true≢false}
use mathlib.Core.List.{List}
use native.Mathlib.Omega.{arith}
use borrow.Author.Tests.{ne_eqb, eqb-true, lt-ltb, le-ltb}
use lib.Dec.{eqb, ltb}
use lib.ListN.{length, take, drop, get_or, replicate}
use lib.Ieee.{Float, nan}
use Rattle.std.specs.Prelude.{Result, Ok, Err}
use Rattle.leaves.specs.declared.reply.Refusal.{Refusal}
use Rattle.leaves.specs.declared.norm.Ranges.{Ranges}
use Rattle.leaves.specs.Reply.{refused, refusal_number, reply_of}
use Rattle.leaves.specs.Tests.{outside, first_of}
use Rattle.leaves.specs.Square.{zeros}
use Rattle.factor.specs.Factoring.{Factored, factored, factor_call}
use Rattle.factor.specs.declared.state.State.{State}
use Rattle.leaves.proofs.Replies.{refusal_number-some}
use Rattle.leaves.proofs.Refusals.{passed_iff, stopped, test_met, call-refused, call-worked, past, went_to}
use Rattle.sheet.specs.Sheet.{Task, Job, head_of, doubles, count_of, length_of, task_of, job_of}
use Rattle.sheet.specs.Tests.{field_tests, number_tests, numbers_of, sheet_tests}
use Rattle.sheet.specs.Fit.{Fit, searched, Finished, finished, mapped, sought_from, started_from, task_from, by_factoring, worked_in, worked, sheet_call}
use Rattle.sheet.specs.inner.Handed.{numbers_call}
use Rattle.sheet.specs.declared.head.Head.{Head}
use Rattle.sheet.specs.declared.answer.Fitted.{Fitted}
use Rattle.sheet.proofs.Testing.{search-task, start-task}
use Rattle.leaves.specs.Refusing.{NoneHold}

-- ---- call 1 or call 2
module _ (call n : ℕ) (rest : List Float) (st : State) (order : List ℕ) (store step : List Float) where
  abbrev sought : Finished Fitted
  sought = sought_from st order (take n rest) (get_or rest n nan) (get_or rest (n + 1) nan) store step

  pub as_search : {t : Finished Fit} → call ≡ 1 → t ≡ finished (mapped searched sought.reply) sought.step → t ≡ task_from (task_of call n rest) st order store step
  unfolding task_from
  as_search e h = h ∙ ap (λ (u : Task). task_from u st order store step) (search-task call n rest e)

  pub as_start : {t : Finished Fit} → call ≢ 1 → t ≡ started_from st order (take n rest) (get_or rest n nan) store step → t ≡ task_from (task_of call n rest) st order store step
  unfolding task_from
  as_start e h = h ∙ ap (λ (u : Task). task_from u st order store step) (start-task call n rest e)

-- ---- factoring, then the call
module _ (h : Head) (xs store : List Float) (order : List ℕ) (bench step : List Float) where
  abbrev a : ℕ
  a = h.m * h.n

  module _ {d : Result Ranges Refusal} {q : State} {s b : List Float} {w : List ℕ} (f : factored (reply_of d) q s w b ≡ factor_call h.m h.n (take a xs) (take (a + h.m - a) (drop a xs)) store order bench) where
    by : (x : Result Ranges Refusal) → d ≡ x → by_factoring (job_of h xs).task (reply_of x) q w s step ≡ worked_in (job_of h xs) store order bench step
    unfolding worked_in job_of
    by x p =
        let z : a + h.m - a ≡ h.m = omega arith in
        ap (λ (y : Result Ranges Refusal). by_factoring (job_of h xs).task (reply_of y) q w s step) (sym p)
        ∙ ap (λ (y : Factored). by_factoring (job_of h xs).task y.reply y.state y.order y.store step)
        (f ∙ ap (λ (k : ℕ). factor_call h.m h.n (take a xs) (take k (drop a xs)) store order bench) z)

    pub work_on : {f : Ranges} → d ≡ Ok f → {u : Task} → u ≡ (job_of h xs).task → {t : Finished Fit} → t ≡ task_from u q w s step → t ≡ worked_in (job_of h xs) store order bench step
    work_on p r g = g ∙ ap (λ (u : Task). task_from u q w s step) r ∙ by _ p

    pub work-refused : {k : Refusal} → d ≡ Err k → finished (refused (refusal_number k)) step ≡ worked_in (job_of h xs) store order bench step
    work-refused p = by _ p

pub in_rooms : (j : Job) (step : List Float) {s b : List Float} {w : List ℕ} → s ≡ zeros 320 → w ≡ replicate 16 0 → b ≡ zeros 2176 → worked_in j s w b step ≡ worked j step
unfolding worked
in_rooms j step {s} {b} {w} p q r =
    ap (λ (x : List Float). worked_in j x w b step) p
    ∙ ap (λ (x : List ℕ). worked_in j (zeros 320) x b step) q
    ∙ ap (λ (x : List Float). worked_in j (zeros 320) (replicate 16 0) x step) r

-- ---- the tests
module _ (h : Head) (s : List ℕ) (step : List Float) {xs : List Float} (x : xs ≡ numbers_of h s) where
  tested : {c : ℕ} → c ≡ first_of (number_tests h xs) → first_of (number_tests h (numbers_of h s)) ≡ c
  tested e = ap (λ (l : List Float). first_of (number_tests h l)) (sym x) ∙ sym e

  pub numbers-refused : (k : Refusal) → refusal_number k ≡ first_of (number_tests h xs) → finished (refused (refusal_number k)) step ≡ numbers_call h s step
  unfolding numbers_call
  numbers-refused k e =
      call-refused (worked (job_of h (numbers_of h s)) step) (λ (c : ℕ). finished (refused c) step) (number_tests h (numbers_of h s)) (refusal_number k) (tested e) (ne_eqb _ _ (refusal_number-some k))

  pub numbers-worked : 0 ≡ first_of (number_tests h xs) → {t : Finished Fit} → t ≡ worked (job_of h xs) step → t ≡ numbers_call h s step
  unfolding numbers_call
  numbers-worked e g =
      g
      ∙ ap (λ (l : List Float). worked (job_of h l) step) x
      ∙ call-worked (worked (job_of h (numbers_of h s)) step) (λ (c : ℕ). finished (refused c) step) (number_tests h (numbers_of h s)) (tested e)

pub as_counted : (h : Head) (s : List ℕ) {k : ℕ} → k ≡ count_of h → {xs : List Float} → xs ≡ doubles k (drop 3 s) → xs ≡ numbers_of h s
as_counted h s e x = x ∙ ap (λ (k : ℕ). doubles k (drop 3 s)) e

either : (a b : Bool) → (not a || b) ≡ false → a ≡ true
either true b e = refl
either false b e = absurd (true≢false e)

pub fields_passed : (h : Head) (len room : ℕ) → first_of (field_tests h len room) ≡ 0 → (outside h.m h.n ≡ false) × (len ≡ length_of h)
fields_passed h len room z =
    let p : NoneHold (field_tests h len room) = (passed_iff (field_tests h len room) refl).0 z in
    (p.1.0, eqb-true len (length_of h) (either (eqb len (length_of h)) (ltb room h.n) p.1.1.0))

module _ (s : List ℕ) (step : List Float) where
  abbrev refusal : ℕ → Finished Fit
  refusal k = finished (refused k) step

  abbrev all : Finished Fit
  all = worked (job_of (head_of s) (numbers_of (head_of s) s)) step

  pub sheet_short : length s < 3 → finished (refused 1) step ≡ sheet_call s step
  unfolding sheet_call sheet_tests
  sheet_short t = call-refused all refusal (sheet_tests s (length step)) 1 (test_met _ _ (lt-ltb _ _ t)) refl

  module _ (t : 3 ≤ length s) {h : Head} (p : h ≡ head_of s) where
    f : {c : ℕ} → c ≡ first_of (field_tests h (length s) (length step)) → c ≡ first_of (field_tests (head_of s) (length s) (length step))
    f e = e ∙ ap (λ (x : Head). first_of (field_tests x (length s) (length step))) p

    pub sheet-refused : (k : Refusal) → refusal_number k ≡ first_of (field_tests h (length s) (length step)) → finished (refused (refusal_number k)) step ≡ sheet_call s step
    unfolding sheet_call sheet_tests
    sheet-refused k e =
        call-refused all refusal (sheet_tests s (length step)) (refusal_number k)
        (sym (past _ _ (le-ltb _ _ t) (sym (stopped (field_tests (head_of s) (length s) (length step)) (number_tests (head_of s) (numbers_of (head_of s) s)) (refusal_number k) (f e) (refusal_number-some k))))) (ne_eqb _ _ (refusal_number-some k))

    pub sheet_on : 0 ≡ first_of (field_tests h (length s) (length step)) → numbers_call h s step ≡ sheet_call s step
    unfolding numbers_call sheet_call sheet_tests
    sheet_on e =
        ap (λ (x : Head). numbers_call x s step) p
        ∙ ap (λ (k : ℕ). elim (eqb k 0) [ true ↦ all | false ↦ refusal k ])
        (past _ _ (le-ltb _ _ t) (went_to (field_tests (head_of s) (length s) (length step)) (number_tests (head_of s) (numbers_of (head_of s) s)) refl (f e) refl refl))
