-- 01, 'Job sheet and its program': the working of a sheet, by the calls of the lower crates in rooms of its own. A call's refusal is the
-- sheet's. Its flags are dropped: what is printed has none (02, #106).
use Rattle.std.specs.Prelude.{ℕ, true, false, List, eqb, length, replicate, Float, Result, Ok, Err}
use Rattle.leaves.specs.Reply.{Reply, answered, refused, refusal_number}
use Rattle.leaves.specs.declared.reply.Refusal.{Refusal}
use Rattle.leaves.specs.declared.norm.Ranges.{Ranges}
use Rattle.leaves.specs.Number.{plus_zero}
use Rattle.leaves.specs.Square.{zeros}
use Rattle.leaves.specs.Tests.{first_of}
use Rattle.factor.specs.Outcome.{Ended}
use Rattle.factor.specs.Factoring.{factor_call}
use Rattle.measures.specs.Measures.{determined_call}
use Rattle.measures.specs.Rescale.{Scaled, first, later, scaling_call}
use Rattle.factor.specs.declared.state.State.{State}
use Rattle.measures.specs.declared.scaling.Mode.TheVariants as mode
use Rattle.search.specs.Search.{Flagged, search_call}
use Rattle.sheet.specs.Sheet.{Task, search, start, Job, head_of, job_of}
use Rattle.sheet.specs.Tests.{numbers_of, sheet_tests}
use Rattle.sheet.specs.declared.answer.Fitted.{Fitted}
use Rattle.sheet.specs.declared.answer.Answer.{Answer}
use Rattle.sheet.specs.declared.answer.Answer.TheVariants as answer

-- what is told beside the step; call 2 tells its radius too
pub data Fit : Type 0 where
  searched : Fitted → Fit
  started : Float → Fitted → Fit

abbrev pub fit_in : Answer → Fit
fit_in (answer.Searched f) = searched f
fit_in (answer.Started t) = started t.radius t.fitted

abbrev pub fit_of : Result Answer Refusal → Reply Fit
fit_of (Ok a) = answered (fit_in a)
fit_of (Err r) = refused (refusal_number r)

-- an answer that comes from anywhere: its refusal may have any number
abbrev pub numbered_of : Result Answer ℕ → Reply Fit
numbered_of (Ok a) = answered (fit_in a)
numbered_of (Err k) = refused k

-- an answer, and the lent step after it
pub record Finished (A : Type 0) : Type 0 where
  pub reply : Reply A
  pub step : List Float

abbrev pub finished : {A : Type 0} → Reply A → List Float → Finished A
finished a step = record { reply = a; step = step }

-- ---- determined, then the search

abbrev pub by_search : ℕ → ℕ → Reply Flagged → List Float → Finished Fitted
by_search n d (answered p) out =
    finished (answered (record { columns = n; lambda = p.0.lambda; norm = p.0.dp_norm; trials = p.0.trials; determined = d })) out
by_search n d (refused k) out = finished (refused k) out

abbrev pub by_determined : ℕ → Reply ℕ → Ended Flagged → List Float → Finished Fitted
by_determined n (answered d) s step = by_search n d s.reply s.out
by_determined n (refused k) s step = finished (refused k) step

unfoldable pub sought_from : State → List ℕ → List Float → Float → Float → List Float → List Float → Finished Fitted
sought_from st order diag radius lambda store step =
    let d = determined_call st store in
    by_determined st.n d.reply (search_call st order diag radius lambda d.store step) step

-- ---- call 2: the first scaling by column norms, then the search from lambda 0

abbrev pub mapped : (Fitted → Fit) → Reply Fitted → Reply Fit
mapped f (answered a) = answered (f a)
mapped f (refused k) = refused k

-- A first scaling never answers as a later one does: `starts` in `proofs/Starting.antt`.
abbrev pub by_scaling : State → List ℕ → Reply Scaled → List Float → List Float → List Float → Finished Fit
by_scaling st order (answered (first t f)) diag store step =
    let a = sought_from st order diag t.radius plus_zero store step in finished (mapped (started t.radius) a.reply) a.step
by_scaling st order (answered (later f)) diag store step = finished (refused 8) step
by_scaling st order (refused k) diag store step = finished (refused k) step

unfoldable pub started_from : State → List ℕ → List Float → Float → List Float → List Float → Finished Fit
started_from st order x bound store step =
    let s = scaling_call st mode.FirstScaled (zeros 16) x bound store in
    by_scaling st order s.reply s.out s.store step

-- ---- the whole sheet

unfoldable pub task_from : Task → State → List ℕ → List Float → List Float → Finished Fit
task_from (search diag radius lambda) st order store step =
    let a = sought_from st order diag radius lambda store step in finished (mapped searched a.reply) a.step
task_from (start x bound) st order store step = started_from st order x bound store step

abbrev pub by_factoring : Task → Reply Ranges → State → List ℕ → List Float → List Float → Finished Fit
by_factoring task (answered f) st order store step = task_from task st order store step
by_factoring task (refused k) st order store step = finished (refused k) step

unfoldable pub worked_in : Job → List Float → List ℕ → List Float → List Float → Finished Fit
worked_in j store order bench step =
    let f = factor_call j.m j.n j.jacobian j.residuals store order bench in
    by_factoring j.task f.reply f.state f.order f.store step

-- in rooms for the largest problem
unfoldable pub worked : Job → List Float → Finished Fit
worked j step = worked_in j (zeros 320) (replicate 16 0) (zeros 2176) step

unfoldable pub sheet_call : List ℕ → List Float → Finished Fit
sheet_call s step =
    let c = first_of (sheet_tests s (length step)) in
    let h = head_of s in
    elim (eqb c 0) [ true ↦ worked (job_of h (numbers_of h s)) step | false ↦ finished (refused c) step ]
