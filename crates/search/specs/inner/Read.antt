-- The code's structs and its answer, read as what the definitions speak of; and what its inner workings are lent.
use Rattle.std.specs.Prelude.{ℕ, ◌≡◌, List, [], length, Float, Result, Ok, Err}
use Rattle.std.specs.Float.{binary64}
use Rattle.std.specs.Float.Ieee.{sub}
use Rattle.leaves.specs.Reply.{Reply, answered, refused, refusal_number}
use Rattle.leaves.specs.declared.reply.Refusal.{Refusal}
use Rattle.leaves.specs.Number.{plus_zero}
use Rattle.leaves.specs.Product.{product_all, divided_by}
use Rattle.leaves.specs.Tests.{first_of}
use Rattle.leaves.specs.declared.norm.Ranges.{Ranges}
use Rattle.factor.specs.Tests.{solve_tests}
use Rattle.factor.specs.declared.state.State.{State}
use Rattle.search.specs.Problem.{Problem, scaled_norm}
use Rattle.search.specs.Bounds.{lower_bound_of, gnorm, upper_bound, first_lambda}
use Rattle.search.specs.Run.{Run, Next, Trial, finite, lower_bound, gradient_norm, trials_from}
use Rattle.search.specs.Search.{Answer, answer, problem_of}
use Rattle.factor.specs.Room.{load}
use Rattle.search.specs.declared.bounds.Going.{Going}
use Rattle.search.specs.declared.LMParameter.{LMParameter}

-- and with the step beside it
abbrev pub with_step : Result (LMParameter × Ranges) Refusal → List Float → Reply Answer
with_step (Ok p) step = answered (p.0, step)
with_step (Err r) step = refused (refusal_number r)

-- what an answer has seen; a refusal carries no flags
abbrev pub Saw : Result (LMParameter × Ranges) Refusal → Ranges → Type 0
Saw (Ok p) all = p.1 ≡ all
Saw (Err r) all = Unit {0}

-- A run that makes a trial is not read before that trial: what stands for an answer till then does not matter.
abbrev pub unanswered : Answer
unanswered = answer plus_zero plus_zero 0 []

abbrev pub next_of : Going → Next
next_of s = record { lambda = s.lambda; lower = s.lower; upper = s.upper; fp = s.fp }

-- a trial as `next` reads it: its lambda and the bounds in force
abbrev pub bare : Going → Float → Trial
bare s lambda = record { lambda = lambda; step = []; norm = lambda; lower = s.lower; upper = s.upper }

-- the right side of the held solve, by column: a vector over a number, then times the scaling
abbrev pub turned_by : Float → List Float → List Float → List Float
turned_by s v diag = product_all (divided_by s v) diag

-- the problem of a store that is lent
abbrev pub lent : State → List ℕ → List Float → Float → List Float → Problem
lent st order diag radius store = problem_of st order diag radius (load st.n store)

-- a state, a store and an order list that pass the solves' tests, where every other slice has a number for each column
abbrev pub Ready : State → List Float → List ℕ → Type 0
Ready st store order = first_of (solve_tests st (length store) order st.n) ≡ 0

-- a run from the bounds on, after a step that is not taken undamped
abbrev pub damped : Problem → Float → List Float → Run
damped p initial step =
    let n = scaled_norm p step in
    let fp = sub binary64 n p.radius in
    let lower = lower_bound_of p step fp in
    let g = gnorm p in
    let upper = upper_bound g p.radius in
    let lambda = first_lambda initial lower upper g n in
    finite lower lower_bound (finite g gradient_norm (trials_from p 9 (record { lambda = lambda; lower = lower; upper = upper; fp = fp })))
