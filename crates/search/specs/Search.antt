-- 01, module 7 and 'Refusal numbers': the search as its callers see it: the answer is read off the run.
use Rattle.std.specs.Prelude.{ℕ, suc, min, true, false, not, List, [], ◌∷◌, ◌++◌, eqb, length, take, Float}
use Rattle.leaves.specs.Reply.{Reply, answered, refused}
use Rattle.leaves.specs.Number.{plus_zero}
use Rattle.leaves.specs.Norm.{ranges_of}
use Rattle.leaves.specs.declared.norm.Ranges.{Ranges}
use Rattle.factor.specs.State.{with_held}
use Rattle.factor.specs.Room.{Room, load, lay, emptied}
use Rattle.leaves.specs.Tests.{Test, first_of, none_zero}
use Rattle.factor.specs.Tests.{finite_test, finite_number, not_above, below, solve_tests}
use Rattle.factor.specs.Outcome.{Ended, ended, written}
use Rattle.factor.specs.declared.state.State.{State}
use Rattle.factor.specs.declared.state.Held.TheVariants as held
use Rattle.search.specs.Problem.{Problem, undamped_step, scaled_norm}
use Rattle.search.specs.Run.{Run, stopped, last, trial, run_of}
use Rattle.search.specs.Run as run
use Rattle.search.specs.Measured.{measured_by}
use Rattle.search.specs.declared.LMParameter.{LMParameter}

-- lambda, scaled norm and the trials run, and the step
abbrev pub Answer : Type 0
Answer = LMParameter × List Float

abbrev pub answer : Float → Float → ℕ → List Float → Answer
answer lambda norm trials step = (record { lambda = lambda; dp_norm = norm; trials = trials }, step)

-- the answer of the last trial, and how many there were
unfoldable pub concluded : ℕ → Answer → Run → Reply Answer
concluded k a (stopped s) = answered a
concluded k a (run.refused p) = refused 8
concluded k a (last t r) = concluded (suc k) (answer t.lambda t.norm (suc k) t.step) r
concluded k a (trial t fp r) = concluded (suc k) (answer t.lambda t.norm (suc k) t.step) r

-- with no trial, the undamped step and lambda zero
unfoldable pub answer_of : Problem → Float → Reply Answer
answer_of p initial = let s = undamped_step p in concluded 0 (answer plus_zero (scaled_norm p s) 0 s) (run_of p initial)

abbrev pub problem_of : State → List ℕ → List Float → Float → Room → Problem
problem_of st order diag radius r = record {
  m = st.m;
  upper = r.upper;
  qtb = r.qtb;
  order = take st.n order;
  diag = take st.n diag;
  radius = radius;
}

-- 6 for scaling, radius and lambda; 7 for a radius ≤ 0, a lambda < 0, a scaling entry of zero
abbrev pub search_tests : State → ℕ → List ℕ → List Float → Float → Float → ℕ → List Test
search_tests st store order diag radius lambda out =
    solve_tests st store order (min (length diag) out)
    ++ (finite_test st diag ∷ finite_number radius ∷ finite_number lambda ∷ (not_above radius, 7) ∷ (below lambda, 7) ∷ (not (none_zero (take st.n diag)), 7) ∷ [])

-- 02, #106: "each answer carries two flags: small seen, large seen"; "A refusal carries no flags"
abbrev pub Flagged : Type 0
Flagged = LMParameter × Ranges

-- A search ends with +0 below the diagonal and in l_diag, held nothing, answered or refused 8; the output is written by an answer alone.
abbrev pub searched : State → List Float → List Float → Ranges → Reply Answer → Ended Flagged
searched st store out seen (answered a) = ended (answered (a.0, seen)) (with_held st held.Nothing) store (written a.1 out)
searched st store out seen (refused k) = ended (refused k) (with_held st held.Nothing) store out

unfoldable pub search_call : State → List ℕ → List Float → Float → Float → List Float → List Float → Ended Flagged
search_call st order diag radius lambda store out =
    let c = first_of (search_tests st (length store) order diag radius lambda (length out)) in
    let r = load st.n store in
    let p = problem_of st order diag radius r in
    elim (eqb c 0) [
      | true ↦ searched st (lay (emptied r)) out (ranges_of (measured_by p lambda)) (answer_of p lambda)
      | false ↦ ended (refused c) st store out
    ]
