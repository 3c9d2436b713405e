-- What a technician wants to hear of an answered search, in any state, with any store and order list; each is proved in `SearchAnswers`. Assumes
-- nothing.
use mathlib.Core.Path.{◌≡◌}
use mathlib.Core.Bool.{true, false}
use mathlib.Core.List.{List}
use mathlib.Core.Logic.{inl}
use Prim.Native.Nat.{ℕ, ◌≤◌}
use lib.ListN.{take, drop}
use lib.Ieee.{Float, binary64, sub, lt, le}
use Rattle.leaves.specs.Reply.{answered}
use Rattle.leaves.specs.Number.{plus_zero, abs_of, is_finite}
use Rattle.leaves.specs.Norm.{norm}
use Rattle.leaves.specs.Product.{product_all}
use Rattle.leaves.specs.Tests.{all_finite}
use Rattle.factor.specs.Room.{load}
use Rattle.factor.specs.declared.state.State.{State}
use Rattle.search.specs.Problem.{Problem, undamped_step, scaled_norm}
use Rattle.search.specs.Bounds.{band}
use Rattle.search.specs.Run.{within, run_of}
use Rattle.search.specs.Ending.{ending}
use Rattle.search.specs.Search.{Flagged, problem_of, search_call}
use Rattle.demands.proofs.SearchAnswers as told

module _ (st : State) (order : List ℕ) (diag : List Float) (radius lambda : Float) (store out : List Float) (a : Flagged) (h : (search_call st order diag radius lambda store out).reply ≡ answered a) where
  abbrev asked : Problem
  asked = problem_of st order diag radius (load st.n store)

  -- the computed undamped scaled norm less the radius
  abbrev overshoot : Float
  overshoot = sub binary64 (scaled_norm asked (undamped_step asked)) radius

  -- the step that is written
  abbrev step : List Float
  step = take st.n (search_call st order diag radius lambda store out).out

  -- every number of the step is finite, and nothing else of the output is written
  pub answered_step : (all_finite step ≡ true) × (drop st.n (search_call st order diag radius lambda store out).out ≡ drop st.n out)
  answered_step = (told.step_finite st order diag radius lambda store out a h, told.surplus_kept st order diag radius lambda store out a h)

  -- lambda is finite and not below zero, and there are at most ten trials, none where lambda is zero
  pub answered_lambda : (is_finite a.0.lambda ≡ true) × (lt a.0.lambda plus_zero ≡ false)
  answered_lambda = (told.lambda_finite st order diag radius lambda store out a h, told.lambda_not_below st order diag radius lambda store out a h)

  pub answered-trials : (a.0.trials ≤ 10) × (le overshoot (band radius) ≡ true → a.0.trials ≡ 0)
  answered-trials = (told.trials_few st order diag radius lambda store out a h, told.no_trial st order diag radius lambda store out a h)

  -- the norm is finite, and is the norm of scaling times step; stopped `within`, it is within a tenth of the radius of it
  pub answered_norm : (is_finite a.0.dp_norm ≡ true) × (a.0.dp_norm ≡ norm (product_all step (take st.n diag)))
  answered_norm = (told.norm_finite st order diag radius lambda store out a h, told.norm_of_step st order diag radius lambda store out a h)

  pub answered-within : ending (run_of asked lambda) ≡ inl within → le (abs_of (sub binary64 a.0.dp_norm radius)) (band radius) ≡ true
  answered-within = told.within-band st order diag radius lambda store out a h
