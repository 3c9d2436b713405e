-- 02, #106: "each answer carries two flags: small seen, large seen, in any norm worked out for that call". The vectors whose norms a search works out, in
-- their order, read off its run. "A refusal carries no flags", so what is listed past the end of a refused run is not read.
use Rattle.std.specs.Prelude.{true, false, List, [], ◌∷◌, ◌++◌, length, Float}
use Rattle.eliminate.specs.Eliminate.{heads, tails}
use Rattle.factor.specs.Held.{forward_upper, forward_lower, mul_upper}
use Rattle.factor.specs.Solve.{non_singular_of, gather}
use Rattle.search.specs.Problem.{Problem, undamped_step, damped_rows, scaled_step, direction}
use Rattle.search.specs.Bounds.{quotients}
use Rattle.search.specs.Run.{Run, stopped, last, trial, run_of}
use Rattle.search.specs.Run as run

-- 01, module 7: what the held solve gives with R, whose norm the lower bound takes, and with L, whose norm a correction takes
unfoldable pub held_by_r : Problem → List Float → List Float
held_by_r p step = forward_upper [] p.upper (direction p step)

unfoldable pub held_by_l : Problem → Float → List Float → List Float
held_by_l p lambda step = let l = damped_rows p lambda in forward_lower (heads l.0) (tails l.0) (direction p step)

-- 01, module 7: Rᵀ·qt_b over the scaling, whose norm is gnorm
unfoldable pub gradient_by : Problem → List Float
gradient_by p = quotients (mul_upper p.qtb p.upper) (gather p.order p.diag)

-- 02, #106, "any norm worked out": for a lower bound of 0, where R is singular, none is
unfoldable pub measured_lower : Problem → List Float → List (List Float)
measured_lower p step = elim (non_singular_of p.m (length p.upper) p.upper) [ true ↦ held_by_r p step ∷ [] | false ↦ [] ]

-- both bounds, lower and upper
unfoldable pub measured_bounds : Problem → List Float → List (List Float)
measured_bounds p step = measured_lower p step ++ (gradient_by p ∷ [])

-- 01, 'Stop rules': what is worked out on the way to the rest of a run is not where that is the stop
unfoldable pub unless_stopped : Run → List (List Float) → List (List Float)
unless_stopped (stopped s) vs = []
unless_stopped (run.refused q) vs = vs
unless_stopped (last t r) vs = vs
unless_stopped (trial t fp r) vs = vs

-- each trial's scaled step and, unless it stops there, its correction's vector; the last trial has none
unfoldable pub measured_trials : Problem → Run → List (List Float)
measured_trials p (stopped s) = []
measured_trials p (run.refused q) = []
measured_trials p (last t r) = scaled_step p t.step ∷ measured_trials p r
measured_trials p (trial t fp r) = scaled_step p t.step ∷ (unless_stopped r (held_by_l p t.lambda t.step ∷ []) ++ measured_trials p r)

-- 02, #106, "for that call": the undamped scaled step and, unless that is taken, the bounds and the trials
unfoldable pub measured_by : Problem → Float → List (List Float)
measured_by p initial =
    let r = run_of p initial in
    scaled_step p (undamped_step p) ∷ (unless_stopped r (measured_bounds p (undamped_step p)) ++ measured_trials p r)
