-- 01, module 7, 'Stop rules' and refusal 8: a whole run of the search: its trials, and what ended it. Trial ten is the base case, so that
-- no arm for a spent counter makes up a refusal.
use Rattle.std.specs.Prelude.{ℕ, zero, suc, Bool, true, false, ◌&&◌, List, Float}
use Rattle.std.specs.Float.{binary64}
use Rattle.std.specs.Float.Ieee.{add, sub, le, eq}
use Rattle.leaves.specs.Number.{plus_zero, abs_of, max_of, min_of, is_finite, is_negative}
use Rattle.search.specs.Problem.{Problem, undamped_step, damped_step, scaled_norm, damped_slope, newton}
use Rattle.search.specs.Bounds.{band, lower_bound_of, gnorm, upper_bound, first_lambda, raised}

-- the rule that stopped it, in document 01's order
pub data Stop : Type 0 where
  undamped ten within falling : Stop

-- the non-finite number that it is refused 8 for, in document 01's order
pub data Place : Type 0 where
  undamped_norm lower_bound gradient_norm trial_lambda trial_norm correction : Place

-- a trial: its lambda and step, the scaled norm, and the bounds in force
pub record Trial : Type 0 where
  pub lambda : Float
  pub step : List Float
  pub norm : Float
  pub lower : Float
  pub upper : Float

-- fp after trial t; trial ten has none
pub data Run : Type 0 where
  stopped : Stop → Run
  refused : Place → Run
  last : Trial → Run → Run
  trial : Trial → Float → Run → Run

-- what a trial hands on
pub record Next : Type 0 where
  pub lambda : Float
  pub lower : Float
  pub upper : Float
  pub fp : Float

-- where the trial's number is finite, the rest; else refused 8 there
abbrev pub finite : Float → Place → Run → Run
finite x place rest = elim (is_finite x) [ true ↦ rest | false ↦ refused place ]

-- fp above zero raises the lower bound to lambda, else the upper bound falls to it; the next lambda is not below the lower bound
unfoldable pub next : Trial → Float → Float → Next
next t fp c = elim (is_negative fp) [
  | true ↦ record { lambda = max_of t.lower (add binary64 t.lambda c); lower = t.lower; upper = min_of t.upper t.lambda; fp = fp }
  | false ↦
      let lower = max_of t.lower t.lambda in
      record { lambda = max_of lower (add binary64 t.lambda c); lower = lower; upper = t.upper; fp = fp }
]

-- the trial of a lambda
unfoldable pub trial_of : Problem → Next → Trial
trial_of p s =
    let lambda = raised s.lambda s.upper in
    let step = damped_step p lambda in
    record { lambda = lambda; step = step; norm = scaled_norm p step; lower = s.lower; upper = s.upper }

-- |fp| ≤ delta·0.1; or lower bound zero, fp ≤ previous fp, previous fp negative
unfoldable pub is_within : Problem → Float → Bool
is_within p fp = le (abs_of fp) (band p.radius)

unfoldable pub is_falling : Next → Float → Bool
is_falling s fp = (eq s.lower plus_zero && le fp s.fp) && is_negative s.fp

-- k more trials may follow this one: trial ten stops before fp is worked out
unfoldable pub trials_from : Problem → ℕ → Next → Run
trials_from p zero s =
    let t = trial_of p s in
    finite t.lambda trial_lambda (last t (finite t.norm trial_norm (stopped ten)))
trials_from p (suc k) s =
    let t = trial_of p s in
    let fp = sub binary64 t.norm p.radius in
    let c = newton fp p.radius (damped_slope p t.lambda t.step) in
    finite t.lambda trial_lambda
    (elim (is_finite t.norm) [
      | false ↦ last t (refused trial_norm)
      | true ↦
          trial t fp
          (elim (is_within p fp) [
            | true ↦ stopped within
            | false ↦ elim (is_falling s fp) [
              | true ↦ stopped falling
              | false ↦ elim (is_finite c) [ true ↦ trials_from p k (next t fp c) | false ↦ refused correction ]
            ]
          ])
    ])

-- fp ≤ delta·0.1: the undamped step is taken
unfoldable pub run_of : Problem → Float → Run
run_of p initial =
    let step = undamped_step p in
    let n = scaled_norm p step in
    let fp = sub binary64 n p.radius in
    let lower = lower_bound_of p step fp in
    let g = gnorm p in
    let upper = upper_bound g p.radius in
    let lambda = first_lambda initial lower upper g n in
    finite n undamped_norm
    (elim (le fp (band p.radius)) [
      | true ↦ stopped undamped
      | false ↦ finite lower lower_bound (finite g gradient_norm (trials_from p 9 (record { lambda = lambda; lower = lower; upper = upper; fp = fp })))
    ])
