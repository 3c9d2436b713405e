-- Document 01's commissioning examples F, G and K, a search for each stop rule and each place of refusal 8, and how many norms and which ranges some of
-- them see, each computed by the definitions that the contracts cite. Assumes nothing.
use Prim.Native.Nat.{ℕ, suc, ◌+◌, ◌*◌, ◌^◌}
use mathlib.Core.Path.{◌≡◌, refl}
use mathlib.Core.Bool.{true, false}
use mathlib.Core.List.{List, [], ◌∷◌}
use lib.ListN.{replicate, length}
use lib.Ieee.{Float, nan, binary64, round}
use Rattle.leaves.specs.Reply.{answered, refused}
use Rattle.leaves.specs.Number.{plus_zero}
use Rattle.leaves.specs.Norm.{flags, neither, ranges_of}
use Rattle.leaves.specs.declared.norm.Ranges.{Ranges}
use Rattle.factor.specs.Factoring.{Factored, factor_call}
use Rattle.factor.specs.Outcome.{Ended}
use Rattle.factor.specs.Room.{load}
use Rattle.search.specs.Problem.{Problem}
use Rattle.search.specs.Run.{Run, stopped, last, trial, run_of, undamped, ten, within, falling, undamped_norm, lower_bound, gradient_norm, trial_lambda, trial_norm, correction}
use Rattle.search.specs.Run as run
use Rattle.search.specs.Measured.{measured_by}
use Rattle.search.specs.Search.{Flagged, search_call, problem_of}
use Rattle.search.specs.inner.Opened.{opened}

-- whole numbers
abbrev w : ℕ → Float
w n = round binary64 false n 1

abbrev junk : ℕ → List Float
junk k = replicate k nan

-- J = (3), r = (6): F with scaling 1 and radius 2, K with radius +0; J = (3), r = (33): G with scaling 1 and radius 10
abbrev one_by_one : ℕ → Factored
one_by_one r = factor_call 1 1 (w 3 ∷ []) (w r ∷ []) (junk 5) (7 ∷ []) (junk 2)

abbrev searched : ℕ → Float → Ended Flagged
searched r radius = let f = one_by_one r in search_call f.state f.order (w 1 ∷ []) radius plus_zero f.store (junk 1)

pub examples :
    ((searched 6 (w 2)).reply ≡ answered (record { lambda = plus_zero; dp_norm = w 2; trials = 0 }, neither))
    × ((searched 6 (w 2)).out ≡ w 2 ∷ [])
    × ((searched 33 (w 10)).reply ≡ answered (record { lambda = plus_zero; dp_norm = w 11; trials = 0 }, neither))
    × ((searched 6 plus_zero).reply ≡ refused 7)
unfolding opened
examples = (refl, refl, refl, refl)

-- ---- one row of a Jacobian and one residual: how the run ends, and after how many trials
abbrev End : Type 0
End = Run × ℕ

abbrev end_of : ℕ → Run → End
end_of k (stopped s) = (stopped s, k)
end_of k (run.refused p) = (run.refused p, k)
end_of k (last t r) = end_of (suc k) r
end_of k (trial t fp r) = end_of (suc k) r

abbrev asked : List Float → Float → List Float → Float → Problem
asked row residual diag radius =
    let n = length row in
    let f = factor_call 1 n row (residual ∷ []) (junk (n * n + 4 * n)) (replicate n 7) (junk (n + 1)) in
    problem_of f.state f.order diag radius (load n f.store)

abbrev runs : List Float → Float → List Float → Float → Float → End
runs row residual diag radius lambda = end_of 0 (run_of (asked row residual diag radius) lambda)

-- 10^e and 10^-e
abbrev up : ℕ → Float
up e = round binary64 false (10 ^ e) 1

abbrev dn : ℕ → Float
dn e = round binary64 false 1 (10 ^ e)

pub ends_undamped : runs (w 1 ∷ []) (w 1) (w 1 ∷ []) (w 1) plus_zero ≡ (stopped undamped, 0)
unfolding opened
ends_undamped = refl

pub ends_within : runs (w 1 ∷ []) (w 1) (w 2 ∷ []) (w 1) plus_zero ≡ (stopped within, 1)
unfolding opened
ends_within = refl

pub ends_undamped_norm : runs (dn 320 ∷ []) (w 1) (w 1 ∷ []) (w 1) plus_zero ≡ (run.refused undamped_norm, 0)
unfolding opened
ends_undamped_norm = refl

pub ends_lower_bound : runs (w 1 ∷ []) (w 1) (w 1 ∷ []) (dn 320) plus_zero ≡ (run.refused lower_bound, 0)
unfolding opened
ends_lower_bound = refl

pub ends_gradient_norm : runs (up 308 ∷ []) (w 2) (up 308 ∷ []) (w 1) plus_zero ≡ (run.refused gradient_norm, 0)
unfolding opened
ends_gradient_norm = refl

pub ends_trial_lambda : runs (w 1 ∷ w 1 ∷ []) (w 1) (dn 200 ∷ w 1 ∷ []) (dn 320) plus_zero ≡ (run.refused trial_lambda, 0)
unfolding opened
ends_trial_lambda = refl

pub ends_trial_norm : runs (w 1 ∷ dn 320 ∷ []) (w 1) (w 3 ∷ dn 320 ∷ []) (w 1) plus_zero ≡ (run.refused trial_norm, 1)
unfolding opened
ends_trial_norm = refl

pub ends_correction : runs (dn 300 ∷ []) (dn 200) (w 1 ∷ []) (w 1) plus_zero ≡ (run.refused correction, 1)
unfolding opened
ends_correction = refl

pub ends_falling : runs (w 1 ∷ w 1 ∷ []) (w 1) (w 2 ∷ w 1 ∷ []) (w 1) (w 1) ≡ (stopped falling, 8)
unfolding opened
ends_falling = refl

pub ends_ten : runs (w 1 ∷ w 1 ∷ []) (w 4) (w 4 ∷ w 1 ∷ []) (w 1) (dn 320) ≡ (stopped ten, 10)
unfolding opened
ends_ten = refl

-- ---- 02, #106: how many norms the searches above work out. Undamped: one. Within: the undamped one, the lower bound's, gnorm, one trial and no correction
-- after it. Falling and ten have no full rank, so no norm for the lower bound, and one correction fewer than trials.
abbrev norms : List Float → Float → List Float → Float → Float → ℕ
norms row residual diag radius lambda = length (measured_by (asked row residual diag radius) lambda)

pub norms_counted :
    (norms (w 1 ∷ []) (w 1) (w 1 ∷ []) (w 1) plus_zero ≡ 1)
    × (norms (w 1 ∷ []) (w 1) (w 2 ∷ []) (w 1) plus_zero ≡ 4)
    × (norms (w 1 ∷ w 1 ∷ []) (w 1) (w 2 ∷ w 1 ∷ []) (w 1) (w 1) ≡ 17)
    × (norms (w 1 ∷ w 1 ∷ []) (w 4) (w 4 ∷ w 1 ∷ []) (w 1) (dn 320) ≡ 21)
unfolding opened
norms_counted = (refl, refl, refl, refl)

-- what they saw: of a step of 10^20 and of one of 10^-25 taken undamped, and of a scaling so small that the scaled step is small and gnorm large
abbrev saw : Float → Float → Float → Ranges
saw residual scale radius = ranges_of (measured_by (asked (w 1 ∷ []) residual (scale ∷ []) radius) plus_zero)

pub flags-seen :
    (saw (w 1) (w 2) (w 1) ≡ neither)
    × (saw (up 20) (w 1) (up 20) ≡ flags false true)
    × (saw (dn 25) (w 1) (dn 25) ≡ flags true false)
    × (saw (w 1) (dn 25) (dn 26) ≡ flags true true)
unfolding opened
flags-seen = (refl, refl, refl, refl)
