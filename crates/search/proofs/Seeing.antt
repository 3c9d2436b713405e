-- What a search has seen: the flags that it hands on from norm to norm are those of the vectors that its definition lists. Assumes nothing.
use mathlib.Core.Path.{◌≡◌, refl, sym, ap, ◌∙◌}
use mathlib.Core.Bool.{Bool, true, false, cond}
use mathlib.Core.List.{List, [], ◌∷◌}
use Prim.Native.Nat.{ℕ, suc}
use lib.ListN.{length}
use lib.Ieee.{Float}
use Rattle.std.specs.Prelude.{Result, Ok, Err}
use Rattle.leaves.specs.declared.reply.Refusal.{Refusal}
use Rattle.search.specs.declared.LMParameter.{LMParameter}
use Rattle.leaves.specs.Norm.{norm, neither, either, ranges, ranges_of}
use Rattle.leaves.specs.declared.norm.Ranges.{Ranges}
use Rattle.leaves.proofs.Seen.{either-more, ranges_of_none, ranges_of_one, ranges_of-append}
use Rattle.factor.specs.Solve.{non_singular_of}
use Rattle.search.specs.Problem.{Problem, undamped_slope, damped_slope}
use Rattle.search.specs.Bounds.{gnorm}
use Rattle.search.specs.Run.{Next, Trial, next, trials_from}
use Rattle.search.specs.Measured.{held_by_r, held_by_l, gradient_by, measured_lower, measured_bounds, measured_trials}
use Rattle.search.specs.inner.Read.{Saw}

-- ---- LAWS: the vectors that are listed are those whose norms the search takes
pub undamped_slope-measured : (p : Problem) (step : List Float) → undamped_slope p step ≡ norm (held_by_r p step)
unfolding undamped_slope held_by_r
undamped_slope-measured p step = refl

pub damped_slope-measured : (p : Problem) (lambda : Float) (step : List Float) → damped_slope p lambda step ≡ norm (held_by_l p lambda step)
unfolding damped_slope held_by_l
damped_slope-measured p lambda step = refl

pub gnorm-measured : (p : Problem) → gnorm p ≡ norm (gradient_by p)
unfolding gnorm gradient_by
gnorm-measured p = refl

-- ---- a trial, handed what was seen before it
pub seen_last : (seen : Ranges) (v : List Float) (vs : List (List Float)) {mine all : Ranges} → mine ≡ ranges v → vs ≡ v ∷ [] → either seen (ranges_of vs) ≡ all → either seen mine ≡ all
seen_last seen v vs e h k = ap (either seen) (e ∙ sym (ranges_of_one v) ∙ ap ranges_of (sym h)) ∙ k

pub seen_on : (seen : Ranges) (v w : List Float) (vs rest : List (List Float)) {mine more all : Ranges} → mine ≡ ranges v → more ≡ ranges w → vs ≡ v ∷ (w ∷ rest)
    → either seen (ranges_of vs) ≡ all → either (either (either seen mine) more) (ranges_of rest) ≡ all
unfolding ranges_of
seen_on seen v w vs rest {mine} {more} e f h k =
    either-more (either seen mine) more (ranges_of rest) ∙ either-more seen mine (either more (ranges_of rest))
    ∙ ap (λ (x : Ranges). either seen (either x (either more (ranges_of rest)))) e
    ∙ ap (λ (x : Ranges). either seen (either (ranges v) (either x (ranges_of rest)))) f
    ∙ ap (λ (x : List (List Float)). either seen (ranges_of x)) (sym h) ∙ k

-- the next turn: u and w are trials that `next` reads alike
pub seen_again : (p : Problem) (k : ℕ) (s r : Next) (u w : Trial) (fp c : Float) (seen : Ranges) (v x : List Float) {mine more here handed all : Ranges}
    → here ≡ either seen mine → handed ≡ either here more → mine ≡ ranges v → more ≡ ranges x
    → measured_trials p (trials_from p (suc k) s) ≡ v ∷ (x ∷ measured_trials p (trials_from p k (next u fp c))) → next u fp c ≡ next w fp c → r ≡ next w fp c
    → either seen (ranges_of (measured_trials p (trials_from p (suc k) s))) ≡ all → either handed (ranges_of (measured_trials p (trials_from p k r))) ≡ all
seen_again p k s r u w fp c seen v x {mine} {more} {here} {handed} a b m n on e f h =
    ap (λ (y : Next). either handed (ranges_of (measured_trials p (trials_from p k y)))) (f ∙ sym e)
    ∙ ap (λ (y : Ranges). either y (ranges_of (measured_trials p (trials_from p k (next u fp c))))) (b ∙ ap (λ (z : Ranges). either z more) a)
    ∙ seen_on seen v x _ (measured_trials p (trials_from p k (next u fp c))) m n on h

-- ---- an answer saw what is the same
pub saw_same : (r : Result (LMParameter × Ranges) Refusal) {x y : Ranges} → Saw r x → x ≡ y → Saw r y
saw_same (Ok a) h e = h ∙ e
saw_same (Err k) h e = tt

-- ---- the bounds, handed what the undamped step's norm saw
pub seen_bounds : (p : Problem) (step : List Float) {low by : Ranges} → low ≡ cond (non_singular_of p.m (length p.upper) p.upper) (ranges (held_by_r p step)) neither
    → by ≡ ranges (gradient_by p) → either low by ≡ ranges_of (measured_bounds p step)
unfolding measured_bounds measured_lower
seen_bounds p step {low} {by} e f =
    ap (λ (x : Ranges). either x by) (e ∙ lower (non_singular_of p.m (length p.upper) p.upper)) ∙ ap (either (ranges_of (measured_lower p step))) (f ∙ sym (ranges_of_one (gradient_by p)))
    ∙ sym (ranges_of-append (measured_lower p step) (gradient_by p ∷ []))
  where
    lower : (b : Bool) → cond b (ranges (held_by_r p step)) neither ≡ ranges_of (elim b [ true ↦ held_by_r p step ∷ [] | false ↦ [] ])
    lower true = sym (ranges_of_one (held_by_r p step))
    lower false = ranges_of_none
