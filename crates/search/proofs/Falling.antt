-- 01, module 7, 'Stop rules': "The last cannot apply at t = 1." A run that stops by it, of any problem, has two trials at least: the fp before its first
-- trial is the overshoot, which was not at most delta·0.1, and so is not negative. Assumes nothing.
use mathlib.Core.Path.{◌≡◌, refl, sym, ap, ◌∙◌}
use mathlib.Core.Bool.{Bool, true, false, cond, true≢false, ◌&&◌, and-eq-true_iff}
use mathlib.Core.Logic.{◌⊎◌, inl, inr}
use Prim.Native.Nat.{ℕ, suc, ◌+◌, ◌-◌, ◌*◌, ◌≤◌}
use native.Mathlib.Omega.{arith}
use lib.Dec.{ltb}
use lib.IntN.{ℤ, negsuc}
use lib.Ieee.{Float, nan, inf, fin, binary64, up, down, round, neg, sum, add, sub, mul, lt, le, eq}
use borrow.Author.Tests.{le-ltb}
use Rattle.leaves.specs.Number.{plus_zero, is_finite, is_negative}
use Rattle.leaves.proofs.Normed.{norm_not_negative}
use Rattle.search.specs.Problem.{Problem, undamped_step, scaled_norm}
use Rattle.search.specs.Bounds.{tenth, band}
use Rattle.search.specs.Run.{Run, Stop, undamped, ten, within, falling, Place, undamped_norm, lower_bound, gradient_norm, trial_lambda, trial_norm, correction, Next, is_falling, trials_from, run_of}
use Rattle.search.specs.Ending.{ending}
use Rattle.search.proofs.Signs.{Clear, not_below, above_sign, times_signed}
use Rattle.search.proofs.Sound.{tenth_is}
use Rattle.search.proofs.LmparSigns.{round_sign}
use Rattle.search.proofs.Runs.{fp_of, turn_cases, run_cases, each_counted, stop-same, no_stop, first}
use Rattle.search.specs.inner.Counting.{trial_count}

-- ---- the overshoot: of a norm that is not below zero, less a radius
-- a radius below zero is added
sum_sign : (s : Bool) (m k : ℕ) (e d : ℤ) → (s ≡ false) ⊎ (m ≡ 0) → is_negative (add binary64 (fin s m e) (fin false k d)) ≡ false
unfolding add sum
sum_sign s m k e d (inl h) = rw h (round_sign binary64 false (m * up e * down d + k * up d * down e) (down e * down d))
sum_sign false m k e d (inr h) = round_sign binary64 false (m * up e * down d + k * up d * down e) (down e * down d)
sum_sign true m k e d (inr h) =
    let a = m * up e * down d in
    let b = k * up d * down e in
    let z : a ≡ 0 = rw h (omega arith) in
    rw (le-ltb b a (omega arith)) (by a b (ltb a b))
  where
    by : (a b : ℕ) (z : Bool) → is_negative (cond z (round binary64 false (b - a) (down e * down d)) (round binary64 false (a - b) (down e * down d))) ≡ false
    by a b true = round_sign binary64 false (b - a) (down e * down d)
    by a b false = round_sign binary64 false (a - b) (down e * down d)

-- a radius from zero up has a tenth from zero up
past-band : (x : Float) (k : ℕ) (d : ℤ) → le x (band (fin false k d)) ≡ false → is_negative x ≡ false
unfolding band is_finite is_negative
past-band x k d h = above_sign x (mul binary64 (fin false k d) tenth) (rw tenth_is (times_signed (fin false k d) 3602879701896397 (negsuc 54) refl refl)) h

infinite_band : le (inf true) (band (inf false)) ≡ true
unfolding band mul le lt
infinite_band = rw tenth_is

overshoot_sign : (n radius : Float) → is_finite n ≡ true → Clear n → le (sub binary64 n radius) (band radius) ≡ false → is_negative (sub binary64 n radius) ≡ false
unfolding is_finite is_negative sub add neg
overshoot_sign nan radius f c h = absurd (true≢false (sym f))
overshoot_sign (inf s) radius f c h = absurd (true≢false (sym f))
overshoot_sign (fin s m e) nan f c h = refl
overshoot_sign (fin s m e) (inf true) f c h = refl
overshoot_sign (fin s m e) (inf false) f c h = absurd (true≢false (sym infinite_band ∙ h))
overshoot_sign (fin s m e) (fin true k d) f c h = sum_sign s m k e d c
overshoot_sign (fin s m e) (fin false k d) f c h = past-band _ k d h

-- ---- the trials
abbrev falls : Stop → Bool
falls undamped = false
falls ten = false
falls within = false
falls falling = true

not_falling : {X : Type 0} (x : Stop) → falls x ≡ false → ◌≡◌ {A = Stop ⊎ Place} (inl x) (inl falling) → X
not_falling x h e = absurd (true≢false (sym (ap falls (stop-same x falling e)) ∙ h))

later : (p : Problem) (k : ℕ) (s : Next) → is_negative s.fp ≡ false → ending (trials_from p (suc k) s) ≡ inl falling → 2 ≤ trial_count (trials_from p (suc k) s)
unfolding ending trial_count is_falling
later p k s n =
    turn_cases p s k (λ (r : Run). ending r ≡ inl falling → 2 ≤ trial_count r) (λ a e. no_stop trial_lambda falling e) (λ a b e. no_stop trial_norm falling e)
    (λ a b c e. not_falling within refl e)
    (λ a b c e. absurd (true≢false (sym ((and-eq-true_iff (eq s.lower plus_zero && le (fp_of p s) s.fp) (is_negative s.fp)).0 c).1 ∙ n)))
    (λ a b e. no_stop correction falling e)
    (λ a b e. let c = (each_counted p k _ falling e).0 in omega arith)

-- LAW
pub falling_not_first : (p : Problem) (initial : Float) → ending (run_of p initial) ≡ inl falling → 2 ≤ trial_count (run_of p initial)
unfolding ending
falling_not_first p initial =
    run_cases p initial (λ (r : Run). ending r ≡ inl falling → 2 ≤ trial_count r) (λ f e. no_stop undamped_norm falling e) (λ f w e. not_falling undamped refl e)
    (λ e. no_stop lower_bound falling e) (λ e. no_stop gradient_norm falling e)
    (λ f w l e. later p 8 (first p initial) (overshoot_sign (scaled_norm p (undamped_step p)) p.radius f (not_below _ (norm_not_negative _)) w) e)
