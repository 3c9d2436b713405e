-- A whole run of the search: what is so of each of its trials, how many there are for each stop rule, and what an answer read off it is.
-- Assumes nothing.
use mathlib.Core.Path.{◌≡◌, refl, sym, ap, ◌∙◌, subst}
use mathlib.Core.Bool.{Bool, true, false, true≢false, ◌&&◌, and-eq-true_iff}
use mathlib.Core.Logic.{◌⊎◌, inl, inr}
use Prim.Native.Nat.{ℕ, zero, suc, ◌≤◌}
use native.Mathlib.Omega.{arith}
use lib.Ieee.{Float, binary64, add, sub, lt, le, eq}
use Rattle.leaves.specs.Number.{plus_zero, is_finite, is_negative, max_of, min_of}
use Rattle.search.specs.Problem.{Problem, undamped_step, damped_step, scaled_norm, damped_slope, newton}
use Rattle.search.specs.Bounds.{band, lower_bound_of, gnorm, upper_bound, first_lambda}
use Rattle.search.specs.Run.{Run, stopped, last, trial, Stop, undamped, ten, within, falling, Place, undamped_norm, lower_bound, gradient_norm, trial_lambda, trial_norm, correction, Next, Trial, next, trial_of, is_within, is_falling, trials_from, run_of}
use Rattle.search.specs.Run as run
use Rattle.search.specs.Ending.{ending, Ruled, RuledFrom}
use Rattle.search.proofs.Sound.{Sound, trial_above, next_sound}
use Rattle.search.specs.inner.Counting.{trial_count}

-- ---- a run by its tests
module _ (p : Problem) (s : Next) where
  abbrev pub this : Trial
  this = trial_of p s

  abbrev pub fp_of : Float
  fp_of = sub binary64 this.norm p.radius

  abbrev pub corrected : Float
  corrected = newton fp_of p.radius (damped_slope p this.lambda this.step)

  last_cases : (P : Run → Type 0) → (is_finite this.lambda ≡ false → P (run.refused trial_lambda))
      → (is_finite this.lambda ≡ true → is_finite this.norm ≡ false → P (last this (run.refused trial_norm)))
      → (is_finite this.lambda ≡ true → is_finite this.norm ≡ true → P (last this (stopped ten))) → P (trials_from p 0 s)
  unfolding trials_from
  last_cases P a b c = by (is_finite this.lambda) refl (is_finite this.norm) refl
    where
      by : (x : Bool) → is_finite this.lambda ≡ x → (y : Bool) → is_finite this.norm ≡ y
          → P (elim x [ true ↦ last this (elim y [ true ↦ stopped ten | false ↦ run.refused trial_norm ]) | false ↦ run.refused trial_lambda ])
      by false e y f = a e
      by true e false f = b e f
      by true e true f = c e f

  pub turn_cases : (k : ℕ) (P : Run → Type 0) → (is_finite this.lambda ≡ false → P (run.refused trial_lambda))
      → (is_finite this.lambda ≡ true → is_finite this.norm ≡ false → P (last this (run.refused trial_norm)))
      → (is_finite this.lambda ≡ true → is_finite this.norm ≡ true → is_within p fp_of ≡ true → P (trial this fp_of (stopped within)))
      → (is_finite this.lambda ≡ true → is_finite this.norm ≡ true → is_falling s fp_of ≡ true → P (trial this fp_of (stopped falling)))
      → (is_finite this.lambda ≡ true → is_finite this.norm ≡ true → P (trial this fp_of (run.refused correction)))
      → (is_finite this.lambda ≡ true → is_finite this.norm ≡ true → P (trial this fp_of (trials_from p k (next this fp_of corrected)))) → P (trials_from p (suc k) s)
  unfolding trials_from
  turn_cases k P a b c d g h = by (is_finite this.lambda) refl (is_finite this.norm) refl (is_within p fp_of) refl (is_falling s fp_of) refl (is_finite corrected)
    where
      rest : Run
      rest = trials_from p k (next this fp_of corrected)

      by : (x : Bool) → is_finite this.lambda ≡ x → (y : Bool) → is_finite this.norm ≡ y → (z : Bool) → is_within p fp_of ≡ z → (v : Bool) → is_falling s fp_of ≡ v → (w : Bool)
          → P (elim x [
            | false ↦ run.refused trial_lambda
            | true ↦ elim y [
              | false ↦ last this (run.refused trial_norm)
              | true ↦ trial this fp_of (elim z [
                | true ↦ stopped within
                | false ↦ elim v [ true ↦ stopped falling | false ↦ elim w [ true ↦ rest | false ↦ run.refused correction ] ]
              ])
            ]
          ])
      by false e y f z i v j w = a e
      by true e false f z i v j w = b e f
      by true e true f true i v j w = c e f i
      by true e true f false i true j w = d e f j
      by true e true f false i false j true = h e f
      by true e true f false i false j false = g e f

module _ (p : Problem) (initial : Float) where
  abbrev pub undamped_fp : Float
  undamped_fp = sub binary64 (scaled_norm p (undamped_step p)) p.radius

  abbrev pub lower : Float
  lower = lower_bound_of p (undamped_step p) undamped_fp

  abbrev pub first : Next
  first =
      let upper = upper_bound (gnorm p) p.radius in
      record { lambda = first_lambda initial lower upper (gnorm p) (scaled_norm p (undamped_step p)); lower = lower; upper = upper; fp = undamped_fp }

  pub run_cases : (P : Run → Type 0) → (is_finite (scaled_norm p (undamped_step p)) ≡ false → P (run.refused undamped_norm))
      → (is_finite (scaled_norm p (undamped_step p)) ≡ true → le undamped_fp (band p.radius) ≡ true → P (stopped undamped))
      → P (run.refused lower_bound) → P (run.refused gradient_norm)
      → (is_finite (scaled_norm p (undamped_step p)) ≡ true → le undamped_fp (band p.radius) ≡ false → is_finite lower ≡ true → P (trials_from p 9 first)) → P (run_of p initial)
  unfolding run_of
  run_cases P a b c d h = by (is_finite (scaled_norm p (undamped_step p))) refl (le undamped_fp (band p.radius)) refl (is_finite lower) refl (is_finite (gnorm p))
    where
      rest : Run
      rest = trials_from p 9 first

      by : (x : Bool) → is_finite (scaled_norm p (undamped_step p)) ≡ x → (y : Bool) → le undamped_fp (band p.radius) ≡ y → (z : Bool) → is_finite lower ≡ z → (w : Bool)
          → P (elim x [
            | false ↦ run.refused undamped_norm
            | true ↦ elim y [
              | true ↦ stopped undamped
              | false ↦ elim z [ true ↦ elim w [ true ↦ rest | false ↦ run.refused gradient_norm ] | false ↦ run.refused lower_bound ]
            ]
          ])
      by false e y f z g w = a e
      by true e true f z g w = b e f
      by true e false f false g w = c
      by true e false f true g false = d
      by true e false f true g true = h e f g

-- ---- each trial of a run, with what follows it
abbrev pub EachTrial : (Trial → Run → Type 0) → Run → Type 0
EachTrial P (stopped s) = Unit {0}
EachTrial P (run.refused q) = Unit {0}
EachTrial P (last t r) = P t r × EachTrial P r
EachTrial P (trial t fp r) = P t r × EachTrial P r

-- a trial of a problem: lambda finite and above zero, its step and scaled norm; the norm finite unless it is refused for it; and within the band where it stops by that
pub record Good (p : Problem) (t : Trial) (rest : Run) : Type 0 where
  pub lambda_finite : is_finite t.lambda ≡ true
  pub lambda_above : lt plus_zero t.lambda ≡ true
  pub step_is : t.step ≡ damped_step p t.lambda
  pub norm_is : t.norm ≡ scaled_norm p t.step
  pub norm_finite : (x : Stop) → ending rest ≡ inl x → is_finite t.norm ≡ true
  pub by_within : rest ≡ stopped within → is_within p (sub binary64 t.norm p.radius) ≡ true

-- how a run begins: by which stop rule, 4 where it is none
abbrev head : Run → ℕ
head (stopped undamped) = 0
head (stopped ten) = 1
head (stopped within) = 2
head (stopped falling) = 3
head (run.refused q) = 4
head (last t r) = 4
head (trial t fp r) = 4

trials_head : (p : Problem) (k : ℕ) (s : Next) → head (trials_from p k s) ≡ 4
trials_head p zero s = last_cases p s (λ (r : Run). head r ≡ 4) (λ a. refl) (λ a b. refl) (λ a b. refl)
trials_head p (suc k) s = turn_cases p s k (λ (r : Run). head r ≡ 4) (λ a. refl) (λ a b. refl) (λ a b c. refl) (λ a b c. refl) (λ a b. refl) (λ a b. refl)

-- a run of trials does not stop before its first
pub some_trial : {X : Type 0} (p : Problem) (k : ℕ) (s : Next) (x : Stop) → trials_from p k s ≡ stopped x → X
some_trial p k s x e = absurd (by x (ap head (sym e) ∙ trials_head p k s))
  where
    by : (y : Stop) → head (stopped y) ≡ 4 → ⊥
    by undamped h = omega arith
    by ten h = omega arith
    by within h = omega arith
    by falling h = omega arith

other_rule : {X : Type 0} (r : Run) (x : Stop) → r ≡ stopped x → (head r ≡ head (stopped x) → ⊥) → X
other_rule r x e h = absurd (h (ap head e))

pub no_stop : {X : Type 0} (q : Place) (x : Stop) → ◌≡◌ {A = Stop ⊎ Place} (inr q) (inl x) → X
no_stop q x e = absurd (true≢false (sym (ap stops e)))
  where
    stops : Stop ⊎ Place → Bool
    stops (inl x) = true
    stops (inr q) = false

good : (p : Problem) (s : Next) (rest : Run) → Sound s → is_finite (trial_of p s).lambda ≡ true → ((x : Stop) → ending rest ≡ inl x → is_finite (trial_of p s).norm ≡ true)
    → (rest ≡ stopped within → is_within p (fp_of p s) ≡ true) → Good p (trial_of p s) rest
unfolding trial_of
good p s rest h f n w = record { lambda_finite = f; lambda_above = trial_above s h f; step_is = refl; norm_is = refl; norm_finite = n; by_within = w }

sound_after : (p : Problem) (s : Next) → Sound s → is_finite (this p s).lambda ≡ true → Sound (next (this p s) (fp_of p s) (corrected p s))
unfolding trial_of
sound_after p s h a = next_sound (this p s) (fp_of p s) (corrected p s) h.lower_clear h.lower_finite a (trial_above s h a)

-- LAW: each trial of a run is one, answered or not
pub each_good : (p : Problem) (k : ℕ) (s : Next) → Sound s → EachTrial (Good p) (trials_from p k s)
unfolding ending
each_good p zero s h =
    last_cases p s (EachTrial (Good p)) (λ a. tt)
    (λ a b. (good p s _ h a (λ x e. no_stop trial_norm x e) (λ e. other_rule _ within e (λ z. omega arith)), tt))
    (λ a b. (good p s _ h a (λ x e. b) (λ e. other_rule _ within e (λ z. omega arith)), tt))
each_good p (suc k) s h =
    turn_cases p s k (EachTrial (Good p)) (λ a. tt)
    (λ a b. (good p s _ h a (λ x e. no_stop trial_norm x e) (λ e. other_rule _ within e (λ z. omega arith)), tt))
    (λ a b c. (good p s _ h a (λ x e. b) (λ e. c), tt))
    (λ a b c. (good p s _ h a (λ x e. b) (λ e. other_rule _ within e (λ z. omega arith)), tt))
    (λ a b. (good p s _ h a (λ x e. b) (λ e. other_rule _ within e (λ z. omega arith)), tt))
    (λ a b.
    let n = next (this p s) (fp_of p s) (corrected p s) in
    let z = trials_head p k n in (
      good p s _ h a (λ x e. b) (λ e. other_rule _ within e (λ y. omega arith)),
      each_good p k n (sound_after p s h a),
    ))

-- how many trials there are for each rule, where k more may follow the first
abbrev pub Counted : ℕ → ℕ → Stop → Type 0
Counted k c undamped = ⊥
Counted k c ten = c ≡ suc k
Counted k c within = (1 ≤ c) × (c ≤ k)
Counted k c falling = (1 ≤ c) × (c ≤ k)

-- one more before them
one_more : (k c : ℕ) (x : Stop) → Counted k c x → Counted (suc k) (suc c) x
one_more k c undamped h = h
one_more k c ten h = ap suc h
one_more k c within h = (omega arith, omega (arith, h.1))
one_more k c falling h = (omega arith, omega (arith, h.1))

pub stop-same : (x y : Stop) → ◌≡◌ {A = Stop ⊎ Place} (inl x) (inl y) → x ≡ y
stop-same x y e = cc

-- LAW
pub each_counted : (p : Problem) (k : ℕ) (s : Next) (x : Stop) → ending (trials_from p k s) ≡ inl x → Counted k (trial_count (trials_from p k s)) x
unfolding ending trial_count
each_counted p zero s x =
    last_cases p s (λ (r : Run). ending r ≡ inl x → Counted 0 (trial_count r) x) (λ a e. no_stop trial_lambda x e) (λ a b e. no_stop trial_norm x e)
    (λ a b e. subst (λ (y : Stop). Counted 0 1 y) (stop-same ten x e) refl)
each_counted p (suc k) s x =
    turn_cases p s k (λ (r : Run). ending r ≡ inl x → Counted (suc k) (trial_count r) x) (λ a e. no_stop trial_lambda x e) (λ a b e. no_stop trial_norm x e)
    (λ a b c e. subst (λ (y : Stop). Counted (suc k) 1 y) (stop-same within x e) (omega arith, omega arith))
    (λ a b c e. subst (λ (y : Stop). Counted (suc k) 1 y) (stop-same falling x e) (omega arith, omega arith))
    (λ a b e. no_stop correction x e)
    (λ a b e. one_more k _ x (each_counted p k _ x e))

later_ruled : (p : Problem) (t : Trial) (fp previous : Float) (r : Run) → RuledFrom p fp r → Ruled p t fp previous r
later_ruled p t fp previous (stopped x) h = absurd h
later_ruled p t fp previous (run.refused q) h = tt
later_ruled p t fp previous (last u r) h = tt
later_ruled p t fp previous (trial u f r) h = h

fp_handed : (t : Trial) (fp c : Float) → (next t fp c).fp ≡ fp
unfolding next
fp_handed t fp c = by (is_negative fp)
  where
    by : (b : Bool) → (let n : Next = elim b [
      | true ↦ record { lambda = max_of t.lower (add binary64 t.lambda c); lower = t.lower; upper = min_of t.upper t.lambda; fp = fp }
      | false ↦ record { lambda = max_of (max_of t.lower t.lambda) (add binary64 t.lambda c); lower = max_of t.lower t.lambda; upper = t.upper; fp = fp }
    ] in n.fp ≡ fp)
    by true = refl
    by false = refl

-- LAW: a run stops only where its rule holds
pub each_ruled : (p : Problem) (k : ℕ) (s : Next) → RuledFrom p s.fp (trials_from p k s)
unfolding is_within is_falling trial_of
each_ruled p zero s = last_cases p s (RuledFrom p s.fp) (λ a. tt) (λ a b. tt) (λ a b. tt)
each_ruled p (suc k) s =
    turn_cases p s k (RuledFrom p s.fp) (λ a. tt) (λ a b. tt) (λ a b c. c)
    (λ a b c.
    let x = (and-eq-true_iff (eq s.lower plus_zero && le (fp_of p s) s.fp) (is_negative s.fp)).0 c in
    let y = (and-eq-true_iff (eq s.lower plus_zero) (le (fp_of p s) s.fp)).0 x.0 in
    (y.0, (y.1, x.1)))
    (λ a b. tt)
    (λ a b.
    let n = next (this p s) (fp_of p s) (corrected p s) in
    later_ruled p (this p s) (fp_of p s) s.fp (trials_from p k n)
    (subst (λ (f : Float). RuledFrom p f (trials_from p k n)) (fp_handed (this p s) (fp_of p s) (corrected p s)) (each_ruled p k n)))
