-- One trial of a run, at each place where it may end: what the answer that is read off the run then is, and what the rest of the run measures. Assumes
-- nothing.
use mathlib.Core.Path.{◌≡◌, refl, sym, ap, ◌∙◌}
use mathlib.Core.Bool.{Bool, true, false}
use mathlib.Core.List.{List, [], ◌∷◌, ◌++◌}
use Prim.Native.Nat.{ℕ, zero, suc, ◌+◌}
use native.Mathlib.Numerals.{add-one}
use lib.Ieee.{Float, binary64, add, sub, le}
use Rattle.leaves.specs.Reply.{Reply, answered, refused}
use Rattle.leaves.specs.Number.{is_finite, is_negative, abs_of, max_of, min_of}
use Rattle.search.specs.Problem.{Problem, damped_step, scaled_step, scaled_norm, damped_slope, newton}
use Rattle.search.specs.Bounds.{band, raised}
use Rattle.search.specs.Run as run
use Rattle.search.specs.Run.{Run, Stop, stopped, last, trial, ten, within, falling, trial_lambda, trial_norm, correction, Next, Trial, next, trial_of, is_within, is_falling, trials_from}
use Rattle.search.specs.Measured.{held_by_l, unless_stopped, measured_trials}
use Rattle.search.specs.Search.{Answer, answer, concluded}

-- a trial before the tenth, by its five tests
abbrev pub tested : Trial → Float → Run → Bool → Bool → Bool → Bool → Bool → Run
tested u fp rest a b c d e = elim a [
  | false ↦ run.refused trial_lambda
  | true ↦ elim b [
    | false ↦ last u (run.refused trial_norm)
    | true ↦ trial u fp (elim c [
      | true ↦ stopped within
      | false ↦ elim d [ true ↦ stopped falling | false ↦ elim e [ true ↦ rest | false ↦ run.refused correction ] ]
    ])
  ]
]

by_tests : (u : Trial) (fp : Float) (rest : Run) {a b c d e : Bool} → a ≡ true → b ≡ true → c ≡ false → d ≡ false → e ≡ true → tested u fp rest a b c d e ≡ trial u fp rest
by_tests u fp rest ha hb hc hd he = rw (ha, hb, hc, hd, he)

by_within : (u : Trial) (fp : Float) (rest : Run) {a b c : Bool} (d e : Bool) → a ≡ true → b ≡ true → c ≡ true → tested u fp rest a b c d e ≡ trial u fp (stopped within)
by_within u fp rest d e ha hb hc = rw (ha, hb, hc)

by_falling : (u : Trial) (fp : Float) (rest : Run) {a b c d : Bool} (e : Bool) → a ≡ true → b ≡ true → c ≡ false → d ≡ true → tested u fp rest a b c d e ≡ trial u fp (stopped falling)
by_falling u fp rest e ha hb hc hd = rw (ha, hb, hc, hd)

by_ten : (u : Trial) {a b : Bool} → a ≡ true → b ≡ true
    → elim a [ true ↦ last u (elim b [ true ↦ stopped ten | false ↦ run.refused trial_norm ]) | false ↦ run.refused trial_lambda ] ≡ last u (stopped ten)
by_ten u ha hb = rw (ha, hb)

-- fp and the correction after a trial
module _ (p : Problem) (s : Next) where
  abbrev fp_after : Float
  fp_after = sub binary64 (trial_of p s).norm p.radius

  abbrev correction_after : Float
  correction_after = newton fp_after p.radius (damped_slope p (trial_of p s).lambda (trial_of p s).step)

-- ---- a run of trials does not begin with its stop
tested_unless : (u : Trial) (fp : Float) (rest : Run) (vs : List (List Float)) (a b c d e : Bool) → unless_stopped (tested u fp rest a b c d e) vs ≡ vs
unfolding unless_stopped
tested_unless u fp rest vs false b c d e = refl
tested_unless u fp rest vs true false c d e = refl
tested_unless u fp rest vs true true c d e = refl

ten_unless : (u : Trial) (rest : Run) (vs : List (List Float)) (a : Bool) → unless_stopped (elim a [ true ↦ last u rest | false ↦ run.refused trial_lambda ]) vs ≡ vs
unfolding unless_stopped
ten_unless u rest vs true = refl
ten_unless u rest vs false = refl

pub trials_unless : (p : Problem) (k : ℕ) (s : Next) (vs : List (List Float)) → unless_stopped (trials_from p k s) vs ≡ vs
unfolding trials_from
trials_unless p zero s vs = ten_unless _ _ vs (is_finite (trial_of p s).lambda)
trials_unless p (suc k) s vs =
    let u = trial_of p s in
    let fp = fp_after p s in
    let c = correction_after p s in
    tested_unless u fp (trials_from p k (next u fp c)) vs (is_finite u.lambda) (is_finite u.norm) (is_within p fp) (is_falling s fp) (is_finite c)

module _ (p : Problem) (s : Next) (t : ℕ) (a : Answer) where
  abbrev from : ℕ → Reply Answer
  from k = concluded t a (trials_from p k s)

  -- the trial's lambda, its step, the scaled norm
  pub record Tried (lambda : Float) (step : List Float) (norm : Float) : Type 0 where
    pub lambda_is : lambda ≡ raised s.lambda s.upper
    pub step_is : step ≡ damped_step p lambda
    pub norm_is : norm ≡ scaled_norm p step

  abbrev pub mine : Float → List Float → Float → Trial
  mine lambda step norm = record { lambda = lambda; step = step; norm = norm; lower = s.lower; upper = s.upper }

  abbrev pub told : Float → List Float → Float → Answer
  told lambda step norm = answer lambda norm (suc t) step

  -- a trial that its stop follows: it is what is answered, and its scaled step is the last vector that is measured
  abbrev Stopped : ℕ → Float → List Float → Float → Type 0
  Stopped k lambda step norm = (from k ≡ answered (told lambda step norm)) × (measured_trials p (trials_from p k s) ≡ scaled_step p step ∷ [])

  last_stopped : (k : ℕ) (lambda : Float) (step : List Float) (norm : Float) (x : Stop) → trials_from p k s ≡ last (mine lambda step norm) (stopped x) → Stopped k lambda step norm
  unfolding concluded measured_trials
  last_stopped k lambda step norm x e = (ap (concluded t a) e, ap (measured_trials p) e)

  trial_stopped : (k : ℕ) (lambda : Float) (step : List Float) (norm fp : Float) (x : Stop) → trials_from p k s ≡ trial (mine lambda step norm) fp (stopped x) → Stopped k lambda step norm
  unfolding concluded measured_trials unless_stopped
  trial_stopped k lambda step norm fp x e = (ap (concluded t a) e, ap (measured_trials p) e)

  trial_is : {lambda : Float} {step : List Float} {norm : Float} → Tried lambda step norm → trial_of p s ≡ mine lambda step norm
  unfolding trial_of
  trial_is h = rw (h.norm_is, h.step_is, h.lambda_is)

  -- ---- refused 8
  pub at_lambda : (k : ℕ) {lambda : Float} → lambda ≡ raised s.lambda s.upper → is_finite lambda ≡ false → from k ≡ refused 8
  unfolding trials_from concluded trial_of
  at_lambda zero e h = rw (rw e at h, concluded)
  at_lambda (suc k) e h = rw (rw e at h, concluded)

  module _ {lambda : Float} {step : List Float} {norm : Float} (h : Tried lambda step norm) (f : is_finite lambda ≡ true) where
    abbrev lambda_finite : is_finite (trial_of p s).lambda ≡ true
    lambda_finite = rw (trial_is h) f

    pub at_norm : (k : ℕ) → is_finite norm ≡ false → from k ≡ refused 8
    unfolding trials_from concluded
    at_norm zero n = let g : is_finite (trial_of p s).norm ≡ false = rw (trial_is h) n in rw (lambda_finite, g, concluded)
    at_norm (suc k) n = let g : is_finite (trial_of p s).norm ≡ false = rw (trial_is h) n in rw (lambda_finite, g, concluded)

    module _ (n : is_finite norm ≡ true) where
      abbrev norm_finite : is_finite (trial_of p s).norm ≡ true
      norm_finite = rw (trial_is h) n

      -- ---- trial ten
      pub at_ten : Stopped 0 lambda step norm
      unfolding trials_from
      at_ten = last_stopped 0 lambda step norm ten (by_ten (trial_of p s) lambda_finite norm_finite ∙ ap (λ (u : Trial). last u (stopped ten)) (trial_is h))

      -- ---- before trial ten
      module _ (k : ℕ) {fp : Float} (e : fp ≡ sub binary64 norm p.radius) where
        abbrev fp_is : fp_after p s ≡ fp
        fp_is = rw (trial_is h) (sym e)

        abbrev after : Run
        after = trials_from p k (next (trial_of p s) (fp_after p s) (correction_after p s))

        pub at_within : le (abs_of fp) (band p.radius) ≡ true → Stopped (suc k) lambda step norm
        unfolding trials_from is_within
        at_within w =
            let w' : le (abs_of (fp_after p s)) (band p.radius) ≡ true = rw fp_is w in
            trial_stopped (suc k) lambda step norm (fp_after p s) within
            (by_within (trial_of p s) (fp_after p s) after (is_falling s (fp_after p s)) (is_finite (correction_after p s)) lambda_finite norm_finite w'
            ∙ ap (λ (u : Trial). trial u (fp_after p s) (stopped within)) (trial_is h))

        module _ (w : le (abs_of fp) (band p.radius) ≡ false) where
          abbrev outside : le (abs_of (fp_after p s)) (band p.radius) ≡ false
          outside = rw fp_is w

          pub at_falling : is_falling s fp ≡ true → Stopped (suc k) lambda step norm
          unfolding trials_from is_within
          at_falling l =
              let l' : is_falling s (fp_after p s) ≡ true = rw fp_is l in
              trial_stopped (suc k) lambda step norm (fp_after p s) falling
              (by_falling (trial_of p s) (fp_after p s) after (is_finite (correction_after p s)) lambda_finite norm_finite outside l'
              ∙ ap (λ (u : Trial). trial u (fp_after p s) (stopped falling)) (trial_is h))

          module _ (l : is_falling s fp ≡ false) {c : Float} (q : c ≡ newton fp p.radius (damped_slope p lambda step)) where
            abbrev not_falling : is_falling s (fp_after p s) ≡ false
            not_falling = rw fp_is l

            abbrev correction_is : correction_after p s ≡ c
            correction_is = rw (fp_is, trial_is h) (sym q)

            pub at_correction : is_finite c ≡ false → from (suc k) ≡ refused 8
            unfolding trials_from concluded is_within
            at_correction g =
                let g' : is_finite (correction_after p s) ≡ false = rw correction_is g in
                rw (lambda_finite, norm_finite, outside, not_falling, g', concluded)

            turned : is_finite (correction_after p s) ≡ true → trials_from p (suc k) s ≡ trial (trial_of p s) (fp_after p s) after
            unfolding trials_from is_within
            turned g = by_tests _ _ _ lambda_finite norm_finite outside not_falling g

            abbrev rest : Run
            rest = trials_from p k (next (mine lambda step norm) fp c)

            run_on : is_finite c ≡ true → trials_from p (suc k) s ≡ trial (mine lambda step norm) fp rest
            run_on g =
                let g' : is_finite (correction_after p s) ≡ true = rw correction_is g in
                turned g' ∙ rw (correction_is, fp_is, trial_is h)

            pub goes_on : is_finite c ≡ true
                → (from (suc k) ≡ concluded (suc t) (told lambda step norm) rest)
                × (measured_trials p (trials_from p (suc k) s) ≡ scaled_step p step ∷ (held_by_l p lambda step ∷ measured_trials p rest))
            unfolding concluded measured_trials
            goes_on g = (
              ap (concluded t a) (run_on g),
              ap (measured_trials p) (run_on g) ∙ ap (λ (vs : List (List Float)). scaled_step p step ∷ (vs ++ measured_trials p rest)) (trials_unless p k _ (held_by_l p lambda step ∷ [])),
            )

-- ---- a run that makes a trial is not read before it
module _ (t : ℕ) (a b : Answer) where
  tested-any : (u : Trial) (fp : Float) (rest : Run) (v w x y z : Bool) → concluded t a (tested u fp rest v w x y z) ≡ concluded t b (tested u fp rest v w x y z)
  unfolding concluded
  tested-any u fp rest false w x y z = refl
  tested-any u fp rest true false x y z = refl
  tested-any u fp rest true true x y z = refl

  ten_any : (u : Trial) (rest : Run) (v : Bool) → concluded t a (elim v [ true ↦ last u rest | false ↦ run.refused trial_lambda ]) ≡ concluded t b (elim v [ true ↦ last u rest | false ↦ run.refused trial_lambda ])
  unfolding concluded
  ten_any u rest true = refl
  ten_any u rest false = refl

  pub any_answer : (p : Problem) (k : ℕ) (s : Next) → concluded t a (trials_from p k s) ≡ concluded t b (trials_from p k s)
  unfolding trials_from
  any_answer p zero s = ten_any _ _ (is_finite (trial_of p s).lambda)
  any_answer p (suc k) s =
      let u = trial_of p s in
      let fp = fp_after p s in
      let c = correction_after p s in
      tested-any u fp (trials_from p k (next u fp c)) (is_finite u.lambda) (is_finite u.norm) (is_within p fp) (is_falling s fp) (is_finite c)

-- ---- the next turn, whose answer is read anew
pub again : (p : Problem) (t k : ℕ) (s r : Next) (u w : Trial) (fp c : Float) (a b : Answer) {whole : Reply Answer} → concluded t b (trials_from p (suc k) s) ≡ whole
    → concluded t b (trials_from p (suc k) s) ≡ concluded (suc t) a (trials_from p k (next u fp c)) → next u fp c ≡ next w fp c → r ≡ next w fp c
    → concluded (t + 1) b (trials_from p k r) ≡ whole
again p t k s r u w fp c a b h on e f =
    rw (add-one, f) (any_answer (suc t) b a p k (next w fp c) ∙ ap (λ (x : Next). concluded (suc t) a (trials_from p k x)) (sym e) ∙ sym on ∙ h)

-- `next` reads lambda and bounds of a trial
pub next_same : (u w : Trial) (fp c : Float) → u.lambda ≡ w.lambda → u.lower ≡ w.lower → u.upper ≡ w.upper → next u fp c ≡ next w fp c
unfolding next
next_same u w fp c a b d = by (is_negative fp)
  where
    by : (z : Bool) → ◌≡◌ {A = Next} (elim z [
      | true ↦ record { lambda = max_of u.lower (add binary64 u.lambda c); lower = u.lower; upper = min_of u.upper u.lambda; fp = fp }
      | false ↦ record { lambda = max_of (max_of u.lower u.lambda) (add binary64 u.lambda c); lower = max_of u.lower u.lambda; upper = u.upper; fp = fp }
    ]) (elim z [
      | true ↦ record { lambda = max_of w.lower (add binary64 w.lambda c); lower = w.lower; upper = min_of w.upper w.lambda; fp = fp }
      | false ↦ record { lambda = max_of (max_of w.lower w.lambda) (add binary64 w.lambda c); lower = max_of w.lower w.lambda; upper = w.upper; fp = fp }
    ])
    by true = rw (a, b, d)
    by false = rw (a, b, d)
