-- The numbers that a search goes by: its lower bound is finite and not below zero, so that every trial's lambda is above zero. Assumes nothing.
use mathlib.Core.Path.{◌≡◌, refl}
use mathlib.Core.Bool.{Bool, true, false, cond}
use mathlib.Core.List.{List}
use mathlib.Core.Logic.{inl}
use lib.ListN.{length}
use lib.IntN.{negsuc}
use lib.Ieee.{Float, fin, binary64, add, mul, div, lt, le, eq, round}
use Rattle.leaves.specs.Number.{plus_zero, dwarf, max_of, min_of, is_finite, is_negative}
use Rattle.leaves.proofs.Normed.{arms, norm_not_negative}
use Rattle.factor.specs.Solve.{non_singular_of}
use Rattle.search.specs.Problem.{Problem, scaled_norm, undamped_slope, newton}
use Rattle.search.specs.Bounds.{tenth, thousandth, band, lower_bound_of, gnorm, upper_bound, first_lambda, raised}
use Rattle.search.specs.Run.{Next, Trial, next}
use Rattle.search.proofs.Signs.{Clear, over_twice, over_clear, over_norm, not_below, not_at_most, above-clear, above_sign, max-clear, min-clear, min_sign, max-finite, max-above, max-dwarf, clear_above, times_signed}

pub tenth_is : tenth ≡ fin false 3602879701896397 (negsuc 54)
unfolding tenth round
tenth_is = refl

-- what a trial needs of what is handed to it
pub record Sound (s : Next) : Type 0 where
  pub lambda_clear : Clear s.lambda
  pub lower_clear : Clear s.lower
  pub lower_finite : is_finite s.lower ≡ true

-- LAW: a trial's lambda is above zero
pub trial_above : (s : Next) → Sound s → is_finite (raised s.lambda s.upper) ≡ true → lt plus_zero (raised s.lambda s.upper) ≡ true
unfolding raised
trial_above s h = by (eq s.lambda plus_zero) refl
  where
    by : (b : Bool) → eq s.lambda plus_zero ≡ b → (let l = cond b (max_of dwarf (mul binary64 s.upper thousandth)) s.lambda in is_finite l ≡ true → lt plus_zero l ≡ true)
    by true e f = max-dwarf (mul binary64 s.upper thousandth)
    by false e f = clear_above s.lambda f h.lambda_clear e

-- and it hands on what the next one needs
pub next_sound : (t : Trial) (fp c : Float) → Clear t.lower → is_finite t.lower ≡ true → is_finite t.lambda ≡ true → lt plus_zero t.lambda ≡ true → Sound (next t fp c)
unfolding next is_finite
next_sound t fp c p f g l =
    let q : Clear t.lambda = above-clear plus_zero t.lambda refl (inl refl) l in
    by (is_negative fp) q
  where
    by : (b : Bool) → Clear t.lambda → Sound (elim b [
      | true ↦ record { lambda = max_of t.lower (add binary64 t.lambda c); lower = t.lower; upper = min_of t.upper t.lambda; fp = fp }
      | false ↦ record { lambda = max_of (max_of t.lower t.lambda) (add binary64 t.lambda c); lower = max_of t.lower t.lambda; upper = t.upper; fp = fp }
    ])
    by true q = record { lambda_clear = max-above t.lower (add binary64 t.lambda c) f p; lower_clear = p; lower_finite = f }
    by false q =
        let m = max-clear t.lower t.lambda p q in
        let n = max-finite t.lower t.lambda f g in
        record { lambda_clear = max-above (max_of t.lower t.lambda) (add binary64 t.lambda c) n m; lower_clear = m; lower_finite = n }

module _ (p : Problem) (rf : is_finite p.radius ≡ true) (ra : le p.radius plus_zero ≡ false) where
  radius_sign : is_negative p.radius ≡ false
  radius_sign = above_sign p.radius plus_zero refl ra

  newton-clear : (fp slope : Float) → Clear fp → Clear (newton fp p.radius slope)
  unfolding newton
  newton-clear fp slope h = over_twice false (div binary64 fp p.radius) slope (over_clear fp p.radius radius_sign h)

  -- where the undamped step is not taken
  fp_clear : (fp : Float) → le fp (band p.radius) ≡ false → Clear fp
  unfolding band
  fp_clear fp h =
      not_at_most fp (mul binary64 p.radius tenth) (rw tenth_is (times_signed p.radius 3602879701896397 (negsuc 54) rf radius_sign)) h

  lower_not_below : (step : List Float) (fp : Float) → Clear fp → Clear (lower_bound_of p step fp)
  unfolding lower_bound_of
  lower_not_below step fp h = arms Clear (non_singular_of p.m (length p.upper) p.upper) {x = newton fp p.radius (undamped_slope p step)} {y = plus_zero} (newton-clear fp _ h) (inl refl)

  gnorm-clear : Clear (gnorm p)
  unfolding gnorm
  gnorm-clear = not_below (gnorm p) (norm_not_negative _)

  tenth_sign : is_negative tenth ≡ false
  unfolding is_negative
  tenth_sign = rw tenth_is

  dwarf-clear : Clear dwarf
  unfolding dwarf
  dwarf-clear = inl refl

  upper-clear : (g : Float) → Clear g → Clear (upper_bound g p.radius)
  unfolding upper_bound
  upper-clear g h =
      arms Clear (eq (div binary64 g p.radius) plus_zero) {x = div binary64 dwarf (min_of p.radius tenth)} {y = div binary64 g p.radius}
      (over_clear dwarf (min_of p.radius tenth) (min_sign p.radius tenth radius_sign tenth_sign) dwarf-clear) (over_clear g p.radius radius_sign h)

  first_clear : (initial lower upper g n : Float) → Clear initial → Clear lower → Clear upper → Clear g → Clear n → Clear (first_lambda initial lower upper g n)
  unfolding first_lambda
  first_clear initial lower upper g n hi hl hu hg hn =
      let l = min_of (max_of initial lower) upper in
      arms Clear (eq l plus_zero) {x = div binary64 g n} {y = l} (over_norm g n hg hn) (min-clear (max_of initial lower) upper (max-clear initial lower hi hl) hu)

  -- LAW: what the first trial is handed
  pub first_sound : (initial : Float) (step : List Float) (fp : Float) → lt initial plus_zero ≡ false → le fp (band p.radius) ≡ false → is_finite (lower_bound_of p step fp) ≡ true
      → (let lower = lower_bound_of p step fp in
      let g = gnorm p in
      let upper = upper_bound g p.radius in
      Sound (record { lambda = first_lambda initial lower upper g (scaled_norm p step); lower = lower; upper = upper; fp = fp }))
  first_sound initial step fp hi h f =
      let l = lower_not_below step fp (fp_clear fp h) in
      let n : Clear (scaled_norm p step) = not_below (scaled_norm p step) (norm_not_negative _) in
      record {
        lambda_clear = first_clear initial (lower_bound_of p step fp) (upper_bound (gnorm p) p.radius) (gnorm p) (scaled_norm p step) (not_below initial hi) l (upper-clear (gnorm p) gnorm-clear) gnorm-clear n;
        lower_clear = l;
        lower_finite = f;
      }
