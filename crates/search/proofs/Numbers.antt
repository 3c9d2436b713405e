-- The numbers that a search goes by, each by its test. Assumes nothing.
use mathlib.Core.Path.{◌≡◌}
use mathlib.Core.Bool.{true, false}
use lib.Ieee.{Float, binary64, add, mul, div, eq, of_bits}
use Rattle.leaves.specs.Number.{dwarf, max_of, min_of, is_negative}
use Rattle.search.specs.Bounds.{upper_bound, raised}
use Rattle.search.specs.Run.{Next, Trial, next}
use Rattle.search.proofs.Constants.{tenth_is, thousandth_is, zero_is}

pub upper-zero : (g radius : Float) {d : Float} → d ≡ dwarf → eq (div binary64 g radius) (of_bits binary64 0) ≡ true
    → div binary64 d (min_of radius (of_bits binary64 0x3FB999999999999A)) ≡ upper_bound g radius
unfolding upper_bound
upper-zero g radius e h = rw (e, tenth_is) (rw (rw zero_is at h))

pub upper_else : (g radius : Float) → eq (div binary64 g radius) (of_bits binary64 0) ≡ false → div binary64 g radius ≡ upper_bound g radius
unfolding upper_bound
upper_else g radius h = rw (rw zero_is at h)

pub raised-zero : (lambda upper : Float) {d : Float} → d ≡ dwarf → eq lambda (of_bits binary64 0) ≡ true
    → max_of d (mul binary64 upper (of_bits binary64 0x3F50624DD2F1A9FC)) ≡ raised lambda upper
unfolding raised
raised-zero lambda upper e h = rw (e, thousandth_is) (rw (rw zero_is at h))

module _ (t : Trial) (fp c : Float) where
  pub next_falls : is_negative fp ≡ true
      → ◌≡◌ {A = Next} (record { lambda = max_of t.lower (add binary64 t.lambda c); lower = t.lower; upper = min_of t.upper t.lambda; fp = fp }) (next t fp c)
  unfolding next
  next_falls h = rw (h, next)

  pub next_rises : {l : Float} → l ≡ max_of t.lower t.lambda → is_negative fp ≡ false
      → ◌≡◌ {A = Next} (record { lambda = max_of l (add binary64 t.lambda c); lower = l; upper = t.upper; fp = fp }) (next t fp c)
  unfolding next
  next_rises e h = rw e (rw (h, next))
