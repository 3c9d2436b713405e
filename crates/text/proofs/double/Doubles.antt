-- What the tests of `double` say of a number and of a pattern. Assumes nothing.
use Prim.Native.Nat.{ℕ, ◌%◌, ◌<◌, ◌≤◌}
use mathlib.Core.Path.{◌≡◌, refl, sym, ◌∙◌, subst}
use mathlib.Core.Bool.{Bool, true, false, not, true≢false}
use borrow.Author.Tests.{lt-ltb, le-ltb}
use lib.Dec.{T}
use lib.Ieee.{Float, nan, inf, fin, binary64, ne, div, is_nan, of_bits, to_bits, nan_bits}
use lib.Ieee.Bits.{nan_bits_is, nan_bits_above}
use lib.Ieee.Compare.{differs_from_itself}

to_t : {b : Bool} → b ≡ true → T b
to_t e = subst T (sym e) tt

pub is_nan_lem : (x : Float) → ne x x ≡ true → 0x7ff8_0000_0000_0000 ≡ to_bits binary64 x
unfolding to_bits
is_nan_lem x t = let e : x ≡ nan = differs_from_itself x (to_t t) in rw e

pub no_nan : (x : Float) → ne x x ≡ false → T (not (is_nan x))
unfolding ne is_nan
no_nan nan t = absurd (true≢false t)
no_nan (inf s) t = tt
no_nan (fin s m e) t = tt

nan_only : (x : Float) → is_nan x ≡ true → nan ≡ x
unfolding is_nan
nan_only nan t = refl
nan_only (inf s) t = absurd (true≢false (sym t))
nan_only (fin s m e) t = absurd (true≢false (sym t))

pub nan_bits_lem : (w : ℕ) → 0x7ff0_0000_0000_0000 < w % 0x8000_0000_0000_0000 → div binary64 (of_bits binary64 0) (of_bits binary64 0) ≡ of_bits binary64 w
unfolding of_bits div
nan_bits_lem w h = nan_only (of_bits binary64 w) (sym (nan_bits_is binary64 w) ∙ nan_bits_above binary64 w ∙ lt-ltb _ _ h)

pub number_bits : (w : ℕ) → w % 0x8000_0000_0000_0000 ≤ 0x7ff0_0000_0000_0000 → T (not (nan_bits binary64 w))
number_bits w h = rw (nan_bits_above, le-ltb _ _ h) tt
