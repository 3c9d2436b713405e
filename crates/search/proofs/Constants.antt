-- The code's literals are the definitions' constants, by computing. Assumes nothing.
use mathlib.Core.Path.{◌≡◌, refl}
use lib.Ieee.{binary64, of_bits}
use Rattle.leaves.specs.Number.{plus_zero}
use Rattle.search.specs.Bounds.{tenth, thousandth}
use Rattle.search.specs.inner.Opened.{opened}

pub tenth_is : of_bits binary64 0x3FB999999999999A ≡ tenth
unfolding opened
tenth_is = refl

pub thousandth_is : of_bits binary64 0x3F50624DD2F1A9FC ≡ thousandth
unfolding opened
thousandth_is = refl

pub zero_is : of_bits binary64 0 ≡ plus_zero
unfolding of_bits
zero_is = refl
