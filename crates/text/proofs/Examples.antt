-- The definitions, evaluated. Assumes nothing.
use mathlib.Core.Path.{◌≡◌, refl}
use mathlib.Core.List.{[], ◌∷◌}
use lib.Ieee.{nan, binary64, of_bits, to_bits}
use Rattle.std.specs.Prelude.{Some, None}
use Rattle.text.specs.Digit.{digit_of, glyph}
use Rattle.text.specs.Read.{number_ends, stopped, turn, read_from}
use Rattle.text.specs.Put.{digits, places_from, places_of, hex_of, decimal_of, stored}

hex_is : hex_of 0x3C0 ≡ 51 ∷ 67 ∷ 48 ∷ []
unfolding hex_of digits places_of places_from glyph
hex_is = refl

hex-zero : hex_of 0 ≡ 48 ∷ []
unfolding hex_of digits places_of places_from glyph
hex-zero = refl

decimal_is : decimal_of 960 ≡ 57 ∷ 54 ∷ 48 ∷ []
unfolding decimal_of digits places_of places_from glyph
decimal_is = refl

most_decimal : decimal_of 18446744073709551615 ≡ 49 ∷ 56 ∷ 52 ∷ 52 ∷ 54 ∷ 55 ∷ 52 ∷ 52 ∷ 48 ∷ 55 ∷ 51 ∷ 55 ∷ 48 ∷ 57 ∷ 53 ∷ 53 ∷ 49 ∷ 54 ∷ 49 ∷ 53 ∷ []
unfolding decimal_of digits places_of places_from glyph
most_decimal = refl

-- `3c0` and a space, from place 7 on
read_is : read_from 7 0 7 (51 ∷ 99 ∷ 48 ∷ 32 ∷ []) ≡ Some (record { value = 0x3C0; next = 10 })
unfolding read_from turn digit_of stopped number_ends
read_is = refl

-- no digit, a letter that is none, and 17 digits
read_none : read_from 7 0 7 (32 ∷ []) ≡ None
unfolding read_from turn digit_of stopped number_ends
read_none = refl

read_letter : read_from 7 0 7 (51 ∷ 71 ∷ []) ≡ None
unfolding read_from turn digit_of stopped number_ends
read_letter = refl

read_over : read_from 0 0 0 (49 ∷ 48 ∷ 48 ∷ 48 ∷ 48 ∷ 48 ∷ 48 ∷ 48 ∷ 48 ∷ 48 ∷ 48 ∷ 48 ∷ 48 ∷ 48 ∷ 48 ∷ 48 ∷ 48 ∷ []) ≡ None
unfolding read_from turn digit_of stopped number_ends
read_over = refl

-- two bytes into a buffer of three: from place 1 they fit, from place 2 they do not
placed_is : stored (65 ∷ 66 ∷ []) 1 (0 ∷ 0 ∷ 0 ∷ []) ≡ (3, 0 ∷ 65 ∷ 66 ∷ [])
unfolding stored
placed_is = refl

placed_full : stored (65 ∷ 66 ∷ []) 2 (0 ∷ 0 ∷ 0 ∷ []) ≡ (2, 0 ∷ 0 ∷ 0 ∷ [])
unfolding stored
placed_full = refl

-- the one NaN's pattern, and any other
nan_to : to_bits binary64 nan ≡ 0x7FF8_0000_0000_0000
unfolding to_bits
nan_to = refl

nan_of : of_bits binary64 0xFFF0_0000_0000_0001 ≡ nan
unfolding of_bits
nan_of = refl
