-- 01, 'Leaf rules', the first rule and the constants: numbers by themselves.
use Rattle.std.specs.Prelude.{Bool, true, false, cond, pos, negsuc, Float}
use Rattle.std.specs.Float.{nan, inf, fin, binary64}
use Rattle.std.specs.Float.Ieee.{mul, lt, is_nan}

abbrev pub plus_zero : Float
plus_zero = fin false 0 (pos 0)

abbrev pub one : Float
one = fin false 1 (pos 0)

-- `is_negative` reads the sign bit, of a zero too. The one NaN has no sign.
unfoldable pub is_negative : Float → Bool
is_negative nan = false
is_negative (inf s) = s
is_negative (fin s m e) = s

unfoldable pub is_finite : Float → Bool
is_finite nan = false
is_finite (inf s) = false
is_finite (fin s m e) = true

unfoldable pub abs_of : Float → Float
abs_of nan = nan
abs_of (inf s) = inf false
abs_of (fin s m e) = fin false m e

-- Max and min take the other operand if one is NaN, the first if the two are equal.
unfoldable pub max_of : Float → Float → Float
max_of a b = cond (is_nan a) b (cond (is_nan b) a (cond (lt a b) b a))

unfoldable pub min_of : Float → Float → Float
min_of a b = cond (is_nan a) b (cond (is_nan b) a (cond (lt b a) b a))

-- A square is x·x.
unfoldable pub square_of : Float → Float
square_of x = mul binary64 x x

-- epsmch is 2^-52, dwarf is 2^-1022.
unfoldable pub epsmch : Float
epsmch = fin false 1 (negsuc 51)

unfoldable pub dwarf : Float
dwarf = fin false 1 (negsuc 1021)
