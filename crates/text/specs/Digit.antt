-- One hex digit as a byte.
use Rattle.std.specs.Prelude.{ℕ, ◌+◌, ◌-◌, cond, ltb, Option, Some, None}

-- `0` to `9`, `A` to `F`, `a` to `f`
unfoldable pub digit_of : ℕ → Option ℕ
digit_of b =
    cond (ltb b 48) None
    (cond (ltb b 58) (Some (b - 48))
    (cond (ltb b 65) None
    (cond (ltb b 71) (Some (b - 55))
    (cond (ltb b 97) None
    (cond (ltb b 103) (Some (b - 87)) None)))))

-- the digit of a number below 16: `0` to `9`, then `A` to `F`
unfoldable pub glyph : ℕ → ℕ
glyph d = cond (ltb d 10) (48 + d) (55 + d)
