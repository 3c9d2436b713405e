-- 01, module 7, 'Also added', as 02, #104, has it: determined.
use Rattle.std.specs.Prelude.{ℕ, max, cond, List, [], ◌∷◌, pos, length, take, get_or, Float}
use Rattle.std.specs.Float.{nan, binary64}
use Rattle.std.specs.Float.Ieee.{mul, lt, of_int}
use Rattle.leaves.specs.Number.{abs_of, epsmch}
use Rattle.leaves.specs.Square.{diagonal}

-- the limit of m rows and n columns, R_00 given: ((max(m, n) · 2^−52) · |R_00|), in that order and rounded at each step
unfoldable pub limit_of : ℕ → ℕ → Float → Float
limit_of m n r00 = mul binary64 (mul binary64 (of_int binary64 (pos (max m n))) epsmch) (abs_of r00)

-- the leading places whose absolute value is greater than the limit; the first failing place ends them, and greater is false at a NaN
unfoldable pub leading : Float → List Float → List Float
leading limit [] = []
leading limit (d ∷ ds) = cond (lt limit (abs_of d)) (d ∷ leading limit ds) []

-- determined: the number of leading places of R's diagonal above the limit. R's rows from m on are 0 (01, module 3), so place m ends the count
-- where m < n. n is the number of columns that R has here.
-- It stands by itself: what is asked of the report is not what is asked of the solves.
unfoldable pub determined_of : ℕ → List (List Float) → ℕ
determined_of m upper = let ds = diagonal upper in length (leading (limit_of m (length upper) (get_or ds 0 nan)) (take m ds))
