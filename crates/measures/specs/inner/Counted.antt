-- The count that `determined` answers, of R's diagonal as it is lent. No public contract cites it.
use Rattle.std.specs.Prelude.{ℕ, List, length, take, get_or, Float}
use Rattle.std.specs.Float.{nan}
use Rattle.measures.specs.Determined.{limit_of, leading}

abbrev pub counted_of : ℕ → List Float → ℕ
counted_of m ds = length (leading (limit_of m (length ds) (get_or ds 0 nan)) (take m ds))
