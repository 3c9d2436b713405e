-- 02, #105: what the question is answered by, in the request's words.
use Rattle.std.specs.Prelude.{ℕ, Bool, false, cond, ◌||◌, List, [], ◌∷◌, take, Float}
use Rattle.std.specs.Float.Ieee.{lt}
use Rattle.leaves.specs.Number.{is_finite}
use Rattle.factor.specs.Room.{load}
use Rattle.calls.specs.declared.state.State.{State}
use Rattle.calls.specs.State.{cols, without_frozen}
use Rattle.calls.specs.Outcome.{narrowed_in}
use Rattle.demands.specs.Eight.{column_measures}

-- the measures 'before the first non-finite one'
abbrev pub before_non_finite : List Float → List Float
before_non_finite [] = []
before_non_finite (x ∷ xs) = cond (is_finite x) (x ∷ before_non_finite xs) []

-- one of them 'is above the limit'
abbrev pub any_above : Float → List Float → Bool
any_above limit [] = false
any_above limit (x ∷ xs) = lt limit x || any_above limit xs

-- with marks, the measures of the free columns
abbrev pub free_measures : State → List ℕ → Float → List Float → List Float
free_measures st order bnorm store = column_measures (without_frozen st) (take (cols st) order) bnorm (load (cols st) (narrowed_in st store))
