-- 01, 'Refusal numbers, tested in this order': what it is to be refused by one of a call's tests, or by none.
use Rattle.std.specs.Prelude.{◌≡◌, true, false, List, [], ◌∷◌, ◌++◌, ℕ}
use Rattle.leaves.specs.Tests.{Test}

-- no condition of the list holds
abbrev pub NoneHold : List Test → Type 0
NoneHold [] = Unit {0}
NoneHold (t ∷ ts) = (t.0 ≡ false) × NoneHold ts

-- k's condition holds and no earlier one
pub record RefusedBy (ts : List Test) (k : ℕ) : Type 0 where
  pub earlier : List Test
  pub later : List Test
  pub splits : ts ≡ earlier ++ ((true, k) ∷ later)
  pub none_earlier : NoneHold earlier
