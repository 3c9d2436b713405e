-- A part of a list replaced: what a part that was lent leaves.
use Rattle.std.specs.Prelude.{ℕ, List, ◌++◌, take, drop}

-- k places of s from a on replaced by y
abbrev pub patch : {A : Type 0} → ℕ → ℕ → List A → List A → List A
patch a k s y = take a s ++ (y ++ drop k (drop a s))
