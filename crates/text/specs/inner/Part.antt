-- What a part of a slice needs, for the programs.
use Rattle.std.specs.Prelude.{ℕ, ◌≤◌, ◌≡◌, List, length, take}

-- The second half follows from the first. Both are stated so that `&xs[..n]` in a caller needs no answer.
abbrev pub Part : {A : Type 0} → ℕ → List A → Type 0
Part n xs = (n ≤ length xs) × (n ≡ length (take n xs))
