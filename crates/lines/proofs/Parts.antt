-- A number that a slice's length bounds is the length of a part of it. Assumes nothing.
use Rattle.std.proofs.Common.{◌≡◌, ℕ, ◌<◌, ◌≤◌, List, length, sym, arith, length-take-le, le-ltb, lt-ltb}
use Rattle.text.specs.inner.Part.{Part}
use Rattle.lines.specs.Part.{at_most}

pub part : {A : Type 0} (n : ℕ) (l : List A) → n ≤ length l → Part n l
part n l h = (h, sym (length-take-le n l h))

pub below : {A : Type 0} (n : ℕ) (l : List A) → n < length l → (n ≡ at_most (length l) n) × Part n l
unfolding at_most
below n l h = (rw (lt-ltb _ _ h, at_most), part n l (omega (arith, h)))

pub whole : {A : Type 0} (n : ℕ) (l : List A) → length l ≤ n → (length l ≡ at_most (length l) n) × Part (length l) l
unfolding at_most
whole n l h = (rw (le-ltb _ _ h, at_most), part (length l) l (omega arith))
