-- The numbers of a call's tests: what holds of each of them, and of 0, holds of the number that the call is refused by. Assumes nothing.
use mathlib.Core.Path.{◌≡◌, refl}
use mathlib.Core.Bool.{Bool, true, false, ◌&&◌, and-eq-true_iff}
use mathlib.Core.List.{List, [], ◌∷◌}
use Prim.Native.Nat.{ℕ, ◌<◌}
use lib.Dec.{ltb}
use borrow.Author.Tests.{ltb-true}
use Rattle.leaves.specs.Tests.{Test, first_of}

abbrev pub every : (ℕ → Bool) → List Test → Bool
every p [] = true
every p (t ∷ ts) = p t.1 && every p ts

pub first_of_lem : (p : ℕ → Bool) → p 0 ≡ true → (ts : List Test) → every p ts ≡ true → p (first_of ts) ≡ true
unfolding first_of
first_of_lem p z [] h = z
first_of_lem p z ((true, k) ∷ ts) h = ((and-eq-true_iff (p k) (every p ts)).0 h).0
first_of_lem p z ((false, k) ∷ ts) h = first_of_lem p z ts ((and-eq-true_iff (p k) (every p ts)).0 h).1

-- below 8
abbrev pub small : List Test → Bool
small ts = every (λ (k : ℕ). ltb k 8) ts

pub first_small : (ts : List Test) → small ts ≡ true → first_of ts < 8
first_small ts h = ltb-true (first_of ts) 8 (first_of_lem (λ (k : ℕ). ltb k 8) refl ts h)
