-- A part of the store worked on by itself, as what it says of the whole room. Assumes nothing.
use mathlib.Core.Path.{◌≡◌, ◌∙◌}
use mathlib.Core.List.{List}
use Prim.Native.Nat.{ℕ}
use lib.Ieee.{Float}
use Rattle.factor.specs.Room.{part, load}
use Rattle.factor.specs.Solve.{zero_solved}

pub zero_law : (m n : ℕ) (s : List Float) {us : List (List Float)} {w x : List Float} → w ≡ part n 0 s → us ≡ (load n s).upper → x ≡ zero_solved m us w
    → x ≡ zero_solved m (load n s).upper (load n s).qtb
unfolding load
zero_law m n s e u h = h ∙ rw (e, u)
