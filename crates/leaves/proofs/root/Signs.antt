-- A root is never below zero. Assumes nothing.
-- It is nan, +infinity, a zero of either sign (the root of -0 is -0), or above zero. What divides by a root, or compares it, goes by these four.
use mathlib.Core.Path.{◌≡◌, refl}
use mathlib.Core.Bool.{true, false}
use Prim.Native.Nat.{ℕ, zero, suc, ◌+◌, ◌*◌}
use native.Mathlib.Omega.{arith}
use lib.IntN.{ℤ}
use lib.Ieee.{Float, nan, inf, fin, up, down, lt, odd}
use borrow.Author.Tests.{le-ltb}
use Rattle.leaves.specs.Number.{plus_zero}
use Rattle.leaves.specs.Root.{root_s, near_root, scaled, half_exp, units_of}

pub data Side : Float → Type 0 where
  no_number : Side nan
  endless : Side (inf false)
  minus_zero : {e : ℤ} → Side (fin true 0 e)
  plain : {m : ℕ} {e : ℤ} → Side (fin false m e)

pub side_not_negative : {x : Float} → Side x → lt x plus_zero ≡ false
unfolding lt
side_not_negative no_number = refl
side_not_negative endless = refl
side_not_negative (minus_zero {e}) = le-ltb 0 (0 * up e * 1 + 0 * down e) (omega arith)
side_not_negative (plain {m} {e}) = le-ltb (m * up e * 1) (0 * down e) (omega arith)

pub odd_side : (d q k l : ℕ) → Side (odd d false q k l)
unfolding odd
odd_side d zero k l = plain
odd_side d (suc q) k l = plain

pub root_side : (x : Float) → Side (root_s x)
unfolding root_s
root_side nan = no_number
root_side (inf true) = no_number
root_side (inf false) = endless
root_side (fin true zero e) = minus_zero
root_side (fin false zero e) = plain
root_side (fin true (suc m) e) = no_number
root_side (fin false (suc m) e) = let n = units_of (suc m) e in odd_side 53 (near_root (scaled n)) (half_exp n) 1074

pub root_not_negative : (x : Float) → lt (root_s x) plus_zero ≡ false
root_not_negative x = side_not_negative (root_side x)
