-- Document 01's commissioning examples A to D over the definitions that the contracts cite, and rows for what the leaf rules say of refusals, NaN, equal
-- numbers, signs of zero and constants. Each row is computed. Assumes nothing.
use Prim.Native.Nat.{ℕ, ◌*◌, ◌^◌}
use mathlib.Core.Path.{◌≡◌, refl}
use mathlib.Core.Bool.{true, false}
use mathlib.Core.List.{[], ◌∷◌}
use lib.IntN.{pos, negsuc}
use lib.ListN.{replicate}
use lib.Ieee.{Float, nan, inf, fin, binary64, round, of_bits}
use Rattle.leaves.specs.Reply.{answered, refused}
use Rattle.leaves.specs.Number.{plus_zero, is_negative, max_of, min_of, epsmch, dwarf}
use Rattle.leaves.specs.Vector.{dot, axpy, axpy_zero, imax}
use Rattle.leaves.specs.Root.{root_s}
use Rattle.leaves.specs.Norm.{rdwarf, rgiant, flags, neither, ranges, enorm}
use Rattle.leaves.specs.inner.Opened.{opened}

-- whole numbers, and bit patterns
abbrev w : ℕ → Float
w n = round binary64 false n 1

abbrev b : ℕ → Float
b n = of_bits binary64 n

abbrev negative_zero : Float
negative_zero = fin true 0 (pos 0)

pub leaves_table :
    -- A, B, C, D: 0x3fd9.. is 0.390625 and 0x3fe4.. is 0.625
    (root_s (b 0x3fd9_0000_0000_0000) ≡ b 0x3fe4_0000_0000_0000)
    × (root_s (fin false 1 (negsuc 1073)) ≡ fin false 1 (negsuc 536))
    × (enorm (w 3 ∷ w 4 ∷ []) ≡ answered (w 5, neither))
    × (enorm [] ≡ answered (plus_zero, neither))
    -- norms of small and of large numbers, whose squares would be lost and overflow
    × (enorm (fin false 3 (negsuc 999) ∷ fin true 1 (negsuc 997) ∷ []) ≡ answered (fin false 5 (negsuc 999), flags true false))
    × (enorm (fin true 3 (pos 1000) ∷ fin false 1 (pos 1002) ∷ []) ≡ answered (fin false 5 (pos 1000), flags false true))
    × (enorm (w 1 ∷ inf true ∷ w 2 ∷ []) ≡ answered (inf false, flags false true))
    × (enorm (w 1 ∷ nan ∷ w 2 ∷ []) ≡ answered (nan, flags false true))
    -- ranges (02, #106): zeros of either sign are neither; small at most 3.834e-20; large from 1.304e19 over the norm's own length on; both beside each other
    × (ranges (plus_zero ∷ negative_zero ∷ w 1 ∷ []) ≡ neither)
    × (ranges (b 0x3be6_a1c6_e8d9_8029 ∷ []) ≡ flags true false)
    × (ranges (b 0x3be6_a1c6_e8d9_802a ∷ []) ≡ neither)
    × (ranges (w (4 * 10 ^ 18) ∷ []) ≡ neither)
    × (ranges (w (4 * 10 ^ 18) ∷ plus_zero ∷ plus_zero ∷ plus_zero ∷ []) ≡ flags false true)
    × (ranges (w (10 ^ 20) ∷ fin true 1 (negsuc 1073) ∷ []) ≡ flags true true)
    -- roots of what is not above zero
    × (root_s negative_zero ≡ negative_zero)
    × (root_s (fin true 1 (pos 0)) ≡ nan)
    -- refusals
    × (enorm (replicate 129 plus_zero) ≡ refused 2)
    × (enorm (replicate 128 plus_zero) ≡ answered (plus_zero, neither))
    × (dot (w 1 ∷ []) [] ≡ refused 3)
    × (axpy (w 2) (w 1 ∷ []) (w 3 ∷ w 4 ∷ []) ≡ (refused 3, w 3 ∷ w 4 ∷ []))
    × (axpy_zero (w 2) (w 1 ∷ []) [] ≡ (refused 3, []))
    × (imax [] ≡ refused 3)
    -- dot and axpy
    × (dot (w 1 ∷ w 2 ∷ []) (w 3 ∷ w 4 ∷ []) ≡ answered (w 11))
    × (dot [] [] ≡ answered plus_zero)
    × (axpy (w 2) (w 1 ∷ w 2 ∷ []) (w 3 ∷ w 4 ∷ []) ≡ (answered tt, w 5 ∷ w 8 ∷ []))
    × (axpy_zero (w 2) (w 1 ∷ w 2 ∷ []) (nan ∷ nan ∷ []) ≡ (answered tt, w 2 ∷ w 4 ∷ []))
    -- the first of the largest; a NaN is neither left nor gone to
    × (imax (w 1 ∷ w 3 ∷ w 2 ∷ w 3 ∷ []) ≡ answered 1)
    × (imax (w 1 ∷ nan ∷ w 2 ∷ nan ∷ []) ≡ answered 2)
    × (imax (nan ∷ w 3 ∷ []) ≡ answered 0)
    -- the other operand, and the first
    × (max_of nan (w 2) ≡ w 2)
    × (max_of (w 2) nan ≡ w 2)
    × (max_of plus_zero negative_zero ≡ plus_zero)
    × (max_of negative_zero plus_zero ≡ negative_zero)
    × (min_of nan (w 2) ≡ w 2)
    × (min_of (w 2) nan ≡ w 2)
    × (min_of plus_zero negative_zero ≡ plus_zero)
    × (min_of negative_zero plus_zero ≡ negative_zero)
    -- signs
    × (is_negative negative_zero ≡ true)
    × (is_negative plus_zero ≡ false)
    -- 3.834e-20, 1.304e19, 2^-52, 2^-1022
    × (rdwarf ≡ b 0x3be6_a1c6_e8d9_8029)
    × (rgiant ≡ b 0x43e6_9eec_5d27_e300)
    × (epsmch ≡ b 0x3cb0_0000_0000_0000)
    × (dwarf ≡ b 0x0010_0000_0000_0000)
unfolding opened
leaves_table =
    (refl, refl, refl, refl, refl, refl, refl, refl, refl, refl, refl, refl, refl, refl, refl, refl, refl, refl, refl, refl, refl, refl, refl, refl, refl, refl, refl, refl, refl, refl, refl, refl, refl, refl, refl, refl, refl, refl, refl, refl, refl, refl, refl)
