-- Document 01's commissioning examples I and J, what determined must tell apart (02, #104), the flags of the norm of Jx and of the scaling
-- (02, #106), and what the question beside the gradient must tell apart (02, #105), each computed by the definitions that the contracts cite. Assumes nothing.
use Prim.Native.Nat.{ℕ, ◌+◌, ◌-◌, ◌*◌, ◌^◌}
use mathlib.Core.Path.{◌≡◌, refl}
use mathlib.Core.Bool.{Bool, false, true}
use mathlib.Core.List.{List, [], ◌∷◌, ◌++◌}
use lib.ListN.{replicate}
use lib.Ieee.{Float, nan, inf, binary64, round}
use Rattle.leaves.specs.Reply.{Reply, answered, refused}
use Rattle.leaves.specs.Number.{plus_zero}
use Rattle.leaves.specs.Norm.{flags, neither}
use Rattle.leaves.specs.declared.norm.Ranges.{Ranges}
use Rattle.factor.specs.Factoring.{Factored, factor_call}
use Rattle.factor.specs.Outcome.{Told, told}
use Rattle.factor.specs.declared.state.Held.TheVariants.{Nothing}
use Rattle.factor.specs.declared.state.State.{State}
use Rattle.measures.specs.declared.scaling.Mode.{Mode}
use Rattle.measures.specs.declared.scaling.Mode.TheVariants as mode
use Rattle.measures.specs.Measures.{gradient_call, above_call, jx_call, determined_call}
use Rattle.measures.specs.Rescale.{Scaled, first, later, scaling_call}
use Rattle.measures.specs.inner.Opened.{opened}

-- whole numbers
abbrev w : ℕ → Float
w n = round binary64 false n 1

-- rooms full of junk
abbrev junk : ℕ → List Float
junk k = replicate k nan

-- I: J = (3 4), r = (8)
abbrev I : Factored
I = factor_call 1 2 (w 3 ∷ w 4 ∷ []) (w 8 ∷ []) (junk 12) (7 ∷ 7 ∷ []) (junk 3)

-- J: all-zero 4×3, residuals (1, 2, 3, 4)
abbrev J : Factored
J = factor_call 4 3 (replicate 12 plus_zero) (w 1 ∷ w 2 ∷ w 3 ∷ w 4 ∷ []) (junk 21) (7 ∷ 7 ∷ 7 ∷ []) (junk 16)

pub examples :
    ((gradient_call I.state I.order (w 8) I.store).reply ≡ answered (w 1))
    × ((determined_call J.state J.store).reply ≡ answered 0)
    × ((gradient_call J.state J.order (w 1) J.store).reply ≡ answered (w 0))
unfolding opened
examples = (refl, refl, refl)

-- ---- 02, #104: a diagonal of two, factored with m rows, and n columns of which the later ones are zero
abbrev fraction : ℕ → ℕ → Float
fraction a k = round binary64 false a (2 ^ k)

abbrev count : Factored → Reply ℕ
count f = (determined_call f.state f.store).reply

abbrev square : Float → Factored
square d = factor_call 2 2 (w 1 ∷ w 0 ∷ w 0 ∷ d ∷ []) (w 1 ∷ w 1 ∷ []) (junk 12) (7 ∷ 7 ∷ []) (junk 6)

abbrev wide : Factored
wide = factor_call 2 4 (w 1 ∷ w 0 ∷ w 0 ∷ fraction 3 52 ∷ replicate 4 plus_zero) (w 1 ∷ w 1 ∷ []) (junk 32) (7 ∷ 7 ∷ 7 ∷ 7 ∷ []) (junk 10)

-- so small that ((max(m, n) · 2^−52) · |R_00|) and max(m, n) · (2^−52 · |R_00|) are two numbers, with the second diagonal between
abbrev low : Factored
low =
    factor_call 5 2 (fraction 0x1f6d0c8e71fdbe 1042 ∷ replicate 5 plus_zero ++ (fraction 0x9d213ec84 1074 ∷ replicate 3 plus_zero)) (replicate 5 (w 1)) (junk 12) (7 ∷ 7 ∷ []) (junk 15)

-- a store that no factoring left, with this diagonal
abbrev claimed : Float → Float → Float → Told ℕ
claimed a b c =
    determined_call (record { m = 3; n = 3; held = Nothing }) (a ∷ w 0 ∷ w 0 ∷ w 0 ∷ b ∷ w 0 ∷ w 0 ∷ w 0 ∷ c ∷ replicate 12 plus_zero)

pub determined_examples :
    (count (square (fraction 1 51)) ≡ answered 1)
    × (count (square (fraction (2 ^ 52 + 1) 103)) ≡ answered 2)
    × (count wide ≡ answered 1)
    × (count low ≡ answered 1)
    × ((claimed (w 1) (w 0) (w 1)).reply ≡ answered 1)
    × ((claimed (fraction 1 60) (w 1) (w 1)).reply ≡ answered 3)
    × ((claimed (w 1) nan (w 1)).reply ≡ answered 1)
    × ((claimed nan (w 1) (w 1)).reply ≡ answered 0)
    × ((claimed (inf false) (w 1) (w 1)).reply ≡ answered 0)
unfolding opened
determined_examples = (refl, refl, refl, refl, refl, refl, refl, refl, refl)

-- ---- 02, #106: the norm of Jx has a number for each column, so that 4e18 is large among four columns and not alone; and zeros are neither
abbrev opening : ℕ → ℕ → State
opening m n = record { m = m; n = n; held = Nothing }

abbrev four : Reply (Float × Ranges)
four = (jx_call (opening 1 4) (0 ∷ 1 ∷ 2 ∷ 3 ∷ []) (w 1 ∷ w 0 ∷ w 0 ∷ w 0 ∷ []) (w (4 * 10 ^ 18) ∷ replicate 31 plus_zero)).reply

abbrev alone : Reply (Float × Ranges)
alone = (jx_call (opening 1 1) (0 ∷ []) (w 1 ∷ []) (w (4 * 10 ^ 18) ∷ replicate 4 plus_zero)).reply

-- R with this diagonal
abbrev two : Float → Float → Reply (Float × Ranges)
two a b = (jx_call (opening 2 2) (1 ∷ 0 ∷ []) (w 1 ∷ w 1 ∷ []) (a ∷ w 0 ∷ w 0 ∷ b ∷ replicate 8 plus_zero)).reply

-- one column of norm 1e20, x = 1 and step bound 1
abbrev scaled : Mode → Reply Scaled
scaled md = (scaling_call (opening 1 1) md (w 1 ∷ []) (w 1 ∷ []) (w 1) (w 1 ∷ w 0 ∷ w (10 ^ 20) ∷ w 0 ∷ w 0 ∷ [])).reply

pub flag_examples :
    (four ≡ answered (w (4 * 10 ^ 18), flags false true))
    × (alone ≡ answered (w (4 * 10 ^ 18), neither))
    × (two (w (10 ^ 20)) (fraction 1 70) ≡ answered (w (10 ^ 20), flags true true))
    × (two (fraction 1 70) (w 0) ≡ answered (fraction 1 70, flags true false))
    × (two (w 0) (w 0) ≡ answered (w 0, neither))
    × (scaled mode.FirstScaled ≡ answered (first (record { xnorm = w (10 ^ 20); radius = w (10 ^ 20) }) (flags false true)))
    × (scaled mode.FirstUnscaled ≡ answered (first (record { xnorm = w 1; radius = w 1 }) neither))
    × (scaled mode.LaterScaled ≡ answered (later neither))
    × (scaled mode.LaterUnscaled ≡ answered (later neither))
unfolding opened
flag_examples = (refl, refl, refl, refl, refl, refl, refl, refl, refl)

-- ---- 02, #105: is the gradient above the limit? I's is 1, and J's 0; I's with its norms in the order of the columns would be 4/3
abbrev asked : Factored → Float → Float → Reply Bool
asked f bnorm limit = (above_call f.state f.order bnorm limit f.store).reply

abbrev gradient_at : Factored → Float → Reply Float
gradient_at f bnorm = (gradient_call f.state f.order bnorm f.store).reply

abbrev minus : ℕ → Float
minus n = round binary64 true n 1

pub above_examples :
    (asked I (w 8) (w 1) ≡ answered false)
    × (asked I (w 8) (fraction (2 ^ 53 - 1) 53) ≡ answered true)
    × (asked J (w 1) (w 0) ≡ answered false)
    × (asked I (w 8) (w 0) ≡ answered true)
    × (asked I (w 8) (minus 0) ≡ answered true)
    × (asked J (w 1) (minus 0) ≡ answered false)
    × (asked I (w 8) nan ≡ refused 6)
    × (asked I (w 8) (inf false) ≡ refused 6)
    × (asked I (w 8) (minus 1) ≡ refused 7)
    × (asked I (w 0) nan ≡ refused 6)
    × (asked I (w 0) (w 1) ≡ refused 7)
unfolding opened
above_examples = (refl, refl, refl, refl, refl, refl, refl, refl, refl, refl, refl)

-- J = diag(2, 1): at residual norm 1e-310 the measure of a residual of 1e-300 is 1e10, that of 1 infinite
abbrev steep : Float → Float → Factored
steep a b = factor_call 2 2 (w 2 ∷ w 0 ∷ w 0 ∷ w 1 ∷ []) (a ∷ b ∷ []) (junk 12) (7 ∷ 7 ∷ []) (junk 6)

abbrev least : ℕ → Float
least k = round binary64 false 1 (10 ^ k)

pub steep_examples :
    (asked (steep (least 300) (w 1)) (least 310) (w 1) ≡ answered true)
    × (asked (steep (least 300) (w 1)) (least 310) (w (10 ^ 11)) ≡ refused 8)
    × (gradient_at (steep (least 300) (w 1)) (least 310) ≡ refused 8)
    × (asked (steep (w 1) (least 300)) (least 310) (w 1) ≡ refused 8)
    × (asked (steep (w 1) (least 300)) (least 310) (w 0) ≡ refused 8)
    × (asked (steep nan nan) (w 1) (w 0) ≡ refused 5)
unfolding opened
steep_examples = (refl, refl, refl, refl, refl, refl)

-- a store that no factoring left: R = diag(5, 1), qt_b = (1, b), these norms, and NaN in work
abbrev lent : Float → Float → List Float → List Float
lent b s work = w 5 ∷ w 0 ∷ w 0 ∷ w 1 ∷ w 1 ∷ b ∷ s ∷ w 1 ∷ w 0 ∷ w 0 ∷ work

abbrev asked_in : Float → Float → Float → Told Bool
asked_in b s limit = above_call (opening 2 2) (0 ∷ 1 ∷ []) (w 1) limit (lent b s (nan ∷ nan ∷ []))

-- the column of norm zero is skipped, whatever is in R; a NaN after a yes is not looked at, and before it ends the question; work is +0 after each
pub lent_examples :
    (asked_in (w 1) (w 0) (w 1) ≡ told (answered false) (opening 2 2) (lent (w 1) (w 0) (w 0 ∷ w 0 ∷ [])))
    × (asked_in (w 2) (w 0) (w 1) ≡ told (answered true) (opening 2 2) (lent (w 2) (w 0) (w 0 ∷ w 0 ∷ [])))
    × (asked_in nan (w 1) (w 1) ≡ told (answered true) (opening 2 2) (lent nan (w 1) (w 0 ∷ w 0 ∷ [])))
    × (asked_in nan (w 1) (w 5) ≡ told (refused 8) (opening 2 2) (lent nan (w 1) (w 0 ∷ w 0 ∷ [])))
    × (asked_in (w 2) nan (w 1) ≡ told (refused 8) (opening 2 2) (lent (w 2) nan (w 0 ∷ w 0 ∷ [])))
    × (asked_in (w 1) (w 1) (minus 1) ≡ told (refused 7) (opening 2 2) (lent (w 1) (w 1) (nan ∷ nan ∷ [])))
unfolding opened
lent_examples = (refl, refl, refl, refl, refl, refl)
