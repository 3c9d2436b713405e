-- LMPAR's definition computed, with ENORM's put in: a case for each way that it ends, one with three columns out of order, and the smallest inputs where
-- it is not the search: another dwarf, and fewer rows than columns over an R that no factoring leaves. Each expected x, par and number of calls is what
-- MINPACK's own LMPAR printed for that input, its QRSOLV counted (Debian's source package 19961126, `gfortran -O2 -ffp-contract=off`, x86-64).
-- Assumes nothing.
use Prim.Native.Nat.{ℕ, ◌^◌}
use mathlib.Core.Path.{◌≡◌, refl}
use mathlib.Core.Bool.{true, false}
use mathlib.Core.List.{List, [], ◌∷◌, map}
use lib.ListN.{length}
use lib.IntN.{negsuc}
use lib.Ieee.{Float, fin, binary64, round, to_bits}
use Rattle.leaves.specs.Reply.{answered}
use Rattle.leaves.specs.Number.{plus_zero, dwarf}
use Rattle.search.specs.Problem.{Problem}
use Rattle.search.specs.Search.{answer, answer_of}
use Rattle.search.specs.Enorm.{minpack_enorm}
use Rattle.search.specs.Lmpar.{Given, Output, lmpar}
use Rattle.search.specs.inner.Opened.{opened}
use Rattle.search.proofs.LmparTrials.{given_of}

-- whole numbers, negative ones, quotients
abbrev w : ℕ → Float
w k = round binary64 false k 1

abbrev minus : ℕ → Float
minus k = round binary64 true k 1

abbrev over : ℕ → ℕ → Float
over a b = round binary64 false a b

abbrev given : List (List Float) → List ℕ → List Float → List Float → Float → Given
given r ipvt diag qtb delta = record { n = length r; r = r; ipvt = ipvt; diag = diag; qtb = qtb; delta = delta }

-- with ENORM; what stood in its result before does not show
abbrev minpack : Float → Given → Float → Output
minpack = lmpar (minpack_enorm plus_zero)

-- the bits of x, those of par, and the calls
abbrev Printed : Type 0
Printed = List ℕ × ℕ × ℕ

abbrev printed : Output → Printed
printed o = (map (to_bits binary64) o.x, to_bits binary64 o.par, o.qrsolvs)

pub ends_undamped : printed (minpack dwarf (given ((w 1 ∷ []) ∷ []) (0 ∷ []) (w 1 ∷ []) (w 1 ∷ []) (w 1)) plus_zero) ≡ (0x3FF0000000000000 ∷ [], 0, 0)
unfolding opened to_bits
ends_undamped = refl

pub ends_within : printed (minpack dwarf (given ((w 1 ∷ []) ∷ []) (0 ∷ []) (w 2 ∷ []) (w 1 ∷ []) (w 1)) plus_zero) ≡ (0x3FE0000000000000 ∷ [], 0x3FD0000000000000, 1)
unfolding opened to_bits
ends_within = refl

-- a zero on the diagonal: nsing is 1, and parl zero
pub ends_falling : printed (minpack dwarf (given ((minus 1 ∷ []) ∷ (minus 1 ∷ w 0 ∷ []) ∷ []) (0 ∷ 1 ∷ []) (w 2 ∷ w 1 ∷ []) (minus 1 ∷ w 0 ∷ []) (w 1)) (w 1))
    ≡ (0x3FC9999999999998 ∷ 0x3FE999999999999A ∷ [], 0x3B92E3B40A0E9B51, 8)
unfolding opened to_bits
ends_falling = refl

pub ends_ten : printed (minpack dwarf (given ((minus 1 ∷ []) ∷ (minus 1 ∷ w 0 ∷ []) ∷ []) (0 ∷ 1 ∷ []) (w 4 ∷ w 1 ∷ []) (minus 4 ∷ w 0 ∷ []) (w 1)) (over 1 (10 ^ 320)))
    ≡ (0x3FCE1E1E1E1E1E10 ∷ 0x400E1E1E1E1E1E1F ∷ [], 0x3A6D710EA1A39C88, 10)
unfolding opened to_bits
ends_ten = refl

pub ends_pivoted : printed (minpack dwarf (given
    ((w 5 ∷ []) ∷ (w 3 ∷ w 2 ∷ []) ∷ (w 1 ∷ minus 1 ∷ over 1 2 ∷ []) ∷ [])
    (2 ∷ 0 ∷ 1 ∷ [])
    (w 1 ∷ w 3 ∷ over 1 4 ∷ [])
    (w 7 ∷ w 4 ∷ w 3 ∷ [])
    (over 1 2)) plus_zero)
    ≡ (0x3FDC0CAFA2B2565E ∷ 0xBF8443E37B315710 ∷ 0x3FF1896ED386ABC7 ∷ [], 0x402F5B73B3DD6E64, 3)
unfolding opened to_bits
ends_pivoted = refl

-- DPMPAR's decimal for dwarf, and document 01's: R = qt_b = -2^-538, whose product is rounded to zero, so that gnorm is zero
abbrev tiny : Given
tiny = given ((fin true 1 (negsuc 537) ∷ []) ∷ []) (0 ∷ []) (w 1 ∷ []) (fin true 1 (negsuc 537) ∷ []) (over 1 2)

pub dwarf_shows :
    (printed (minpack dwarf tiny plus_zero) ≡ (0x3C90000000000000 ∷ [], 0x0010000000000000, 2))
    × (printed (minpack (over 222507385852 (10 ^ 319)) tiny plus_zero) ≡ (0x3C8FFFFFFFFF35A0 ∷ [], 0x0010000000006531, 3))
unfolding opened to_bits
dwarf_shows = (refl, refl)

-- one row, and an R whose second row is not 0: LMPAR, which is not told m, solves with both; the search's rank is at most m
abbrev short : Problem
short = record { m = 1; upper = (w 1 ∷ []) ∷ (w 1 ∷ w 1 ∷ []) ∷ []; qtb = w 1 ∷ w 1 ∷ []; order = 0 ∷ 1 ∷ []; diag = w 1 ∷ w 1 ∷ []; radius = w 1 }

pub rows_needed :
    (printed (minpack dwarf (given_of short) plus_zero) ≡ (0 ∷ 0x3FF0000000000000 ∷ [], 0, 0))
    × (answer_of short plus_zero ≡ answered (answer plus_zero (w 1) 0 (w 1 ∷ w 0 ∷ [])))
unfolding opened to_bits
rows_needed = (refl, refl)
