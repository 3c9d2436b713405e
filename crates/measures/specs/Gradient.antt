-- 01, module 6: the gradient's measure, with the question of 02, #105, beside it, and the norm of Jx.
use Rattle.std.specs.Prelude.{Bool, true, false, cond, List, [], ◌∷◌, length, take, Float}
use Rattle.std.specs.Float.{binary64}
use Rattle.std.specs.Float.Ieee.{div, eq, lt, is_nan}
use Rattle.leaves.specs.Reply.{Reply, answered, refused}
use Rattle.leaves.specs.Number.{plus_zero, abs_of, max_of, is_finite}
use Rattle.leaves.specs.Vector.{dot_of, axpy_all}
use Rattle.leaves.specs.Norm.{norm, ranges}
use Rattle.leaves.specs.Product.{divided_by}
use Rattle.leaves.specs.Square.{zeros}
use Rattle.leaves.specs.declared.norm.Ranges.{Ranges}

-- the measures of the columns in pivot order, given their norms; the gradient skips columns of norm zero
unfoldable pub measures : List Float → List (List Float) → List Float → List Float
measures b [] ss = []
measures b (c ∷ cs) [] = []
measures b (c ∷ cs) (s ∷ ss) =
    cond (eq s plus_zero) (measures b cs ss) (abs_of (div binary64 (dot_of c (take (length c) b)) s) ∷ measures b cs ss)

-- the largest; 8 where one is NaN (the Rust gives None), or where the largest is not finite
unfoldable pub largest : Float → List Float → Reply Float
largest top [] = cond (is_finite top) (answered top) (refused 8)
largest top (x ∷ xs) = elim (is_nan x) [ true ↦ refused 8 | false ↦ largest (max_of top x) xs ]

-- with the column norms in pivot order
unfoldable pub gradient : List Float → Float → List (List Float) → List Float → Reply Float
gradient ss bnorm upper qtb = largest plus_zero (measures (divided_by bnorm qtb) upper ss)

-- 02, #105: whether a measure is above the limit. They are asked in pivot order: the first that is not finite ends it with 8, the first above the
-- limit with yes, whatever comes after.
unfoldable pub above : Float → List Float → Reply Bool
above limit [] = answered false
above limit (x ∷ xs) = elim (is_finite x) [ true ↦ cond (lt limit x) (answered true) (above limit xs) | false ↦ refused 8 ]

-- of the same measures
unfoldable pub above_limit : List Float → Float → Float → List (List Float) → List Float → Reply Bool
above_limit ss bnorm limit upper qtb = above limit (measures (divided_by bnorm qtb) upper ss)

-- R's columns times the entries of x, in pivot order, added up
unfoldable pub combined : List Float → List (List Float) → List Float → List Float
combined w [] xs = w
combined w (c ∷ cs) [] = w
combined w (c ∷ cs) (x ∷ xs) = combined (axpy_all x c w) cs xs

unfoldable pub jx_norm_of : List Float → List (List Float) → Float
jx_norm_of xs upper = norm (combined (zeros (length upper)) upper xs)

-- 02, #106: the flags of that one norm, of a number for each column
unfoldable pub jx_ranges : List Float → List (List Float) → Ranges
jx_ranges xs upper = ranges (combined (zeros (length upper)) upper xs)
