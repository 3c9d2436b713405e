-- 01, module 7: the bounds that a search starts from.
use Rattle.std.specs.Prelude.{false, cond, List, [], ◌∷◌, length, Float}
use Rattle.std.specs.Float.{binary64}
use Rattle.std.specs.Float.Ieee.{mul, div, eq, round}
use Rattle.leaves.specs.Number.{plus_zero, dwarf, max_of, min_of}
use Rattle.leaves.specs.Norm.{norm}
use Rattle.factor.specs.Held.{mul_upper}
use Rattle.factor.specs.Solve.{non_singular_of, gather}
use Rattle.search.specs.Problem.{Problem, undamped_slope, newton}

-- 0.1 and 0.001, as the doubles nearest to them
unfoldable pub tenth : Float
tenth = round binary64 false 1 10

unfoldable pub thousandth : Float
thousandth = round binary64 false 1 1000

-- delta·0.1
unfoldable pub band : Float → Float
band radius = mul binary64 radius tenth

-- The lower bound is Newton's where R is non-singular, else 0.
unfoldable pub lower_bound_of : Problem → List Float → Float → Float
lower_bound_of p step fp = cond (non_singular_of p.m (length p.upper) p.upper) (newton fp p.radius (undamped_slope p step)) plus_zero

-- entry by entry
unfoldable pub quotients : List Float → List Float → List Float
quotients [] ds = []
quotients (x ∷ xs) [] = []
quotients (x ∷ xs) (d ∷ ds) = div binary64 x d ∷ quotients xs ds

-- gnorm: the norm of Rᵀ·qt_b over the scaling
unfoldable pub gnorm : Problem → Float
gnorm p = norm (quotients (mul_upper p.qtb p.upper) (gather p.order p.diag))

-- The upper bound is gnorm/delta; dwarf/min(delta, 0.1) where that is zero. It may be infinite.
unfoldable pub upper_bound : Float → Float → Float
upper_bound g radius =
    let u = div binary64 g radius in
    cond (eq u plus_zero) (div binary64 dwarf (min_of radius tenth)) u

-- the first lambda: within the bounds, or gnorm over the undamped norm where that is zero
unfoldable pub first_lambda : Float → Float → Float → Float → Float → Float
first_lambda initial lower upper g undamped =
    let l = min_of (max_of initial lower) upper in
    cond (eq l plus_zero) (div binary64 g undamped) l

-- a lambda of zero is replaced before a trial
unfoldable pub raised : Float → Float → Float
raised lambda upper = cond (eq lambda plus_zero) (max_of dwarf (mul binary64 upper thousandth)) lambda
