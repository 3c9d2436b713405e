-- 01, module 6: the scaling of `update_diag`.
use Rattle.std.specs.Prelude.{Bool, cond, ◌&&◌, not, List, [], ◌∷◌, map, Float}
use Rattle.std.specs.Float.{binary64}
use Rattle.std.specs.Float.Ieee.{mul, eq}
use Rattle.leaves.specs.Number.{plus_zero, one, max_of, is_finite}
use Rattle.measures.specs.declared.scaling.Start.{Start}

-- First scaling: norm, or 1 where it is zero.
unfoldable pub first_scaling : List Float → List Float
first_scaling norms = map (λ s. cond (eq s plus_zero) one s) norms

-- Later: the larger of norm and old entry.
unfoldable pub later_scaling : List Float → List Float → List Float
later_scaling [] ds = []
later_scaling (s ∷ ss) [] = []
later_scaling (s ∷ ss) (d ∷ ds) = max_of s d ∷ later_scaling ss ds

-- The radius: step bound times xnorm, or step bound if xnorm is 0.
unfoldable pub radius_of : Float → Float → Float
radius_of bound xnorm = cond (eq xnorm plus_zero) bound (mul binary64 bound xnorm)

-- xnorm, the norm of the products entry·x (unscaled: of x), and the radius
abbrev pub start_by : Float → Float → Start
start_by bound xnorm = record { xnorm = xnorm; radius = radius_of bound xnorm }

-- 8: xnorm or radius is not finite, or the radius is rounded to zero
abbrev pub usable : Start → Bool
usable t = (is_finite t.xnorm && is_finite t.radius) && not (eq t.radius plus_zero)
