-- 01, module 7: what a search is asked, and the steps that it tries.
use Rattle.std.specs.Prelude.{ℕ, List, [], map, length, Float}
use Rattle.std.specs.Float.{binary64}
use Rattle.std.specs.Float.Ieee.{div}
use Rattle.leaves.specs.Norm.{norm}
use Rattle.leaves.specs.Root.{root_s}
use Rattle.leaves.specs.Vector.{scale_all}
use Rattle.leaves.specs.Product.{product_all}
use Rattle.leaves.specs.Square.{zeros}
use Rattle.factor.specs.Solve.{zero_solved, scatter, gather, damped_solved}
use Rattle.eliminate.specs.Eliminate.{Rows, damping, heads, tails}
use Rattle.factor.specs.Held.{forward_upper, forward_lower}

-- R by columns, qt_b and the order of a factored problem of m rows; the scaling and the radius
pub record Problem : Type 0 where
  pub m : ℕ
  pub upper : List (List Float)
  pub qtb : List Float
  pub order : List ℕ
  pub diag : List Float
  pub radius : Float

-- a solve's numbers, which come in pivot order, each at its column
unfoldable pub placed : Problem → List Float → List Float
placed p xs = scatter p.order xs (zeros (length xs))

-- the undamped step, and the step for a lambda: the damping is scaling times the root of lambda
unfoldable pub undamped_step : Problem → List Float
undamped_step p = placed p (zero_solved p.m p.upper p.qtb)

unfoldable pub damped_rows : Problem → Float → Rows
damped_rows p lambda = damping (gather p.order (scale_all (root_s lambda) p.diag)) p.upper p.qtb

unfoldable pub damped_step : Problem → Float → List Float
damped_step p lambda = let l = damped_rows p lambda in placed p (damped_solved (heads l.0) (tails l.0) l.1)

-- the scaled step, and the scaled norm: of the products step·scaling
abbrev pub scaled_step : Problem → List Float → List Float
scaled_step p step = product_all step p.diag

abbrev pub scaled_norm : Problem → List Float → Float
scaled_norm p step = norm (scaled_step p step)

-- the right side of the held solve: the scaled step over its norm, times the scaling once more, in pivot order
unfoldable pub direction : Problem → List Float → List Float
direction p step =
    let v = scaled_step p step in
    gather p.order (product_all (map (λ x. div binary64 x (norm v)) v) p.diag)

-- the norm of what the held solve gives, with R and with L
unfoldable pub undamped_slope : Problem → List Float → Float
undamped_slope p step = norm (forward_upper [] p.upper (direction p step))

unfoldable pub damped_slope : Problem → Float → List Float → Float
damped_slope p lambda step = let l = damped_rows p lambda in norm (forward_lower (heads l.0) (tails l.0) (direction p step))

-- ((fp/delta)/norm)/norm
unfoldable pub newton : Float → Float → Float → Float
newton fp radius slope = div binary64 (div binary64 (div binary64 fp radius) slope) slope
