-- What the workings of a factoring say of what they are lent. No public contract cites these.
use Rattle.std.specs.Prelude.{◌≡◌, ◌*◌, List, take, drop, Float}
use Rattle.factor.specs.declared.store.PivotedQR.{PivotedQR}
use Rattle.leaves.specs.Triangle.{columns}
use Rattle.reduce.specs.Reduction.{Reduction, reduction_of}

-- the Jacobian and the residuals that stand in the bench
abbrev pub jacobian_of : PivotedQR → List (List Float)
jacobian_of q = columns q.m q.n (take (q.m * q.n) q.bench.now)

abbrev pub residuals_of : PivotedQR → List Float
residuals_of q = take q.m (drop (q.m * q.n) q.bench.now)

-- and what they are reduced to
abbrev pub reduced_of : PivotedQR → Reduction
reduced_of q = reduction_of q.m q.n (jacobian_of q) (residuals_of q)

-- of the same sizes, in the same slices
pub record Same (p q : PivotedQR) : Type 0 where
  pub rows : q.m ≡ p.m
  pub across : q.n ≡ p.n
  pub store : q.store.ghost_name ≡ p.store.ghost_name
  pub order : q.order.ghost_name ≡ p.order.ghost_name
  pub bench : q.bench.ghost_name ≡ p.bench.ghost_name
