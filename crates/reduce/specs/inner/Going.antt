-- What the workings of the reduction say of what they are lent. No public contract cites these.
use Rattle.std.specs.Prelude.{◌≡◌, List, map, Float}
use Rattle.leaves.specs.Norm.{norm, either, ranges_of}
use Rattle.reduce.specs.declared.pivoted.PivotedQR.{PivotedQR}
use Rattle.reduce.specs.Reduction.{Reduction}
use Rattle.reduce.specs.inner.Bench.{grid, under_way}

-- the columns, and the residuals as one more
abbrev pub grid_of : PivotedQR → List (List Float)
grid_of q = grid q.m q.n q.bench.now

abbrev pub going : PivotedQR → Reduction
going q = under_way q.m q.n q.bench.now q.diag.now q.work.now q.order.now

-- of the same sizes, in the same slices
pub record Same (p q : PivotedQR) : Type 0 where
  pub rows : q.m ≡ p.m
  pub across : q.n ≡ p.n
  pub bench : q.bench.ghost_name ≡ p.bench.ghost_name
  pub diag : q.diag.ghost_name ≡ p.diag.ghost_name
  pub work : q.work.ghost_name ≡ p.work.ghost_name
  pub order : q.order.ghost_name ≡ p.order.ghost_name

-- and nothing but the bench changed
pub record Beside (p q : PivotedQR) : Type 0 where
  pub same : Same p q
  pub diag : q.diag.now ≡ p.diag.now
  pub work : q.work.now ≡ p.work.now
  pub order : q.order.now ≡ p.order.now
  pub seen : q.seen ≡ p.seen

-- before the first column is reduced: r_diag has the norms of the columns, whose flags are those so far
pub record Begun (q : PivotedQR) : Type 0 where
  pub norms : q.diag.now ≡ map norm (going q).cols
  pub flags : q.seen ≡ ranges_of (going q).cols

-- a step that measures what g says hands its flags on
abbrev pub Sees : (Reduction → List (List Float)) → PivotedQR → PivotedQR → Type 0
Sees g p q = q.seen ≡ either p.seen (ranges_of (g (going p)))
