-- One step after another on what is lent. Assumes nothing.
use mathlib.Core.Path.{◌≡◌, refl, sym, ap, ◌∙◌}
use mathlib.Core.List.{List, []}
use Prim.Native.Nat.{ℕ, suc, ◌+◌, ◌*◌, ◌<◌}
use native.Mathlib.Omega.{arith}
use lib.ListN.{get_or, take}
use lib.Seq.{get_or-take}
use lib.Ieee.{Float, nan}
use Rattle.leaves.proofs.Grids.{grid_read}
use Rattle.reduce.specs.declared.pivoted.PivotedQR.{PivotedQR}
use Rattle.reduce.specs.Reduction.{reduction}
use Rattle.reduce.specs.inner.Bench.{under_way}
use Rattle.reduce.specs.inner.Going.{grid_of, going, Same, Beside}

pub same-none : (p : PivotedQR) → Same p p
same-none p = record { rows = refl; across = refl; bench = refl; diag = refl; work = refl; order = refl }

pub same-then : {p q r : PivotedQR} → Same p q → Same q r → Same p r
same-then a b = record { rows = b.rows ∙ a.rows; across = b.across ∙ a.across; bench = b.bench ∙ a.bench; diag = b.diag ∙ a.diag; work = b.work ∙ a.work; order = b.order ∙ a.order }

-- what is under way, by the sizes before
pub same-going : {p q : PivotedQR} → Same p q → under_way p.m p.n q.bench.now q.diag.now q.work.now q.order.now ≡ going q
same-going s = rw (s.rows, s.across) refl

-- column k, and its row j where it stands
module _ (q : PivotedQR) (k : ℕ) (h : k < q.n) where
  pub column_of : get_or (grid_of q) k [] ≡ get_or (going q).cols k []
  column_of = sym (get_or-take q.n (grid_of q) k [] h)

  pub cell_of : (j a : ℕ) → a ≡ k * q.m + j → j < q.m → get_or q.bench.now a nan ≡ get_or (get_or (going q).cols k []) j nan
  cell_of j a e l = grid_read q.m (suc q.n) q.bench.now k j a e (omega arith) l ∙ ap (λ (c : List Float). get_or c j nan) column_of

-- nothing but the bench changed: what is under way then
pub beside-going : {p q : PivotedQR} → Beside p q → going q ≡ reduction (take p.n (grid_of q)) p.diag.now p.work.now p.order.now (get_or (grid_of q) p.n [])
beside-going b = rw (b.same.across, b.diag, b.work, b.order) refl
