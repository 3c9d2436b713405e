-- The room with L below the diagonal and in l_diag: its shape, and that it is the same room as before but for L. Assumes nothing.
use mathlib.Core.Path.{◌≡◌, sym, ap, ◌∙◌}
use mathlib.Core.List.{List}
use Prim.Native.Nat.{ℕ}
use native.Mathlib.Omega.{arith}
use lib.ListN.{length, length-map}
use lib.Ieee.{Float}
use Rattle.factor.specs.Room.{Room, load, lay, leaving, emptied}
use Rattle.leaves.specs.Square.{cleared}
use Rattle.eliminate.specs.Eliminate.{Rows, heads, tails}
use Rattle.factor.proofs.Damped.{cleared-same}
use Rattle.factor.proofs.Layouts.{load-lay}
use Rattle.eliminate.proofs.Triangular.{heads-length}
use Rattle.factor.specs.PivotOrder.{lowered}
use Rattle.search.proofs.Shapes.{Even, tri_length, tails_tall}
use Rattle.factor.specs.inner.Rooms.{Shaped}

module _ (n : ℕ) (l : Rows) (r : Room) (z : Shaped n r) (e : Even n l) where
  tails-wide : length (tails l.0) ≡ n
  unfolding tails
  tails-wide = length-map l.0 _ ∙ tri_length n l.0 e.0

  heads_long : length (heads l.0) ≡ n
  heads_long = heads-length l.0 ∙ tri_length n l.0 e.0

  pub lowered_shaped : Shaped n (lowered l r)
  unfolding lowered
  lowered_shaped = record {
    upper_wide = z.upper_wide;
    upper_tall = z.upper_tall;
    below_wide = tails-wide;
    below_tall = tails_tall n l.0 e.0;
    qtb_long = z.qtb_long;
    norms_long = z.norms_long;
    ldiag_long = heads_long;
    work_long = z.work_long;
  }

  -- LAW: but for L it is the room from before
  pub lowered-emptied : emptied (lowered l r) ≡ emptied r
  unfolding lowered leaving
  lowered-emptied =
      let w = tails-wide in
      let c : cleared (tails l.0) ≡ cleared r.below =
      cleared-same (tails l.0) r.below (w ∙ sym z.below_wide) (λ k h. tails_tall n l.0 e.0 k (omega arith) ∙ sym (z.below_tall k (omega arith))) in
      rw (c, heads_long ∙ sym z.ldiag_long)

  pub lowered_loaded : {s : List Float} → s ≡ lay (lowered l r) → load n s ≡ lowered l r
  lowered_loaded h = ap (λ (s : List Float). load n s) h ∙ load-lay n (lowered l r) lowered_shaped
