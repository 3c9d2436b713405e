-- QRSOLV of MINPACK-1 (`specs/Qrsolv.antt`), in place and by indices, is the base's elimination and damped solve, for every triangular r, every
-- permutation, scaling and right side, infinities and NaN too. Of its work arrays, and of what stands below r's diagonal, nothing is read before it is
-- written. Assumes nothing.
use mathlib.Core.Path.{◌≡◌, refl, sym, ap, ap₂, ◌∙◌}
use mathlib.Core.Bool.{true}
use mathlib.Core.List.{List, [], ◌++◌}
use Prim.Native.Nat.{ℕ, suc, ◌+◌, ◌-◌, ◌<◌, ◌≤◌}
use native.Mathlib.Omega.{arith}
use lib.ListN.{length, take, get_or, length-map, length-replicate}
use lib.Seq.{length-take-le}
use lib.Ieee.{Float, nan}
use Rattle.leaves.specs.Number.{plus_zero}
use Rattle.leaves.specs.Square.{zeros, diagonal}
use Rattle.leaves.proofs.Squares.{diagonal-length}
use Rattle.factor.specs.Tests.{is_permutation}
use Rattle.factor.specs.Solve.{rank, scatter, gather, backward, damped_solved}
use Rattle.factor.proofs.Solves.{rank_most, gather-length}
use Rattle.factor.proofs.Backs.{back_length}
use Rattle.eliminate.specs.Eliminate.{Rows, rows_from, damping, heads, tails}
use Rattle.eliminate.specs.inner.Edges.{aboves_from}
use Rattle.eliminate.proofs.Triangular.{heads-length}
use Rattle.search.specs.Qrsolv.{unset, whole, Copied, Cut, Solved, do20, do100, do110, do140, do160, qrsolv}
use Rattle.search.proofs.Shapes.{Even, tri_length, rows_even, damped-length, damping-fits}
use Rattle.search.proofs.QrsolvPlaces.{laid, Rising, rising_of}
use Rattle.search.proofs.QrsolvCopy.{above_rising, above-length, diagonal_on, copied, do20_is}
use Rattle.search.proofs.QrsolvTurns.{work}
use Rattle.search.proofs.QrsolvElimination.{Made, do100_is}
use Rattle.search.proofs.QrsolvSolution.{cut, do110_is, do140_is, placed_is}

module _ (r : List (List Float)) (ipvt : List ℕ) (diag qtb : List Float) (pivots : length ipvt ≡ length r) (long : length qtb ≡ length r)
    (tall : (k : ℕ) → k < length r → length (get_or r k []) ≡ suc k) (order : is_permutation (length r) ipvt ≡ true) where
  abbrev n : ℕ
  n = length r

  abbrev rows : Rows
  rows = damping (gather ipvt diag) r qtb

  abbrev s : List (List Float)
  s = laid r (tails rows.0)

  abbrev xs : List Float
  xs = damped_solved (heads rows.0) (tails rows.0) rows.1

  fit : Even n rows
  fit = damping-fits (gather ipvt diag) r qtb (gather-length ipvt diag ∙ pivots) long

  rising : Rising 1 r
  rising = rising_of 1 r (λ k h. tall k h ∙ omega arith)

  heads_long : length (heads rows.0) ≡ n
  heads_long = heads-length rows.0 ∙ tri_length n rows.0 fit.0

  -- to 20
  copy_is : do20 n qtb n 0 (copied (whole n r) (unset n) (unset n)) ≡ copied (laid (aboves_from 0 r) (rows_from 0 r)) (diagonal r) qtb
  copy_is =
      let u : length (unset n) ≡ n = length-replicate n nan in
      do20_is n qtb n 0 [] r [] (unset n) [] (unset n) [] qtb refl refl refl refl refl rising refl u u long (omega arith)

  -- to 100
  made : Made s (heads rows.0) rows.1 (do100 n ipvt diag (diagonal r) n 0 (work (laid (aboves_from 0 r) (rows_from 0 r)) (unset n) qtb plus_zero))
  unfolding damping
  made =
      let m = do100_is n ipvt diag (diagonal r) n 0 (aboves_from 0 r) [] ipvt [] (diagonal r) refl refl pivots refl refl (diagonal-length 0 r) (above_rising 0 r rising) (above-length 0 r) (omega arith)
      [] (rows_from 0 r) [] (unset n) [] qtb plus_zero refl refl refl (rows_even 0 r) (length-replicate n nan) long in
      record { r_is = m.r_is ∙ ap (λ (us : List (List Float)). laid us (tails rows.0)) (diagonal_on 0 r rising); sdiag_is = m.sdiag_is; wa_is = m.wa_is }

  -- to 150
  abbrev k : ℕ
  k = rank (heads rows.0)

  abbrev solved : List Float
  solved = backward (take k (heads rows.0)) (take k (tails rows.0)) (take k rows.1)

  k_most : k ≤ n
  k_most = omega (arith, rank_most (heads rows.0), heads_long)

  solved_is : solved ++ zeros (length rows.1 - k) ≡ xs
  unfolding damped_solved tails
  solved_is =
      let h = k_most in
      let wide : length (tails rows.0) ≡ n = length-map rows.0 _ ∙ tri_length n rows.0 fit.0 in
      let a = length-take-le k (heads rows.0) (omega (arith, heads_long)) in
      let b = length-take-le k (tails rows.0) (omega arith) in
      let c = length-take-le k rows.1 (omega (arith, fit.1)) in
      let l : length solved ≡ k = back_length (take k (heads rows.0)) (take k (tails rows.0)) (take k rows.1) (a ∙ sym c) (b ∙ sym c) ∙ c in
      ap (λ (i : ℕ). solved ++ zeros (length rows.1 - i)) (sym l)

  abbrev found : Cut
  found = cut (0 + k) (take k rows.1 ++ zeros (length rows.1 - k))

  cut_is : do110 n (heads rows.0) n 0 (cut n rows.1) ≡ found
  cut_is = ap (λ (i : ℕ). do110 n (heads rows.0) i 0 (cut n rows.1)) (sym heads_long)
      ∙ do110_is n (heads rows.0) [] (heads rows.0) [] rows.1 0 refl refl refl (heads_long ∙ sym fit.1) (omega (arith, heads_long))

  system_is : do140 (0 + k) s (heads rows.0) (0 + k) (take k rows.1 ++ zeros (length rows.1 - k)) ≡ xs
  unfolding do140
  system_is =
      do140_is (0 + k) s (heads rows.0) k n 0 [] r rows.0 [] (heads rows.0) [] (take k rows.1) (zeros (length rows.1 - k)) refl refl refl refl refl rising refl fit.0 heads_long
      (length-take-le k rows.1 (omega (arith, fit.1, k_most))) k_most refl
      ∙ solved_is

  -- 160: x held r's diagonal
  step_is : do160 ipvt xs n 0 (diagonal r) ≡ scatter ipvt xs (zeros (length xs))
  step_is = placed_is n ipvt xs (diagonal r) order pivots (damped-length (heads rows.0) (tails rows.0) rows.1 ∙ fit.1) (diagonal-length 0 r)

  abbrev from110 : List Float → List (List Float) → List Float → Cut → Solved
  from110 x r' sdiag t = record { x = do160 ipvt (do140 t.nsing r' sdiag t.nsing t.wa) n 0 x; sdiag = sdiag; r = r' }

  abbrev from100 : List Float → List (List Float) → List Float → List Float → Solved
  from100 x r' sdiag wa = from110 x r' sdiag (do110 n sdiag n 0 (cut n wa))

  abbrev from20 : Copied → Solved
  from20 c = let w = do100 n ipvt diag c.x n 0 (work c.r (unset n) c.wa plus_zero) in from100 c.x w.r w.sdiag w.wa

  -- LAW
  pub qrsolv_is : qrsolv n r ipvt diag qtb ≡ record { x = scatter ipvt xs (zeros (length xs)); sdiag = heads rows.0; r = laid r (tails rows.0) }
  unfolding qrsolv
  qrsolv_is =
      let w = do100 n ipvt diag (diagonal r) n 0 (work (laid (aboves_from 0 r) (rows_from 0 r)) (unset n) qtb plus_zero) in
      ap from20 copy_is
      ∙ ap₂ (λ (a : List (List Float)) (b : List Float). from100 (diagonal r) a b w.wa) made.r_is made.sdiag_is
      ∙ ap (from100 (diagonal r) s (heads rows.0)) made.wa_is
      ∙ ap (from110 (diagonal r) s (heads rows.0)) cut_is
      ∙ ap (λ (x : List Float). record { x = do160 ipvt x n 0 (diagonal r); sdiag = heads rows.0; r = s }) system_is
      ∙ ap (λ (x : List Float). record { x = x; sdiag = heads rows.0; r = s }) step_is
