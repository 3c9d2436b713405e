-- 02, #108: the room of a lent store and that of the store without the frozen columns; and the rooms that calls with marks leave. Assumes nothing.
use mathlib.Core.Path.{◌≡◌, refl, sym, ap, ◌∙◌}
use mathlib.Core.List.{List, [], ◌∷◌}
use Prim.Native.Nat.{ℕ, zero, suc, ◌-◌, ◌<◌, ◌≤◌}
use native.Mathlib.Omega.{arith}
use lib.ListN.{length, take, get_or, length-take, length-append, length-replicate}
use lib.Ieee.{Float}
use Rattle.leaves.specs.Number.{plus_zero}
use Rattle.leaves.specs.Square.{uppers_from, belows_from, zeros, cleared}
use Rattle.leaves.specs.Triangle.{columns}
use Rattle.leaves.proofs.Squares.{columns-length}
use Rattle.frozen.specs.Narrowed.{narrowed}
use Rattle.frozen.proofs.Reduces.{uppers_fewer, belows_fewer, uppers_cut, belows_cut, cut_from, narrowed-columns, narrowed_part}
use Rattle.factor.specs.Room.{Room, part, load, lay, leaving}
use Rattle.factor.specs.Solve.{padded}
use Rattle.factor.specs.State.{store_need}
use Rattle.factor.specs.inner.Rooms.{Sized, Shaped}
use Rattle.factor.proofs.Layouts.{load-lay, load_shaped, leaving_shaped, rested_shaped, emptied_shaped}
use Rattle.calls.specs.declared.state.State.{State}
use Rattle.calls.specs.State.{cols}
use Rattle.calls.specs.Outcome.{widened}
use Rattle.demands.specs.Calls.{zero_solve, damped_solve, held_solve, held_product, gradient, above, jx_norm, scaling, determined, non_singular}
use Rattle.demands.specs.History.{Call, base, search}
use Rattle.demands.specs.Alike.{Alike, HeldAlike}
use Rattle.demands.specs.Marked.{store_back}

-- ---- the narrow room by the wide one
module _ (n free : ℕ) (s : List Float) (fits : free ≤ n) (long : store_need n ≤ length s) where
  abbrev wide : Room
  wide = load n s

  abbrev narrow : Room
  narrow = load free (narrowed n free s)

  some-columns : length (take free (columns n n s)) ≤ free
  some-columns = let e = columns-length n n s in simp length-take (omega arith)

  pub narrow-upper : narrow.upper ≡ take free wide.upper
  unfolding load
  narrow-upper =
      ap (λ (cs : List (List Float)). uppers_from 0 cs) (narrowed-columns n free s fits long) ∙ uppers_cut free 0 (take free (columns n n s)) (let e = some-columns in omega arith)
      ∙ uppers_fewer 0 free (columns n n s)

  pub narrow_below : narrow.below ≡ cut_from free 0 (take free wide.below)
  unfolding load
  narrow_below =
      ap (λ (cs : List (List Float)). belows_from 0 cs) (narrowed-columns n free s fits long) ∙ belows_cut free 0 (take free (columns n n s))
      ∙ ap (λ (ls : List (List Float)). cut_from free 0 ls) (belows_fewer 0 free (columns n n s))

  pub narrow_qtb : narrow.qtb ≡ take free wide.qtb
  unfolding load part
  narrow_qtb = narrowed_part n free s fits long 0 (omega arith)

  pub narrow-norms : narrow.norms ≡ take free wide.norms
  unfolding load part
  narrow-norms = narrowed_part n free s fits long 1 (omega arith)

  pub narrow_ldiag : narrow.ldiag ≡ take free wide.ldiag
  unfolding load part
  narrow_ldiag = narrowed_part n free s fits long 2 (omega arith)

-- LAW: stores with the same in them have it without the frozen columns too
module _ (n free : ℕ) (s t : List Float) (fits : free ≤ n) (p : store_need n ≤ length s) (q : store_need n ≤ length t) where
  pub narrow-alike : Alike (load n s) (load n t) → Alike (load free (narrowed n free s)) (load free (narrowed n free t))
  narrow-alike a = record {
    upper = narrow-upper n free s fits p ∙ ap (λ (x : List (List Float)). take free x) a.upper ∙ sym (narrow-upper n free t fits q);
    qtb = narrow_qtb n free s fits p ∙ ap (λ (x : List Float). take free x) a.qtb ∙ sym (narrow_qtb n free t fits q);
    norms = narrow-norms n free s fits p ∙ ap (λ (x : List Float). take free x) a.norms ∙ sym (narrow-norms n free t fits q);
  }

  pub narrow-held-alike : HeldAlike (load n s) (load n t) → HeldAlike (load free (narrowed n free s)) (load free (narrowed n free t))
  narrow-held-alike a = record {
    below = narrow_below n free s fits p ∙ ap (λ (x : List (List Float)). cut_from free 0 (take free x)) a.below ∙ sym (narrow_below n free t fits q);
    ldiag = narrow_ldiag n free s fits p ∙ ap (λ (x : List Float). take free x) a.ldiag ∙ sym (narrow_ldiag n free t fits q);
  }

-- ---- the lower part of fewer columns, in n

pub padded-length : (k : ℕ) (l : List Float) → length l ≤ k → length (padded k l) ≡ k
padded-length k l h = let e = length-replicate (k - length l) plus_zero in length-append l (zeros (k - length l)) ∙ omega arith

pub widened-wide : (n : ℕ) (ls : List (List Float)) → length (widened n ls) ≡ n
unfolding widened
widened-wide zero ls = refl
widened-wide (suc k) [] = ap suc (widened-wide k [])
widened-wide (suc k) (l ∷ ls) = ap suc (widened-wide k ls)

-- a lower part none of whose columns is too long
pub widened_tall : (n : ℕ) (ls : List (List Float)) → ((k : ℕ) → k < length ls → length (get_or ls k []) ≤ n - suc k)
    → (k : ℕ) → k < n → length (get_or (widened n ls) k []) ≡ n - suc k
unfolding widened
widened_tall zero ls h k p = absurd (omega arith)
widened_tall (suc n) [] h zero p = length-replicate n plus_zero ∙ omega arith
widened_tall (suc n) [] h (suc k) p = widened_tall n [] (λ i q. absurd (omega arith)) k (omega arith) ∙ omega arith
widened_tall (suc n) (l ∷ ls) h zero p = let a = h 0 (omega arith) in padded-length n l (omega arith) ∙ omega arith
widened_tall (suc n) (l ∷ ls) h (suc k) p = widened_tall n ls (λ i q. let a = h (suc i) (omega arith) in omega arith) k (omega arith) ∙ omega arith

-- ---- the rooms that calls leave
unfoldable pub below_left : Call → State → Room → Room → List (List Float)
below_left (base (zero_solve out)) st small r = cleared r.below
below_left (base (damped_solve diag out)) st small r = widened st.n small.below
below_left (base (held_solve rhs out)) st small r = r.below
below_left (base (held_product out)) st small r = r.below
below_left (base (gradient bnorm)) st small r = r.below
below_left (base (above bnorm limit)) st small r = r.below
below_left (base (jx_norm x)) st small r = r.below
below_left (base (scaling md diag x bound)) st small r = r.below
below_left (base determined) st small r = r.below
below_left (base non_singular) st small r = r.below
below_left (search diag radius lambda out) st small r = cleared r.below

unfoldable pub ldiag_left : Call → State → Room → Room → List Float
ldiag_left (base (zero_solve out)) st small r = zeros (length r.ldiag)
ldiag_left (base (damped_solve diag out)) st small r = padded st.n small.ldiag
ldiag_left (base (held_solve rhs out)) st small r = r.ldiag
ldiag_left (base (held_product out)) st small r = r.ldiag
ldiag_left (base (gradient bnorm)) st small r = r.ldiag
ldiag_left (base (above bnorm limit)) st small r = r.ldiag
ldiag_left (base (jx_norm x)) st small r = r.ldiag
ldiag_left (base (scaling md diag x bound)) st small r = r.ldiag
ldiag_left (base determined) st small r = r.ldiag
ldiag_left (base non_singular) st small r = r.ldiag
ldiag_left (search diag radius lambda out) st small r = zeros (length r.ldiag)

module _ (st : State) (small s : List Float) where
  abbrev pub left_in : Call → Room
  left_in c = let r = load st.n s in leaving (below_left c st (load (cols st) small) r) (ldiag_left c st (load (cols st) small) r) r

  pub store_laid : (c : Call) → store_back c st small s ≡ lay (left_in c)
  unfolding store_back below_left ldiag_left
  store_laid (base (zero_solve out)) = refl
  store_laid (base (damped_solve diag out)) = refl
  store_laid (base (held_solve rhs out)) = refl
  store_laid (base (held_product out)) = refl
  store_laid (base (gradient bnorm)) = refl
  store_laid (base (above bnorm limit)) = refl
  store_laid (base (jx_norm x)) = refl
  store_laid (base (scaling md diag x bound)) = refl
  store_laid (base determined) = refl
  store_laid (base non_singular) = refl
  store_laid (search diag radius lambda out) = refl

  module _ (z : Sized st.n s) (y : Sized (cols st) small) (fits : cols st ≤ st.n) where
    shaped : Shaped st.n (load st.n s)
    shaped = load_shaped st.n s z

    damped_shaped : Shaped st.n (leaving (widened st.n (load (cols st) small).below) (padded st.n (load (cols st) small).ldiag) (load st.n s))
    damped_shaped =
        let w = load_shaped (cols st) small y in
        let a = w.below_wide in
        let b = w.ldiag_long in
        leaving_shaped st.n (load st.n s) shaped (widened st.n (load (cols st) small).below) (padded st.n (load (cols st) small).ldiag) (widened-wide st.n (load (cols st) small).below)
        (widened_tall st.n (load (cols st) small).below (λ k h. let e = w.below_tall k (omega arith) in omega arith)) (padded-length st.n (load (cols st) small).ldiag (omega arith))

    pub left_shaped : (c : Call) → Shaped st.n (left_in c)
    unfolding below_left ldiag_left
    left_shaped (base (zero_solve out)) = emptied_shaped st.n (load st.n s) shaped
    left_shaped (base (damped_solve diag out)) = damped_shaped
    left_shaped (base (held_solve rhs out)) = rested_shaped st.n (load st.n s) shaped
    left_shaped (base (held_product out)) = rested_shaped st.n (load st.n s) shaped
    left_shaped (base (gradient bnorm)) = rested_shaped st.n (load st.n s) shaped
    left_shaped (base (above bnorm limit)) = rested_shaped st.n (load st.n s) shaped
    left_shaped (base (jx_norm x)) = rested_shaped st.n (load st.n s) shaped
    left_shaped (base (scaling md diag x bound)) = rested_shaped st.n (load st.n s) shaped
    left_shaped (base determined) = rested_shaped st.n (load st.n s) shaped
    left_shaped (base non_singular) = rested_shaped st.n (load st.n s) shaped
    left_shaped (search diag radius lambda out) = emptied_shaped st.n (load st.n s) shaped

    -- LAW
    pub room_left : (c : Call) → load st.n (store_back c st small s) ≡ left_in c
    room_left c = ap (λ (x : List Float). load st.n x) (store_laid c) ∙ load-lay st.n (left_in c) (left_shaped c)
