-- Steps of the factoring on a bench by columns. Assumes nothing.
use mathlib.Core.Path.{◌≡◌, refl, sym, ap, ◌∙◌}
use mathlib.Core.Bool.{Bool, true, false, cond}
use mathlib.Core.List.{List, [], ◌∷◌}
use Prim.Native.Nat.{ℕ, zero, suc, ◌<◌}
use native.Mathlib.Nat.{not-suc-le-zero, le_of_suc-le-suc}
use native.Mathlib.Omega.{arith}
use lib.ListN.{length, get_or, take, drop, set}
use lib.Seq.{get_or-take, get_or-set_same, get_or-set_other, take-set-lt, set-get_or}
use lib.Ieee.{Float, nan, binary64, div, neg, eq}
use Rattle.leaves.specs.Number.{is_negative, plus_zero}
use Rattle.leaves.specs.Norm.{norm, either, ranges, ranges_of}
use Rattle.leaves.specs.declared.norm.Ranges.{Ranges}
use Rattle.leaves.proofs.Seen.{either_none, ranges_of_one}
use Rattle.reduce.specs.Reduction.{Reduction, reduction, reflect_from, shrunk, renewed, later, signed, remeasured, measured_later}
use Rattle.reduce.specs.inner.Bench.{divided, renewing, measured_renewing, stale}

pub divided-length : (t : Float) (c : List Float) → length (divided t c) ≡ length c
divided-length t [] = refl
divided-length t (x ∷ c) = ap suc (divided-length t c)

pub divided_at : (t : Float) (c : List Float) (i : ℕ) → i < length c → div binary64 (get_or c i nan) t ≡ get_or (divided t c) i nan
divided_at t [] i h = absurd (not-suc-le-zero h)
divided_at t (x ∷ c) zero h = refl
divided_at t (x ∷ c) (suc i) h = divided_at t c i (le_of_suc-le-suc h)

pub signed_is : (s : Float) (c : List Float) (b : Bool) → is_negative (get_or c 0 nan) ≡ b → cond b (neg s) s ≡ signed s c
unfolding signed
signed_is s c b h = rw (h, signed)

-- ---- a partial norm renewed: the three outcomes
module _ (j k : ℕ) (r : Reduction) where
  abbrev d : Float
  d = get_or r.diag k nan

  abbrev c : List Float
  c = get_or r.cols k []

  pub renewed-zero : eq d plus_zero ≡ true → r ≡ renewing j k r
  unfolding renewed renewing
  renewed-zero h = rw (h, renewed) (rw (set-get_or r.diag k nan, set-get_or r.work k nan))

  pub renewed_anew : (z s x : Float) → eq d plus_zero ≡ false → x ≡ get_or c j nan → s ≡ shrunk d x → stale s (get_or r.work k nan) ≡ true
      → z ≡ norm (drop (suc j) c) → reduction r.cols (set r.diag k z) (set r.work k z) r.order r.rhs ≡ renewing j k r
  unfolding renewed renewing
  renewed_anew z s x h ex es t ez =
      let f : s ≡ shrunk d (get_or c j nan) = es ∙ ap (shrunk d) ex in
      rw (ez, h, rw f at t, renewed)

  pub renewed_less : (s x : Float) → eq d plus_zero ≡ false → x ≡ get_or c j nan → s ≡ shrunk d x → stale s (get_or r.work k nan) ≡ false
      → reduction r.cols (set r.diag k s) r.work r.order r.rhs ≡ renewing j k r
  unfolding renewed renewing
  renewed_less s x h ex es t =
      let f : s ≡ shrunk d (get_or c j nan) = es ∙ ap (shrunk d) ex in
      rw (f, h, rw f at t, renewed) (rw (set-get_or r.work k nan))

  -- and what is measured for it
  module _ (seen : Ranges) where
    pub remeasured-zero : eq d plus_zero ≡ true → seen ≡ either seen (ranges_of (measured_renewing j k r))
    unfolding remeasured ranges_of measured_renewing
    remeasured-zero h = sym (rw (h, remeasured) (either_none seen))

    pub remeasured_anew : (more : Ranges) (s x : Float) → eq d plus_zero ≡ false → x ≡ get_or c j nan → s ≡ shrunk d x → stale s (get_or r.work k nan) ≡ true
        → more ≡ ranges (drop (suc j) c) → either seen more ≡ either seen (ranges_of (measured_renewing j k r))
    unfolding remeasured measured_renewing
    remeasured_anew more s x h ex es t em =
        let f : s ≡ shrunk d (get_or c j nan) = es ∙ ap (shrunk d) ex in
        rw (h, rw f at t, remeasured) (ap (either seen) (em ∙ sym (ranges_of_one (drop (suc j) c))))

    pub remeasured_less : (s x : Float) → eq d plus_zero ≡ false → x ≡ get_or c j nan → s ≡ shrunk d x → stale s (get_or r.work k nan) ≡ false
        → seen ≡ either seen (ranges_of (measured_renewing j k r))
    unfolding remeasured ranges_of measured_renewing
    remeasured_less s x h ex es t =
        let f : s ≡ shrunk d (get_or c j nan) = es ∙ ap (shrunk d) ex in
        sym (rw (h, rw f at t, remeasured) (either_none seen))

-- ---- a later column
module _ (n j k : ℕ) (axis : List Float) (g g' : List (List Float)) (d w : List Float) (o : List ℕ) (hk : k < n) (hl : length g ≡ suc n) (e : g' ≡ set g k (reflect_from j axis (get_or g k []))) where
  abbrev r : Reduction
  r = reduction (take n g) d w o (get_or g n [])

  abbrev r' : Reduction
  r' = reduction (take n g') d w o (get_or g' n [])

  same : get_or (take n g') k [] ≡ reflect_from j axis (get_or (take n g) k [])
  same = rw (get_or-take n g' k [] hk, get_or-take n g k [] hk, e) (get_or-set_same g k (reflect_from j axis (get_or g k [])) [] (omega arith))

  pub later-measured : measured_renewing j k r' ≡ measured_later j axis k r
  unfolding measured_later measured_renewing
  later-measured = ap (λ (x : List Float). remeasured (get_or d k nan) (get_or w k nan) (get_or x j nan) (drop (suc j) x)) same

  pub later_law : renewing j k r' ≡ later j axis k r
  unfolding later renewing
  later_law =
      let c : List Float = reflect_from j axis (get_or g k []) in
      let first : take n g' ≡ set (take n g) k c = rw e (take-set-lt n g k c hk) in
      let last : get_or g' n [] ≡ get_or g n [] = rw e (get_or-set_other g k n c [] (λ (q : n ≡ k). omega arith)) in
      rw (same, first, last, get_or-take n g k [] hk)
