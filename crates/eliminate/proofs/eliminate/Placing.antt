-- One row of the square rotated with the new row, as the code leaves it. Assumes nothing.
use mathlib.Core.Path.{◌≡◌, refl, sym, ap, ◌∙◌}
use mathlib.Core.Bool.{true, false}
use mathlib.Core.List.{List, [], ◌++◌, append_assoc}
use Prim.Native.Nat.{ℕ, ◌+◌, ◌-◌, ◌*◌, ◌<◌, ◌≤◌}
use native.Mathlib.Numerals.{add-one}
use native.Mathlib.Omega.{arith}
use lib.ListN.{length, get_or, take, drop, set, length-drop, length-append}
use lib.Seq.{get_or-drop, get_or-take, length-take-le, take-take, take_at}
use lib.Ieee.{Float, nan, eq}
use Rattle.leaves.specs.Number.{plus_zero}
use Rattle.eliminate.specs.Eliminate.{givens, turned, left, turned_all, left_all}
use Rattle.eliminate.specs.inner.Edges.{edges_of, ahead, TurnsPlace, Ahead, Turns}
use Rattle.eliminate.specs.declared.eliminate.Pair.{Pair}
use Rattle.eliminate.specs.declared.eliminate.Rotation.{Rotation}
use Rattle.leaves.specs.inner.Patch.{patch}
use Rattle.eliminate.proofs.Triangular.{edges_of-length, edge_at, edge_long, lent_rows, lent-above}
use Rattle.leaves.proofs.Splices.{drop-take}
use Rattle.eliminate.proofs.Rotations.{turned-length, left-length, ahead_skipped, ahead-turned, ahead_none}
use Rattle.leaves.specs.inner.Squares.{Square}

-- LAW: one rotation by its own numbers
pub turns_place : (col col' l l' : List Float) (b q : Float) (g : Rotation) → g ≡ givens (get_or col 0 nan) (get_or l 0 nan)
    → col' ≡ turned_all g col l → l' ≡ left_all g col l → TurnsPlace col col' l l' b q (record { b = turned g b q; rest = left g b q })
turns_place col col' l l' b q g e r w = record { row = rw (← e) r; new = rw (← e) w; side = rw (← e); rest = rw (← e) }

-- l is a room in which the new row stands first
module _ (n k : ℕ) (s bs l : List Float) (q : Float) (sq : Square n s) (h : k < n) (hl : n ≤ length l) (hb : length bs ≡ n) where
  long : length (take n l) ≡ n
  long = length-take-le n l hl

  -- LAW: a zero is skipped
  pub place_skipped : eq (get_or l k nan) plus_zero ≡ true → Ahead n s s (ahead n k s bs (take n l) q) (ahead n (k + 1) s bs (take n l) q)
  place_skipped t =
      let e = edges_of-length n s in
      let z = get_or-take n l k nan h in
      record { same = rw add-one (ahead_skipped k (edges_of n s) bs (take n l) q (omega arith) (omega arith) (omega (arith, long)) (rw z t)); above = refl }

  module _ (p : Pair) (y z : List Float) (t : eq (get_or l k nan) plus_zero ≡ false) where
    turned_clean : TurnsPlace (get_or (edges_of n s) k []) y (drop k (take n l)) z (get_or bs k nan) q p
        → (length z ≡ n - k)
        × Ahead n s (patch (k * n + k) (n - k) s y) (ahead n k s bs (take n l) q) (ahead n (k + 1) (patch (k * n + k) (n - k) s y) (set bs k p.b) (take k (take n l) ++ z) p.rest)
    turned_clean m =
        let e = edges_of-length n s in
        let el = edge_long n s sq k h in
        let r = take n l in
        let dl : length (drop k r) ≡ n - k = simp length-drop (omega (arith, long)) in
        let g = givens (get_or (get_or (edges_of n s) k []) 0 nan) (get_or (drop k r) 0 nan) in
        let ly : length y ≡ n - k = ap length m.row ∙ turned-length g (get_or (edges_of n s) k []) (drop k r) (el ∙ sym dl) ∙ el in
        let lz : length z ≡ n - k = ap length m.new ∙ left-length g (get_or (edges_of n s) k []) (drop k r) (el ∙ sym dl) ∙ dl in
        let z0 : get_or (drop k r) 0 nan ≡ get_or r k nan = let a : k + 0 ≡ k = omega arith in rw a at (get_or-drop k r 0 nan) in
        let f : eq (get_or r k nan) plus_zero ≡ false = rw (get_or-take n l k nan h) t in (
          lz,
          record {
            same = rw (lent_rows n s sq k h y ly, m.side, m.rest, m.row, m.new, z0, add-one)
                (ahead-turned k (edges_of n s) bs r q (omega arith) (omega arith) (omega (arith, long)) f (omega arith));
            above = lent-above n s sq k h y ly;
          },
        )

    -- LAW: what is lent from the diagonal on, and of the new row from place k on, comes back rotated
    pub place_turned : (f : ℕ) → f ≡ k * n + k → TurnsPlace (take (f + (n - k) - f) (drop f s)) y (take (n - k) (drop k l)) z (get_or bs k nan) q p
        → Ahead n s (patch f (f + (n - k) - f) s y) (ahead n k s bs (take n l) q) (ahead n (k + 1) (patch f (f + (n - k) - f) s y) (set bs k p.b) (take n (patch k (n - k) l z)) p.rest)
    place_turned f ef m =
        let w : f + (n - k) - f ≡ n - k = omega arith in
        let a : take (f + (n - k) - f) (drop f s) ≡ get_or (edges_of n s) k [] = rw (w, ef) (sym (edge_at n s sq k h)) in
        let c = turned_clean (rw (a, sym (drop-take k n l)) at m) in
        let kl = length-take-le k l (omega arith) in
        let b : take n (patch k (n - k) l z) ≡ take k (take n l) ++ z =
        ap (take n) (sym (append_assoc (take k l) z (drop (n - k) (drop k l))))
        ∙ take_at (take k l ++ z) (drop (n - k) (drop k l)) n (simp length-append (omega (arith, c.0)))
        ∙ ap (λ (x : List Float). x ++ z) (sym (take-take k n l (omega arith))) in
        rw (w, ef, b) c.1

-- LAW: all places done
pub places_done : (n k : ℕ) (s₀ s bs l : List Float) (q : Float) {x : List (List Float) × List Float} → n ≤ k → length bs ≡ n → Ahead n s₀ s x (ahead n k s bs l q) → Turns n s₀ s bs x
places_done n k s₀ s bs l q h hb m =
    let e = ahead_none k (edges_of n s) bs l q (omega (arith, edges_of-length n s)) (omega arith) in
    record {
      rows = ap (λ (r : List (List Float) × List Float). r.0) (sym e ∙ m.same);
      right = ap (λ (r : List (List Float) × List Float). r.1) (sym e ∙ m.same);
      above = m.above;
    }
