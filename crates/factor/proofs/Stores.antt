-- What factoring starts from, and the store that it leaves. Assumes nothing.
use mathlib.Core.Path.{◌≡◌, sym, ap, ◌∙◌}
use mathlib.Core.List.{List, ◌++◌, append_assoc}
use Prim.Native.Nat.{ℕ, ◌+◌, ◌*◌, ◌≤◌}
use native.Mathlib.Omega.{arith}
use lib.ListN.{length, take, drop, length-append, length-replicate, length-drop, take-append-drop, replicate-append-replicate}
use lib.Seq.{length-take-le, take_at, drop_at, drop-drop}
use lib.Ieee.{Float}
use Rattle.leaves.specs.Number.{plus_zero}
use Rattle.leaves.specs.Square.{zeros}
use Rattle.factor.specs.Factoring.{transformed}
use Rattle.leaves.specs.inner.Patch.{patch}
use Rattle.leaves.proofs.Grids.{part_long}

-- ---- the store, part after part
pub behind : {A : Type 0} (a k : ℕ) (p s y : List A) → length p ≡ a → patch a k (p ++ s) y ≡ p ++ (y ++ drop k s)
behind a k p s y l = rw (take_at p s a l, drop_at p s a l)

pub transformed_long : (n : ℕ) (b : List Float) → length (transformed n b) ≡ n
unfolding transformed
transformed_long n b = length-take-le n (b ++ zeros n) (let e = length-append b (zeros n) in let z : length (zeros n) ≡ n = length-replicate n plus_zero in omega arith)

-- the square a and qt_b q written, the norms kept, l_diag and work cleared
module _ (n : ℕ) (s a q : List Float) (h : n * n + 4 * n ≤ length s) (la : length a ≡ n * n) (lq : length q ≡ n) where
  abbrev kept : List Float
  kept = take n (drop (n * n + n) s)

  abbrev left : List Float
  left = drop (n * n + n + n) s

  two_laid : patch (n * n) n (a ++ drop (n * n) s) q ≡ (a ++ (q ++ kept)) ++ left
  two_laid =
      let mid : drop (n * n + n) s ≡ kept ++ left = sym (take-append-drop n (drop (n * n + n) s)) ∙ ap (λ (l : List Float). kept ++ l) (drop-drop n (n * n + n) s) in
      behind (n * n) n a (drop (n * n) s) q la ∙ ap (λ (l : List Float). a ++ (q ++ l)) (drop-drop n (n * n) s ∙ mid)
      ∙ sym (append_assoc a (q ++ kept) left ∙ ap (λ (l : List Float). a ++ l) (append_assoc q kept left))

  two_long : length (a ++ (q ++ kept)) ≡ n * n + n + n
  two_long =
      let lm : length kept ≡ n = length-take-le n (drop (n * n + n) s) (simp length-drop (omega arith)) in
      length-append a (q ++ kept) ∙ (let u = length-append q kept in omega arith)

  pub store_laid : (z : List Float) (w v : ℕ) → w ≡ n → v ≡ 2 * n → z ≡ zeros (length (take v (drop (n * n + n + n) (patch (n * n) w (a ++ drop (n * n) s) q))))
      → patch (n * n + n + n) v (patch (n * n) w (a ++ drop (n * n) s) q) z
      ≡ a ++ (q ++ (take n (drop (n * n + n) s) ++ (zeros n ++ (zeros n ++ drop (n * n + 4 * n) s))))
  store_laid z w v ew ev ez =
      let t : 2 * n ≡ n + n = omega arith in
      let e : n * n + n + n + 2 * n ≡ n * n + 4 * n = omega arith in
      let ll : length (take (2 * n) left) ≡ 2 * n = length-take-le (2 * n) left (simp length-drop (omega arith)) in
      let l₂ : length (take v (drop (n * n + n + n) (patch (n * n) w (a ++ drop (n * n) s) q))) ≡ 2 * n =
      rw (ew, ev, two_laid, drop_at (a ++ (q ++ kept)) left (n * n + n + n) two_long) ll in
      let zz : z ≡ zeros n ++ zeros n = ez ∙ ap zeros (l₂ ∙ t) ∙ sym (replicate-append-replicate n n plus_zero) in
      rw (ew, ev) (ap (λ (x : List Float). patch (n * n + n + n) (2 * n) x z) two_laid ∙ behind (n * n + n + n) (2 * n) (a ++ (q ++ kept)) left z two_long
      ∙ rw (drop-drop (2 * n) (n * n + n + n) s, e, zz, append_assoc a (q ++ kept) _, append_assoc q kept _, append_assoc (zeros n) (zeros n) (drop (n * n + 4 * n) s)))

-- where the norms go there is room for n
pub norms_part : (n : ℕ) (s : List Float) (w : ℕ) → w ≡ n → n * n + 4 * n ≤ length s → length (take w (drop (n * n + n) s)) ≡ n
norms_part n s w ew h = rw ew (part_long (n * n + n) n s (omega arith))

-- the norms written, and all behind l_diag and work as it was
module _ (n : ℕ) (s v : List Float) (h : n * n + 4 * n ≤ length s) (lv : length v ≡ n) (w : ℕ) (ew : w ≡ n) where
  before_norms : length (take (n * n + n) s) ≡ n * n + n
  before_norms = length-take-le (n * n + n) s (omega arith)

  pub norms_read : take n (drop (n * n + n) (patch (n * n + n) w s v)) ≡ v
  norms_read =
      let r : List Float = drop w (drop (n * n + n) s) in
      rw (drop_at (take (n * n + n) s) (v ++ r) (n * n + n) before_norms) (take_at v r n lv)

  pub norms-past : drop (n * n + 4 * n) (patch (n * n + n) w s v) ≡ drop (n * n + 4 * n) s
  norms-past =
      let e : n * n + 4 * n ≡ n * n + n + (n + 2 * n) = omega arith in
      let p : List Float = patch (n * n + n) n s v in
      let r : List Float = drop n (drop (n * n + n) s) in
      rw (
        ew,
        e,
        ← drop-drop (n + 2 * n) (n * n + n) p,
        drop_at (take (n * n + n) s) (v ++ r) (n * n + n) before_norms,
        ← drop-drop (2 * n) n (v ++ r),
        drop_at v r n lv,
        drop-drop (2 * n) n (drop (n * n + n) s),
        drop-drop (n + 2 * n) (n * n + n) s,
      )
