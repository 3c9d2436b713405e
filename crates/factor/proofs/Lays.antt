-- R and qt_b laid out, column by column. Assumes nothing.
use mathlib.Core.Path.{◌≡◌, refl, sym, ap, ◌∙◌}
use mathlib.Core.Bool.{Bool, true, false, cond, ◌&&◌}
use mathlib.Core.List.{List, [], ◌∷◌, ◌++◌, append_assoc}
use Prim.Native.Nat.{ℕ, zero, suc, ◌+◌, ◌-◌, ◌*◌, ◌<◌, ◌≤◌, min}
use native.Mathlib.Nat.{suc-mul, zero-mul, zero-add, add_comm, not-suc-le-zero, le_of_suc-le-suc, min-eq_left, min-eq_right, sub_self}
use native.Mathlib.Numerals.{add-one}
use native.Mathlib.Omega.{arith}
use lib.Dec.{ltb}
use lib.ListN.{length, get_or, take, drop, set, length-append, length-replicate, replicate-append-replicate}
use lib.Seq.{length-take-le, take_all, take_at, drop_at, drop-drop, take-append-le, set_at}
use lib.Ieee.{Float, nan}
use borrow.Author.Tests.{lt-ltb, le-ltb, ltb-true, ltb-false}
use Rattle.leaves.specs.Number.{plus_zero, is_finite}
use Rattle.leaves.specs.Square.{joined, zeros}
use Rattle.leaves.specs.Tests.{all_finite}
use Rattle.factor.specs.Factoring.{upper_column, uppers, no_lower, transformed, all_finite_in}
use Rattle.leaves.specs.inner.Patch.{patch}
use Rattle.leaves.proofs.Triangles.{column_fits}
use Rattle.leaves.proofs.Grids.{part_long}
use Rattle.leaves.proofs.Overs.{append_nil, over, over_chunk}

-- ---- a column of R
pub column_low : (m k n : ℕ) (c : List Float) (d : Float) → length c ≡ m → m ≤ k → k < n → take m c ++ zeros (n - m) ≡ upper_column m k c d ++ zeros (n - suc k)
unfolding upper_column
column_low m k n c d l h hn =
    let e : n - m ≡ (suc k - m) + (n - suc k) = omega arith in
    rw (le-ltb k m h, upper_column) (rw (take_all m c (omega arith), append_assoc c (zeros (suc k - m)) (zeros (n - suc k)), replicate-append-replicate (suc k - m) (n - suc k) plus_zero, e))

pub column_high : (m k n : ℕ) (c : List Float) (d : Float) → length c ≡ m → k < m → k < n → set (take k c ++ zeros (n - k)) k d ≡ upper_column m k c d ++ zeros (n - suc k)
unfolding upper_column
column_high m k n c d l h hn =
    let e : n - k ≡ suc (n - suc k) = omega arith in
    let t : length (take k c) ≡ k = length-take-le k c (omega arith) in
    rw (lt-ltb k m h, upper_column) (rw (e, set_at (take k c) plus_zero (zeros (n - suc k)) d k t, append_assoc (take k c) (d ∷ []) (zeros (n - suc k))))

pub column_size : (m k : ℕ) (c : List Float) (d : Float) → length c ≡ m → length (upper_column m k c d) ≡ suc k
unfolding upper_column
column_size m k c d l = go (ltb k m) refl
  where
    go : (b : Bool) → ltb k m ≡ b → length (cond b (take k c ++ (d ∷ [])) (c ++ zeros (suc k - m))) ≡ suc k
    go true e =
        let h : k < m = ltb-true k m e in
        length-append (take k c) (d ∷ []) ∙ (let t : length (take k c) ≡ k = length-take-le k c (omega arith) in omega arith)
    go false e =
        let h : m ≤ k = ltb-false k m e in
        length-append c (zeros (suc k - m)) ∙ (let t : length (zeros (suc k - m)) ≡ suc k - m = length-replicate (suc k - m) plus_zero in omega arith)

-- ---- the square of R and +0 below it

module _ (m n : ℕ) where
  piece_size : (k p : ℕ) (c : List Float) (d : Float) → k + suc p ≡ n → length c ≡ m → length (upper_column m k c d ++ zeros p) ≡ n
  piece_size k p c d e l =
      length-append (upper_column m k c d) (zeros p) ∙ (let a = column_size m k c d l in let b : length (zeros p) ≡ p = length-replicate p plus_zero in omega arith)

  pub square_long : (k p : ℕ) (cs : List (List Float)) (ds : List Float) → k + p ≡ n → length cs ≡ p → length ds ≡ p
      → ((l : ℕ) → l < p → length (get_or cs l []) ≡ m) → length (joined (uppers m k cs ds) (no_lower p)) ≡ p * n
  unfolding joined uppers no_lower
  square_long k zero [] ds e hc hd f = sym (zero-mul n)
  square_long k zero (c ∷ cs) ds e hc hd f = absurd (omega arith)
  square_long k (suc p) [] ds e hc hd f = absurd (omega arith)
  square_long k (suc p) (c ∷ cs) [] e hc hd f = absurd (omega arith)
  square_long k (suc p) (c ∷ cs) (d ∷ ds) e hc hd f =
      let a = piece_size k p c d e (f 0 (omega arith)) in
      let r = square_long (suc k) p cs ds (omega arith) (omega arith) (omega arith) (λ l h. f (suc l) (omega arith)) in
      length-append (upper_column m k c d ++ zeros p) (joined (uppers m (suc k) cs ds) (no_lower p)) ∙ omega (arith, suc-mul p n)

  pub square_chunk : (k p : ℕ) (cs : List (List Float)) (ds : List Float) (i : ℕ) → k + p ≡ n → length cs ≡ p → length ds ≡ p
      → ((l : ℕ) → l < p → length (get_or cs l []) ≡ m) → i < p
      → take n (drop (i * n) (joined (uppers m k cs ds) (no_lower p))) ≡ upper_column m (k + i) (get_or cs i []) (get_or ds i nan) ++ zeros (p - suc i)
  unfolding joined uppers no_lower
  square_chunk k zero cs ds i e hc hd f h = absurd (not-suc-le-zero h)
  square_chunk k (suc p) [] ds i e hc hd f h = absurd (omega arith)
  square_chunk k (suc p) (c ∷ cs) [] i e hc hd f h = absurd (omega arith)
  square_chunk k (suc p) (c ∷ cs) (d ∷ ds) zero e hc hd f h =
      let z : 0 * n ≡ 0 = zero-mul n in
      let q : k + 0 ≡ k = omega arith in
      let s : suc p - 1 ≡ p = omega arith in
      rw (z, q, s) (take_at (upper_column m k c d ++ zeros p) (joined (uppers m (suc k) cs ds) (no_lower p)) n (piece_size k p c d e (f 0 (omega arith))))
  square_chunk k (suc p) (c ∷ cs) (d ∷ ds) (suc i) e hc hd f h =
      let z : suc i * n ≡ n + i * n = suc-mul i n ∙ add_comm (i * n) n in
      let q : k + suc i ≡ suc k + i = omega arith in
      let s : suc p - suc (suc i) ≡ p - suc i = omega arith in
      rw (
        z,
        q,
        s,
        ← drop-drop (i * n) n ((upper_column m k c d ++ zeros p) ++ joined (uppers m (suc k) cs ds) (no_lower p)),
        drop_at (upper_column m k c d ++ zeros p) (joined (uppers m (suc k) cs ds) (no_lower p)) n (piece_size k p c d e (f 0 (omega arith))),
      )
      (square_chunk (suc k) p cs ds i (omega arith) (omega arith) (omega arith) (λ l g. f (suc l) (omega arith)) (le_of_suc-le-suc h))

-- ---- the square, written column by column
pub column_laid : (m n k : ℕ) (d : Float) (col c s y : List Float) (from w : ℕ) → from ≡ k * n → w ≡ n → k * n + n ≤ length s → col ≡ c → length c ≡ m
    → y ≡ upper_column (length col) k col d ++ zeros (length (take w (drop from s)) - suc k) → patch from w s y ≡ patch (k * n) n s (upper_column m k c d ++ zeros (n - suc k))
column_laid m n k d col c s y from w ef ew h ec l ey = rw (ey, ec, l, ef, ew, part_long (k * n) n s h)

module _ (m n : ℕ) (cs : List (List Float)) (ds : List Float) (lc : length cs ≡ n) (ld : length ds ≡ n) (long : (l : ℕ) → l < n → length (get_or cs l []) ≡ m) where
  pub whole_long : length (joined (uppers m 0 cs ds) (no_lower n)) ≡ n * n
  whole_long = square_long m n 0 n cs ds (zero-add n) lc ld long

  pub lay_turn : (k : ℕ) (c s s' s₀ : List Float) → k < n → c ≡ get_or cs k [] → s ≡ over (k * n) (joined (uppers m 0 cs ds) (no_lower n)) s₀
      → s' ≡ patch (k * n) n s (upper_column m k c (get_or ds k nan) ++ zeros (n - suc k)) → s' ≡ over ((k + 1) * n) (joined (uppers m 0 cs ds) (no_lower n)) s₀
  lay_turn k c s s' s₀ h ec es e =
      let t : List Float = joined (uppers m 0 cs ds) (no_lower n) in
      let z : 0 + k ≡ k = zero-add k in
      let x : take n (drop (k * n) t) ≡ upper_column m k (get_or cs k []) (get_or ds k nan) ++ zeros (n - suc k) = rw z at (square_chunk m n 0 n cs ds k (zero-add n) lc ld long h) in
      let q : (k + 1) * n ≡ k * n + n = rw add-one (suc-mul k n) in
      let fit : k * n ≤ length t = let f = column_fits k n n h in let l = whole_long in omega arith in
      e ∙ rw (es, ec, ← x, q) (over_chunk (k * n) n t s₀ fit)

-- ---- the transformed residuals
pub transformed_is : (n : ℕ) (b : List Float) → take (min (length b) n) b ++ zeros (n - min (length b) n) ≡ transformed n b
unfolding transformed
transformed_is n b = go (ltb (length b) n) refl
  where
    go : (t : Bool) → ltb (length b) n ≡ t → take (min (length b) n) b ++ zeros (n - min (length b) n) ≡ take n (b ++ zeros n)
    go true e =
        let h : length b < n = ltb-true (length b) n e in
        let q : n ≡ length b + (n - length b) = omega arith in
        let w : take n (b ++ zeros n) ≡ b ++ zeros (n - length b) =
        let x : zeros n ≡ zeros (n - length b) ++ zeros (length b) = (let y : n ≡ (n - length b) + length b = omega arith in ap zeros y) ∙ sym (replicate-append-replicate (n - length b) (length b) plus_zero) in
        let l : length (b ++ zeros (n - length b)) ≡ n = length-append b (zeros (n - length b)) ∙ (let r : length (zeros (n - length b)) ≡ n - length b = length-replicate (n - length b) plus_zero in omega arith) in
        ap (λ (v : List Float). take n (b ++ v)) x ∙ ap (take n) (sym (append_assoc b (zeros (n - length b)) (zeros (length b)))) ∙ take_at (b ++ zeros (n - length b)) (zeros (length b)) n l in
        let le : length b ≤ n = omega arith in
        rw (min-eq_left le, take_all (length b) b (omega arith)) (sym w)
    go false e =
        let h : n ≤ length b = ltb-false (length b) n e in
        rw (min-eq_right h, sub_self) (append_nil (take n b) ∙ sym (take-append-le n b (zeros n) h))

-- ---- finite, all of it
pub finite-append : (a b : List Float) → all_finite (a ++ b) ≡ (all_finite a && all_finite b)
unfolding all_finite
finite-append [] b = refl
finite-append (x ∷ a) b = go (is_finite x) (finite-append a b)
  where
    go : (t : Bool) → all_finite (a ++ b) ≡ (all_finite a && all_finite b) → (t && all_finite (a ++ b)) ≡ ((t && all_finite a) && all_finite b)
    go true e = e
    go false e = refl

finite-zeros : (k : ℕ) → all_finite (zeros k) ≡ true
unfolding all_finite is_finite
finite-zeros zero = refl
finite-zeros (suc k) = finite-zeros k

and_true : (t : Bool) → (t && true) ≡ t
and_true true = refl
and_true false = refl

-- the square is finite where R is: below R it is +0
pub finite_square : (p : ℕ) (us : List (List Float)) → all_finite (joined us (no_lower p)) ≡ all_finite_in us
unfolding joined no_lower all_finite_in all_finite
finite_square p [] = refl
finite_square zero (u ∷ us) = finite-append u (joined us []) ∙ ap (λ (t : Bool). all_finite u && t) (finite_square zero us)
finite_square (suc p) (u ∷ us) =
    finite-append (u ++ zeros p) (joined us (no_lower p))
    ∙ rw (finite-append u (zeros p), finite-zeros p, and_true (all_finite u), finite_square p us)
