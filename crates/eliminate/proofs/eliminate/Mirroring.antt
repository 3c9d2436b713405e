-- R's transpose under R: one cell, one column, all columns, as laws. Assumes nothing.
use mathlib.Core.Path.{◌≡◌, refl, sym, ap, ◌∙◌}
use mathlib.Core.List.{List, [], ◌∷◌, ◌++◌, map, append-nil}
use Prim.Native.Nat.{ℕ, zero, suc, ◌+◌, ◌-◌, ◌*◌, ◌<◌, ◌≤◌}
use native.Mathlib.Numerals.{add-one}
use native.Mathlib.Nat.{zero-add, not-suc-le-zero, le_of_suc-le-suc}
use native.Mathlib.Omega.{arith}
use lib.ListN.{length, get_or, take, drop, set, length-drop, length-set, length-map, get_or-map, drop_of_length-le}
use lib.Seq.{get_or-drop, get_or-set_same, get_or-set_other, set-get_or, set-set, set_at, take-suc, drop-cons, append_snoc, length-take-le, take_all}
use lib.Ieee.{Float, nan}
use Rattle.leaves.proofs.Folds.{front, front_step, front_end}
use Rattle.leaves.specs.Square.{uppers_of}
use Rattle.eliminate.specs.Eliminate.{heads, rows_from}
use Rattle.eliminate.specs.inner.Edges.{edges_of, Mirrors, MirrorsColumn}
use Rattle.leaves.proofs.Squares.{uppers_of-length, upper-cell}
use Rattle.eliminate.proofs.Triangular.{edges_of-length, edge_long, edge_cell, cell_rows, cell-above, heads-same, uppers_by}
use Rattle.leaves.specs.inner.Squares.{Square}

rows_length : (j : ℕ) (cs : List (List Float)) → length (rows_from j cs) ≡ length cs
unfolding rows_from
rows_length j [] = refl
rows_length j (c ∷ cs) = ap suc (rows_length (suc j) cs)

rows_from_at : (j i : ℕ) (cs : List (List Float)) → i < length cs → get_or (rows_from j cs) i [] ≡ map (λ d. get_or d (j + i) nan) (drop i cs)
unfolding rows_from
rows_from_at j i [] h = absurd (not-suc-le-zero h)
rows_from_at j zero (c ∷ cs) h = let e : j ≡ j + 0 = omega arith in ap (λ (q : ℕ). map (λ d. get_or d q nan) (c ∷ cs)) e
rows_from_at j (suc i) (c ∷ cs) h = let e : suc j + i ≡ j + suc i = omega arith in rw e at (rows_from_at (suc j) i cs (le_of_suc-le-suc h))

abbrev row_of : ℕ → List Float → ℕ → List Float
row_of n s k = get_or (rows_from 0 (uppers_of n s)) k []

-- the first i of ys replaced by those of zs, and one more
swap_next : {A : Type 0} (d : A) (zs ys : List A) (i : ℕ) → i < length zs → i < length ys
    → set (take i zs ++ drop i ys) i (get_or zs i d) ≡ take (suc i) zs ++ drop (suc i) ys
swap_next d zs ys i h k =
    rw (drop-cons ys i d k, set_at (take i zs) (get_or ys i d) (drop (suc i) ys) (get_or zs i d) i (length-take-le i zs (omega arith)), take-suc zs i d h)
    (sym (append_snoc (take i zs) (get_or zs i d) (drop (suc i) ys)))

front_one : (zs ys : List Float) → 0 < length zs → 0 < length ys → get_or zs 0 nan ≡ get_or ys 0 nan → front 1 zs ys ≡ ys
front_one [] ys h k e = absurd (not-suc-le-zero h)
front_one (z ∷ zs) [] h k e = absurd (not-suc-le-zero k)
front_one (z ∷ zs) (y ∷ ys) h k e = ap (λ (x : Float). x ∷ ys) e

module _ (n : ℕ) (s : List Float) (q : Square n s) (k : ℕ) (h : k < n) where
  row_at : row_of n s k ≡ map (λ d. get_or d k nan) (drop k (uppers_of n s))
  row_at =
      let e : 0 + k ≡ k = zero-add k in
      rw e at (rows_from_at 0 k (uppers_of n s) (omega (arith, uppers_of-length n s)))

  pub row_long : length (row_of n s k) ≡ n - k
  row_long = ap length row_at ∙ length-map (drop k (uppers_of n s)) (λ d. get_or d k nan) ∙ simp length-drop (omega (arith, uppers_of-length n s))

  pub row-cell : (i : ℕ) → k ≤ i → i < n → get_or (row_of n s k) (i - k) nan ≡ get_or s (i * n + k) nan
  row-cell i l u =
      let e : k + (i - k) ≡ i = omega arith in
      rw row_at (get_or-map (λ (d : List Float). get_or d k nan) (drop k (uppers_of n s)) (i - k) []
      ∙ rw (get_or-drop k (uppers_of n s) (i - k) [], e) (upper-cell n s q i u k l))

-- column k done up to place i
pub record Mirroring (n k i : ℕ) (s₀ s : List Float) : Type 0 where
  pub rows : edges_of n s ≡ set (edges_of n s₀) k (front (i - k) (get_or (rows_from 0 (uppers_of n s₀)) k []) (get_or (edges_of n s₀) k []))
  pub upper : uppers_of n s ≡ uppers_of n s₀

module _ (n : ℕ) (s₀ : List Float) (q₀ : Square n s₀) (k : ℕ) (h : k < n) where
  pub column_start : Mirroring n k (k + 1) s₀ s₀
  column_start =
      let e : k + 1 - k ≡ 1 = omega arith in
      let z : k - k ≡ 0 = omega arith in
      let a = row_long n s₀ q₀ k h in
      let b = edge_long n s₀ q₀ k h in
      let c : get_or (row_of n s₀ k) 0 nan ≡ get_or (get_or (edges_of n s₀) k []) 0 nan =
      (rw z at (row-cell n s₀ q₀ k h k (omega arith) h)) ∙ sym (rw z at (edge_cell n s₀ q₀ k h k (omega arith) h)) in
      record {
        rows = rw (e, front_one (row_of n s₀ k) (get_or (edges_of n s₀) k []) (omega arith) (omega arith) c) (sym (set-get_or (edges_of n s₀) k []));
        upper = refl;
      }

  pub column_turn : (s : List Float) (i : ℕ) → Square n s → k < i → i < n → Mirroring n k i s₀ s
      → Mirroring n k (i + 1) s₀ (set s (k * n + i) (get_or s (i * n + k) nan))
  column_turn s i q l u m =
      let v = get_or s (i * n + k) nan in
      let zs = row_of n s₀ k in
      let ys = get_or (edges_of n s₀) k [] in
      let w : length (set s (k * n + i) v) ≡ n * n = length-set s (k * n + i) v ∙ q.whole in
      let a = row_long n s₀ q₀ k h in
      let b = edge_long n s₀ q₀ k h in
      let f : get_or (edges_of n s) k [] ≡ front (i - k) zs ys = rw m.rows (get_or-set_same (edges_of n s₀) k (front (i - k) zs ys) [] (omega (arith, edges_of-length n s₀))) in
      let vs : v ≡ get_or zs (i - k) nan =
      sym (upper-cell n s q i u k (omega arith)) ∙ rw m.upper (upper-cell n s₀ q₀ i u k (omega arith)) ∙ sym (row-cell n s₀ q₀ k h i (omega arith) u) in
      let e : i + 1 - k ≡ suc (i - k) = omega arith in
      let r = cell_rows n s q k h i (omega arith) u v in
      let hs : heads (edges_of n (set s (k * n + i) v)) ≡ heads (edges_of n s) =
      ap heads r ∙ firsts (edges_of n s) (i - k) v (omega arith) in
      record {
        rows = r ∙ rw (f, m.rows) (rw (set-set (edges_of n s₀) k (front (i - k) zs ys) (set (front (i - k) zs ys) (i - k) v), vs, e, front_step zs ys (i - k) (omega arith) (omega arith)));
        upper = uppers_by n (set s (k * n + i) v) s (record { small = q.small; whole = w }) q (cell-above n s q k h i (omega arith) u v) hs ∙ m.upper;
      }
    where
      firsts : (rows : List (List Float)) (t : ℕ) (v : Float) → 0 < t → heads (set rows k (set (get_or rows k []) t v)) ≡ heads rows
      firsts rows t v p = heads-same rows k (set (get_or rows k []) t v) (get_or-set_other (get_or rows k []) t 0 v nan (λ z. omega arith))

  pub column_done : (s : List Float) (i : ℕ) → n ≤ i → Mirroring n k i s₀ s → MirrorsColumn n k s₀ s
  column_done s i l m =
      let a = row_long n s₀ q₀ k h in
      let b = edge_long n s₀ q₀ k h in
      let e = front_end (row_of n s₀ k) (get_or (edges_of n s₀) k []) _ (i - k) (a ∙ sym b) (omega arith) refl in
      record { rows = m.rows ∙ rw e; upper = m.upper }

-- the columns before k done
pub record MirroringAll (n k : ℕ) (s₀ s : List Float) : Type 0 where
  pub rows : edges_of n s ≡ take k (rows_from 0 (uppers_of n s₀)) ++ drop k (edges_of n s₀)
  pub upper : uppers_of n s ≡ uppers_of n s₀

pub all_turn : (n k : ℕ) (s₀ s s' : List Float) → k < n → MirroringAll n k s₀ s → MirrorsColumn n k s s' → MirroringAll n (k + 1) s₀ s'
all_turn n k s₀ s s' h m c =
    let rs = rows_from 0 (uppers_of n s₀) in
    let a : length rs ≡ n = rows_length 0 (uppers_of n s₀) ∙ uppers_of-length n s₀ in
    let b = edges_of-length n s₀ in
    record {
      rows = c.rows ∙ rw (m.upper, m.rows, add-one) (swap_next [] rs (edges_of n s₀) k (omega arith) (omega arith));
      upper = c.upper ∙ m.upper;
    }

pub all_done : (n k : ℕ) (s₀ s : List Float) → n ≤ k → MirroringAll n k s₀ s → Mirrors n s₀ s
all_done n k s₀ s h m =
    let rs = rows_from 0 (uppers_of n s₀) in
    let a : length rs ≡ n = rows_length 0 (uppers_of n s₀) ∙ uppers_of-length n s₀ in
    let b = edges_of-length n s₀ in
    record {
      rows = m.rows ∙ rw (take_all k rs (omega arith), drop_of_length-le (edges_of n s₀) {i = k} (omega arith)) (append-nil rs);
      upper = m.upper;
    }
