-- A square's columns from the diagonal on, and what stands above: how a part that is lent, or a cell that is written, changes them.
-- Assumes nothing.
use mathlib.Core.Path.{◌≡◌, refl, sym, ap, ◌∙◌}
use mathlib.Core.List.{List, [], ◌∷◌, ◌++◌}
use Prim.Native.Nat.{ℕ, zero, suc, ◌+◌, ◌-◌, ◌*◌, ◌<◌, ◌≤◌}
use native.Mathlib.Nat.{zero-add, not-suc-le-zero, le_of_suc-le-suc}
use native.Mathlib.Omega.{arith}
use lib.ListN.{length, get_or, take, drop, set, length-take, length-drop, length-set, length-map, get_or-map, take-append-drop}
use lib.Seq.{take-take, take_at, drop_at, drop-drop, length-take-le, get_or-take, get_or-drop, set-append_left, map-set_same, take-suc, ext_get_or}
use lib.Ieee.{Float, nan}
use Rattle.leaves.specs.Triangle.{columns}
use Rattle.leaves.proofs.Triangles.{column_at}
use Rattle.leaves.specs.Square.{uppers_of, belows_from}
use Rattle.eliminate.specs.Eliminate.{heads, tails}
use Rattle.eliminate.specs.inner.Edges.{edges_from, aboves_from, edges_of, aboves_of}
use Rattle.leaves.specs.inner.Patch.{patch}
use Rattle.leaves.proofs.Grids.{column_long, tail_read, tail_write}
use Rattle.leaves.proofs.Squares.{columns-length, uppers_of-length, upper_at, column_end}
use Rattle.leaves.specs.inner.Squares.{Square}

-- ---- lists
set_past : (a t : ℕ) (s : List Float) (v : Float) → a ≤ length s → set s (a + t) v ≡ take a s ++ set (drop a s) t v
set_past zero t s v h = rw zero-add
set_past (suc a) t [] v h = absurd (not-suc-le-zero h)
set_past (suc a) t (x ∷ s) v h = let e : suc a + t ≡ suc (a + t) = omega arith in rw e (ap (λ (l : List Float). x ∷ l) (set_past a t s v (le_of_suc-le-suc h)))

-- a cell of a part, as the part with it set
pub set-patch : (a k t : ℕ) (s : List Float) (v : Float) → t < k → a + k ≤ length s → set s (a + t) v ≡ patch a k s (set (take k (drop a s)) t v)
set-patch a k t s v h l =
    let long : t < length (take k (drop a s)) = rw (length-take-le k (drop a s) (simp length-drop (omega arith))) h in
    set_past a t s v (omega arith) ∙ ap (λ (z : List Float). take a s ++ z)
    (ap (λ (z : List Float). set z t v) (sym (take-append-drop k (drop a s))) ∙ set-append_left (take k (drop a s)) (drop k (drop a s)) t v long)

pub set_first : (e : List Float) (v : Float) → 0 < length e → set e 0 v ≡ v ∷ drop 1 e
set_first [] v h = absurd (not-suc-le-zero h)
set_first (x ∷ e) v h = refl

pub heads-length : (rows : List (List Float)) → length (heads rows) ≡ length rows
unfolding heads
heads-length rows = length-map rows (λ (l : List Float). get_or l 0 nan)

-- a row exchanged for one with the same first
pub heads-same : (rows : List (List Float)) (k : ℕ) (y : List Float) → get_or y 0 nan ≡ get_or (get_or rows k []) 0 nan → heads (set rows k y) ≡ heads rows
unfolding heads
heads-same rows k y e = map-set_same (λ (l : List Float). get_or l 0 nan) rows k y [] e

-- ---- columns
pub edges_length : (j : ℕ) (cs : List (List Float)) → length (edges_from j cs) ≡ length cs
unfolding edges_from
edges_length j [] = refl
edges_length j (c ∷ cs) = ap suc (edges_length (suc j) cs)

edges_from_at : (j i : ℕ) (cs : List (List Float)) → i < length cs → get_or (edges_from j cs) i [] ≡ drop (j + i) (get_or cs i [])
unfolding edges_from
edges_from_at j i [] h = absurd (not-suc-le-zero h)
edges_from_at j zero (c ∷ cs) h = let e : j + 0 ≡ j = omega arith in rw e
edges_from_at j (suc i) (c ∷ cs) h = let e : j + suc i ≡ suc j + i = omega arith in edges_from_at (suc j) i cs (le_of_suc-le-suc h) ∙ rw e

aboves_from_at : (j i : ℕ) (cs : List (List Float)) → i < length cs → get_or (aboves_from j cs) i [] ≡ take (j + i) (get_or cs i [])
unfolding aboves_from
aboves_from_at j i [] h = absurd (not-suc-le-zero h)
aboves_from_at j zero (c ∷ cs) h = let e : j + 0 ≡ j = omega arith in rw e
aboves_from_at j (suc i) (c ∷ cs) h = let e : j + suc i ≡ suc j + i = omega arith in aboves_from_at (suc j) i cs (le_of_suc-le-suc h) ∙ rw e

-- a column's lower end exchanged
edges_put : (j i : ℕ) (cs : List (List Float)) (y : List Float) → j + i ≤ length (get_or cs i [])
    → edges_from j (set cs i (take (j + i) (get_or cs i []) ++ y)) ≡ set (edges_from j cs) i y
unfolding edges_from
edges_put j i [] y h = refl
edges_put j zero (c ∷ cs) y h =
    let e : j + 0 ≡ j = omega arith in
    rw e (ap (λ (l : List Float). l ∷ edges_from (suc j) cs) (drop_at (take j c) y j (length-take-le j c (omega arith))))
edges_put j (suc i) (c ∷ cs) y h =
    let e : j + suc i ≡ suc j + i = omega arith in
    rw e (ap (λ (l : List (List Float)). drop j c ∷ l) (edges_put (suc j) i cs y (omega arith)))

aboves_put : (j i : ℕ) (cs : List (List Float)) (y : List Float) → j + i ≤ length (get_or cs i [])
    → aboves_from j (set cs i (take (j + i) (get_or cs i []) ++ y)) ≡ aboves_from j cs
unfolding aboves_from
aboves_put j i [] y h = refl
aboves_put j zero (c ∷ cs) y h =
    let e : j + 0 ≡ j = omega arith in
    rw e (ap (λ (l : List Float). l ∷ aboves_from (suc j) cs) (take_at (take j c) y j (length-take-le j c (omega arith))))
aboves_put j (suc i) (c ∷ cs) y h =
    let e : j + suc i ≡ suc j + i = omega arith in
    rw e (ap (λ (l : List (List Float)). take j c ∷ l) (aboves_put (suc j) i cs y (omega arith)))

-- ---- an n×n square
pub edges_of-length : (n : ℕ) (s : List Float) → length (edges_of n s) ≡ n
edges_of-length n s = edges_length 0 (columns n n s) ∙ columns-length n n s

pub belows_tails : (j : ℕ) (cs : List (List Float)) → belows_from j cs ≡ tails (edges_from j cs)
unfolding belows_from edges_from tails
belows_tails j [] = refl
belows_tails j (c ∷ cs) =
    let e : j + 1 ≡ suc j = omega arith in
    let d : drop (suc j) c ≡ drop 1 (drop j c) = sym (drop-drop 1 j c ∙ rw e) in
    rw (d, belows_tails (suc j) cs)

module _ (n : ℕ) (s : List Float) (q : Square n s) (k : ℕ) (h : k < n) where
  in_columns : k < length (columns n n s)
  in_columns = let e = columns-length n n s in omega arith

  -- what is lent from the diagonal to the column's end
  pub edge_at : get_or (edges_of n s) k [] ≡ take (n - k) (drop (k * n + k) s)
  edge_at =
      let e : 0 + k ≡ k = zero-add k in
      edges_from_at 0 k (columns n n s) in_columns ∙ rw e (sym (tail_read n n k k s h))

  pub edge_long : length (get_or (edges_of n s) k []) ≡ n - k
  edge_long = let e = column_end n s q k h in ap length edge_at ∙ simp (length-take, length-drop) (omega arith)

  pub edge_cell : (i : ℕ) → k ≤ i → i < n → get_or (get_or (edges_of n s) k []) (i - k) nan ≡ get_or s (k * n + i) nan
  edge_cell i l u =
      let e : k * n + k + (i - k) ≡ k * n + i = omega arith in
      rw edge_at (get_or-take (n - k) (drop (k * n + k) s) (i - k) nan (omega arith) ∙ get_or-drop (k * n + k) s (i - k) nan ∙ rw e)

  pub first_at : get_or (heads (edges_of n s)) k nan ≡ get_or s (k * n + k) nan
  unfolding heads
  first_at =
      let e : k - k ≡ 0 = omega arith in
      get_or-map (λ (l : List Float). get_or l 0 nan) (edges_of n s) k [] ∙ (rw e at (edge_cell k (omega arith) h))

  -- column k of R is what stands above the diagonal and row k's first
  pub upper-split : get_or (uppers_of n s) k [] ≡ get_or (aboves_of n s) k [] ++ (get_or (heads (edges_of n s)) k nan ∷ [])
  upper-split =
      let e : 0 + k ≡ k = zero-add k in
      let f = column_end n s q k h in
      let a : get_or (aboves_of n s) k [] ≡ take k (drop (k * n) s) =
      aboves_from_at 0 k (columns n n s) in_columns ∙ rw (e, column_at n n k s h) (take-take k n (drop (k * n) s) (omega arith)) in
      let l : k < length (drop (k * n) s) = simp length-drop (omega arith) in
      upper_at n s q k h ∙ rw (a, first_at) (take-suc (drop (k * n) s) k nan l ∙ rw (get_or-drop (k * n) s k nan))

  -- LAW: what comes back of the part from the diagonal on is row k
  module _ (y : List Float) (ly : length y ≡ n - k) where
    pub lent_rows : edges_of n (patch (k * n + k) (n - k) s y) ≡ set (edges_of n s) k y
    lent_rows =
        let w = q.whole in
        let e : 0 + k ≡ k = zero-add k in
        let c = column_long n n s k h (omega arith) in
        rw (tail_write n n s k k y h (omega arith) (omega arith) ly)
        (rw e at (edges_put 0 k (columns n n s) y (omega arith)))

    pub lent-above : aboves_of n (patch (k * n + k) (n - k) s y) ≡ aboves_of n s
    lent-above =
        let w = q.whole in
        let e : 0 + k ≡ k = zero-add k in
        let c = column_long n n s k h (omega arith) in
        rw (tail_write n n s k k y h (omega arith) (omega arith) ly)
        (rw e at (aboves_put 0 k (columns n n s) y (omega arith)))

  -- LAW: a cell of the lower triangle written
  module _ (i : ℕ) (l : k ≤ i) (u : i < n) (v : Float) where
    cell-patch : set s (k * n + i) v ≡ patch (k * n + k) (n - k) s (set (get_or (edges_of n s) k []) (i - k) v)
    cell-patch =
        let f = column_end n s q k h in
        let e : k * n + i ≡ k * n + k + (i - k) = omega arith in
        rw (e, edge_at) (set-patch (k * n + k) (n - k) (i - k) s v (omega arith) (omega arith))

    cell_long : length (set (get_or (edges_of n s) k []) (i - k) v) ≡ n - k
    cell_long = length-set (get_or (edges_of n s) k []) (i - k) v ∙ edge_long

    pub cell_rows : edges_of n (set s (k * n + i) v) ≡ set (edges_of n s) k (set (get_or (edges_of n s) k []) (i - k) v)
    cell_rows = rw cell-patch (lent_rows (set (get_or (edges_of n s) k []) (i - k) v) cell_long)

    pub cell-above : aboves_of n (set s (k * n + i) v) ≡ aboves_of n s
    cell-above = rw cell-patch (lent-above (set (get_or (edges_of n s) k []) (i - k) v) cell_long)

-- LAW: R is what stands above the diagonal and the rows' first
pub uppers_by : (n : ℕ) (s t : List Float) → Square n s → Square n t → aboves_of n s ≡ aboves_of n t → heads (edges_of n s) ≡ heads (edges_of n t)
    → uppers_of n s ≡ uppers_of n t
uppers_by n s t p q a f =
    ext_get_or [] _ _ (uppers_of-length n s ∙ sym (uppers_of-length n t))
    (λ k h. let l : k < n = omega (arith, uppers_of-length n s) in
    upper-split n s p k l ∙ rw (a, f) (sym (upper-split n t q k l)))
