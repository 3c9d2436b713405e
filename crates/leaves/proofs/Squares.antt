-- Where the entries of R and those below it stand in a flat square. Assumes nothing.
use mathlib.Core.Path.{◌≡◌, refl, ap, ◌∙◌}
use mathlib.Core.List.{List, [], ◌∷◌}
use Prim.Native.Nat.{ℕ, zero, suc, ◌+◌, ◌-◌, ◌*◌, ◌<◌, ◌≤◌}
use native.Mathlib.Nat.{zero-add, not-suc-le-zero, le_of_suc-le-suc}
use native.Mathlib.Omega.{arith}
use lib.ListN.{length, get_or, take, drop, length-take, length-drop}
use lib.Seq.{take-take, get_or-take, get_or-drop}
use lib.Ieee.{Float, nan}
use Rattle.leaves.specs.Triangle.{columns}
use Rattle.leaves.proofs.Triangles.{column_at, column_fits}
use Rattle.leaves.specs.Square.{uppers_from, belows_from, uppers_of, belows_of, diagonal_from, diagonal}
use Rattle.leaves.specs.inner.Squares.{Square}

pub columns-length : (apart k : ℕ) (s : List Float) → length (columns apart k s) ≡ k
unfolding columns
columns-length apart zero s = refl
columns-length apart (suc k) s = ap suc (columns-length apart k (drop apart s))

pub uppers-length : (j : ℕ) (cs : List (List Float)) → length (uppers_from j cs) ≡ length cs
unfolding uppers_from
uppers-length j [] = refl
uppers-length j (c ∷ cs) = ap suc (uppers-length (suc j) cs)

pub belows_length : (j : ℕ) (cs : List (List Float)) → length (belows_from j cs) ≡ length cs
unfolding belows_from
belows_length j [] = refl
belows_length j (c ∷ cs) = ap suc (belows_length (suc j) cs)

pub uppers_from_at : (j i : ℕ) (cs : List (List Float)) → i < length cs → get_or (uppers_from j cs) i [] ≡ take (suc (j + i)) (get_or cs i [])
unfolding uppers_from
uppers_from_at j i [] h = absurd (not-suc-le-zero h)
uppers_from_at j zero (c ∷ cs) h = let e : j + 0 ≡ j = omega arith in rw e
uppers_from_at j (suc i) (c ∷ cs) h = let e : j + suc i ≡ suc j + i = omega arith in uppers_from_at (suc j) i cs (le_of_suc-le-suc h) ∙ rw e

pub belows_from_at : (j i : ℕ) (cs : List (List Float)) → i < length cs → get_or (belows_from j cs) i [] ≡ drop (suc (j + i)) (get_or cs i [])
unfolding belows_from
belows_from_at j i [] h = absurd (not-suc-le-zero h)
belows_from_at j zero (c ∷ cs) h = let e : j + 0 ≡ j = omega arith in rw e
belows_from_at j (suc i) (c ∷ cs) h = let e : j + suc i ≡ suc j + i = omega arith in belows_from_at (suc j) i cs (le_of_suc-le-suc h) ∙ rw e

pub diagonal_from_at : (j i : ℕ) (us : List (List Float)) → i < length us → get_or (diagonal_from j us) i nan ≡ get_or (get_or us i []) (j + i) nan
unfolding diagonal_from
diagonal_from_at j i [] h = absurd (not-suc-le-zero h)
diagonal_from_at j zero (c ∷ cs) h = let e : j + 0 ≡ j = omega arith in rw e
diagonal_from_at j (suc i) (c ∷ cs) h = let e : j + suc i ≡ suc j + i = omega arith in diagonal_from_at (suc j) i cs (le_of_suc-le-suc h) ∙ rw e

pub diagonal-length : (j : ℕ) (us : List (List Float)) → length (diagonal_from j us) ≡ length us
unfolding diagonal_from
diagonal-length j [] = refl
diagonal-length j (c ∷ cs) = ap suc (diagonal-length (suc j) cs)

module _ (n : ℕ) (s : List Float) (q : Square n s) (k : ℕ) (h : k < n) where
  in_columns : k < length (columns n n s)
  in_columns = let e = columns-length n n s in omega arith

  pub column_end : k * n + n ≤ length s
  column_end = let e = q.whole in omega (arith, column_fits k n n h)

  -- column k of R is the first k + 1 of column k of the square
  pub upper_at : get_or (uppers_of n s) k [] ≡ take (suc k) (drop (k * n) s)
  upper_at =
      let e : 0 + k ≡ k = zero-add k in
      uppers_from_at 0 k (columns n n s) in_columns ∙ rw (e, column_at n n k s h) (take-take (suc k) n (drop (k * n) s) h)

  pub upper_long : length (get_or (uppers_of n s) k []) ≡ suc k
  upper_long = let e = column_end in ap length upper_at ∙ simp (length-take, length-drop) (omega arith)

  pub upper-cell : (i : ℕ) → i ≤ k → get_or (get_or (uppers_of n s) k []) i nan ≡ get_or s (k * n + i) nan
  upper-cell i l = rw upper_at (get_or-take (suc k) (drop (k * n) s) i nan (omega arith) ∙ get_or-drop (k * n) s i nan)

  pub diagonal_at : get_or (diagonal (uppers_of n s)) k nan ≡ get_or s (k * n + k) nan
  diagonal_at =
      let e : 0 + k ≡ k = zero-add k in
      let l : k < length (uppers_of n s) = let a = uppers-length 0 (columns n n s) in let b = columns-length n n s in omega arith in
      diagonal_from_at 0 k (uppers_of n s) l ∙ rw e (upper-cell k (omega arith))

  -- what stands under it is the rest of that column
  pub below_at : get_or (belows_of n s) k [] ≡ drop (suc k) (take n (drop (k * n) s))
  below_at =
      let e : 0 + k ≡ k = zero-add k in
      belows_from_at 0 k (columns n n s) in_columns ∙ rw (e, column_at n n k s h)

  pub below_long : length (get_or (belows_of n s) k []) ≡ n - suc k
  below_long = let e = column_end in ap length below_at ∙ simp (length-take, length-drop) (omega arith)

pub uppers_of-length : (n : ℕ) (s : List Float) → length (uppers_of n s) ≡ n
uppers_of-length n s = uppers-length 0 (columns n n s) ∙ columns-length n n s

pub belows_of-length : (n : ℕ) (s : List Float) → length (belows_of n s) ≡ n
belows_of-length n s = belows_length 0 (columns n n s) ∙ columns-length n n s
