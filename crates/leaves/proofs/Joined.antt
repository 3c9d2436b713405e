-- A square laid out column by column, and read again. Assumes nothing.
use mathlib.Core.Path.{◌≡◌, refl, sym, ap, ◌∙◌}
use mathlib.Core.List.{List, [], ◌∷◌, ◌++◌, append_assoc}
use Prim.Native.Nat.{ℕ, zero, suc, ◌+◌, ◌-◌, ◌*◌, ◌<◌, ◌≤◌}
use native.Mathlib.Nat.{suc-mul, zero-mul}
use native.Mathlib.Omega.{arith}
use lib.ListN.{length, get_or, take, drop, take-append-drop, length-append, length-replicate}
use lib.Seq.{take-take, take-add, take_at, drop_at}
use lib.Ieee.{Float}
use Rattle.leaves.specs.Number.{plus_zero}
use Rattle.leaves.specs.Triangle.{columns}
use Rattle.leaves.specs.Square.{uppers_from, belows_from, joined, cleared}
use Rattle.leaves.proofs.Splices.{drop-sum}

pub columns_front : (n k : ℕ) (s : List Float) → columns n k (take (k * n) s) ≡ columns n k s
unfolding columns
columns_front n zero s = refl
columns_front n (suc k) s =
    let e : suc k * n ≡ n + k * n = omega (arith, suc-mul k n) in
    rw (e, take-take n (n + k * n) s (omega arith), drop-sum n (k * n) s, columns_front n k (drop n s))

pub columns-same : (n k : ℕ) (s t : List Float) → take (k * n) s ≡ take (k * n) t → columns n k s ≡ columns n k t
columns-same n k s t h = sym (columns_front n k s) ∙ ap (λ (l : List Float). columns n k l) h ∙ columns_front n k t

pub joined-columns : (n k j : ℕ) (s : List Float) → joined (uppers_from j (columns n k s)) (belows_from j (columns n k s)) ≡ take (k * n) s
unfolding columns uppers_from belows_from joined
joined-columns n zero j s = rw zero-mul
joined-columns n (suc k) j s =
    let e : suc k * n ≡ n + k * n = omega (arith, suc-mul k n) in
    rw (e, take-add n (k * n) s, take-append-drop (suc j) (take n s), joined-columns n k (suc j) (drop n s))

pub cleared-wide : (ls : List (List Float)) → length (cleared ls) ≡ length ls
unfolding cleared
cleared-wide [] = refl
cleared-wide (l ∷ ls) = ap suc (cleared-wide ls)

pub cleared_tall : (ls : List (List Float)) (k : ℕ) → length (get_or (cleared ls) k []) ≡ length (get_or ls k [])
unfolding cleared
cleared_tall [] k = refl
cleared_tall (l ∷ ls) zero = length-replicate (length l) plus_zero
cleared_tall (l ∷ ls) (suc k) = cleared_tall ls k

-- columns from column j on, by their upper and lower ends, each of n numbers
pub record Tall (n j : ℕ) (us ls : List (List Float)) : Type 0 where
  pub fits : j + length us ≤ n
  pub wide : length us ≡ length ls
  pub uppers : (k : ℕ) → k < length us → length (get_or us k []) ≡ suc (j + k)
  pub belows : (k : ℕ) → k < length us → length (get_or ls k []) ≡ n - suc (j + k)

module _ {n j : ℕ} {u l : List Float} {us ls : List (List Float)} (h : Tall n j (u ∷ us) (l ∷ ls)) where
  tall_rest : Tall n (suc j) us ls
  tall_rest =
      let f = h.fits in
      let w = h.wide in
      record {
        fits = omega arith;
        wide = omega arith;
        uppers = λ k p. h.uppers (suc k) (omega arith) ∙ omega arith;
        belows = λ k p. h.belows (suc k) (omega arith) ∙ omega arith;
      }

  upper_first : length u ≡ suc j
  upper_first = h.uppers 0 (omega arith) ∙ omega arith

  column_first : length (u ++ l) ≡ n
  column_first =
      let f = h.fits in
      let a = h.uppers 0 (omega arith) in
      let b = h.belows 0 (omega arith) in
      length-append u l ∙ omega arith

pub joined_long : (n j : ℕ) (us ls : List (List Float)) → Tall n j us ls → length (joined us ls) ≡ length us * n
unfolding joined
joined_long n j [] ls h = rw zero-mul
joined_long n j (u ∷ us) [] h = let w = h.wide in absurd (omega arith)
joined_long n j (u ∷ us) (l ∷ ls) h =
    let e = column_first h in
    let r = joined_long n (suc j) us ls (tall_rest h) in
    length-append (u ++ l) (joined us ls) ∙ omega (arith, suc-mul (length us) n)

pub uppers-joined : (n j : ℕ) (us ls : List (List Float)) (w : List Float) → Tall n j us ls → uppers_from j (columns n (length us) (joined us ls ++ w)) ≡ us
unfolding joined columns uppers_from
uppers-joined n j [] ls w h = refl
uppers-joined n j (u ∷ us) [] w h = let w = h.wide in absurd (omega arith)
uppers-joined n j (u ∷ us) (l ∷ ls) w h =
    let e = column_first h in
    rw (
      append_assoc (u ++ l) (joined us ls) w,
      take_at (u ++ l) (joined us ls ++ w) n e,
      drop_at (u ++ l) (joined us ls ++ w) n e,
      take_at u l (suc j) (upper_first h),
      uppers-joined n (suc j) us ls w (tall_rest h),
    )

pub belows_joined : (n j : ℕ) (us ls : List (List Float)) (w : List Float) → Tall n j us ls → belows_from j (columns n (length us) (joined us ls ++ w)) ≡ ls
unfolding joined columns belows_from
belows_joined n j [] [] w h = refl
belows_joined n j [] (l ∷ ls) w h = let w = h.wide in absurd (omega arith)
belows_joined n j (u ∷ us) [] w h = let w = h.wide in absurd (omega arith)
belows_joined n j (u ∷ us) (l ∷ ls) w h =
    let e = column_first h in
    rw (
      append_assoc (u ++ l) (joined us ls) w,
      take_at (u ++ l) (joined us ls ++ w) n e,
      drop_at (u ++ l) (joined us ls ++ w) n e,
      drop_at u l (suc j) (upper_first h),
      belows_joined n (suc j) us ls w (tall_rest h),
    )
