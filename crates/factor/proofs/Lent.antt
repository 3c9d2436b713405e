-- What a lent part, a lent square or a lent end of a column leaves, as one change of the room. Nothing above this file knows an offset.
-- Assumes nothing.
use mathlib.Core.Path.{◌≡◌, refl, sym, ap, ◌∙◌}
use mathlib.Core.Bool.{cond}
use mathlib.Core.List.{List, [], ◌∷◌, ◌++◌}
use Prim.Native.Nat.{ℕ, zero, suc, ◌+◌, ◌-◌, ◌*◌, ◌<◌, ◌≤◌}
use native.Mathlib.Nat.{le_of_suc-le-suc, not-suc-le-zero}
use native.Mathlib.Numerals.{add-one}
use native.Mathlib.Decide.{dec_lt}
use native.Mathlib.Omega.{arith}
use lib.Dec.{eqb}
use lib.ListN.{length, get_or, take, drop, set, length-set, length-replicate, replicate-append-replicate}
use lib.Seq.{take-append-le, drop-drop, ext_get_or, get_or-set_same, get_or-set_other}
use lib.Ieee.{Float}
use borrow.Author.Tests.{eq-eqb, ne_eqb}
use Rattle.leaves.specs.Number.{plus_zero}
use Rattle.leaves.specs.Triangle.{columns}
use Rattle.leaves.proofs.Triangles.{column_fits}
use Rattle.factor.specs.Room.{Room, part, load, leaving, rested, emptied}
use Rattle.leaves.specs.Square.{uppers_of, belows_of, zeros, cleared}
use Rattle.leaves.proofs.Splices.{splice, splice_twice, lent, filled, part_long, drop_front, drop-take, splice_length, splice_take, splice_before, splice_at, splice_drop}
use Rattle.leaves.proofs.Squares.{uppers_of-length, belows_of-length, column_end, upper_at, below_at}
use Rattle.leaves.proofs.Joined.{columns-same}
use Rattle.factor.proofs.Layouts.{square_upper, square_of_lem}
use Rattle.leaves.specs.inner.Squares.{Square}
use Rattle.factor.specs.inner.Rooms.{Sized, Shaped, with_part}

-- ---- a part that was lent

-- columns before it
pub columns_before : (n k a e : ℕ) (y s : List Float) → a + length y ≡ e → e ≤ length s → k * n ≤ a → columns n k (splice a e y s) ≡ columns n k s
columns_before n k a e y s l f h = columns-same n k (splice a e y s) s (splice_take a e y s l f (k * n) h)

module _ (n k : ℕ) (y s : List Float) (l : length y ≡ n) (f : n * n + k * n + n ≤ length s) where
  -- part k is the new one, and the others are as before
  part_put : (j : ℕ) → part n j (splice (n * n + k * n) (n * n + k * n + n) y s) ≡ cond (eqb k j) y (part n j s)
  unfolding part
  part_put j =
      elim (dec_lt k j) [
        | yes h ↦
            let z = column_fits k j n h in
            rw (ne_eqb k j (λ e. omega arith), splice_drop (n * n + k * n) (n * n + k * n + n) y s (omega arith) f (n * n + j * n) (omega arith))
        | no h ↦
            elim (dec_lt j k) [
              | yes g ↦
                  let z = column_fits j k n g in
                  rw (ne_eqb k j (λ e. omega arith), splice_before (n * n + k * n) (n * n + k * n + n) y s (omega arith) f (n * n + j * n) n (omega arith))
              | no g ↦
                  let e : j ≡ k = omega arith in
                  rw (e, eq-eqb k k refl, splice_at (n * n + k * n) (n * n + k * n + n) y s (omega arith) f n l)
            ]
      ]

  -- LAW
  pub load-put : k < 4 → load n (splice (n * n + k * n) (n * n + k * n + n) y s) ≡ with_part k y (load n s)
  unfolding load with_part
  load-put h =
      let z = column_fits k 4 n h in
      rw (columns_before n n (n * n + k * n) (n * n + k * n + n) y s (omega arith) f (omega arith), part_put 0, part_put 1, part_put 2, part_put 3, splice_drop (n * n + k * n) (n * n + k * n + n) y s (omega arith) f (n * n + 4 * n) (omega arith))

-- and as the borrow checker has it, read and written
pub part_read : (n k a : ℕ) (s : List Float) → a ≡ n * n + k * n → take (a + n - a) (drop a s) ≡ part n k s
unfolding part
part_read n k a s e = let w : a + n - a ≡ n = omega arith in rw (w, e)

pub part_fits : (n k : ℕ) (s : List Float) → Sized n s → k < 4 → length (part n k s) ≡ n
unfolding part
part_fits n k s z h = let f = z.fits in let c = column_fits k 4 n h in part_long (n * n + k * n) n s (omega arith)

pub part_lent : (n k a : ℕ) (y s : List Float) → Sized n s → k < 4 → a ≡ n * n + k * n → length y ≡ n
    → load n (take a s ++ (y ++ drop (a + n - a) (drop a s))) ≡ with_part k y (load n s)
part_lent n k a y s z h e l =
    let f = z.fits in
    let c = column_fits k 4 n h in
    rw (lent a (a + n) y s (omega arith), e) (load-put n k y s l (omega arith) h)

-- the last two parts, filled at once
pub last_lent : (n a : ℕ) (y s : List Float) → Sized n s → a ≡ n * n + 2 * n → y ≡ zeros (length (take (a + 2 * n - a) (drop a s)))
    → load n (take a s ++ (y ++ drop (a + 2 * n - a) (drop a s))) ≡ with_part 3 (zeros n) (with_part 2 (zeros n) (load n s))
last_lent n a y s z e g =
    let f = z.fits in
    let k : length (zeros n) ≡ n = length-replicate n plus_zero in
    let w : a + 2 * n - a ≡ n + n = omega arith in
    let p : y ≡ zeros n ++ zeros n = filled a (a + 2 * n) y s plus_zero (omega arith) g ∙ ap zeros w ∙ sym (replicate-append-replicate n n plus_zero) in
    let b : n * n + 2 * n + n ≡ n * n + 3 * n = omega arith in
    let d : a + 2 * n ≡ n * n + 3 * n + n = omega arith in
    let x : List Float = splice (n * n + 2 * n) (n * n + 3 * n) (zeros n) s in
    let l : length x ≡ length s = splice_length (n * n + 2 * n) (n * n + 3 * n) (zeros n) s (omega arith) (omega arith) in
    let one : load n x ≡ with_part 2 (zeros n) (load n s) = rw b at (load-put n 2 (zeros n) s k (omega arith) (omega arith)) in
    rw (lent a (a + 2 * n) y s (omega arith), d, e, p, splice_twice (n * n + 2 * n) (n * n + 3 * n) (n * n + 3 * n + n) (zeros n) (zeros n) s (omega arith) (omega arith) (omega arith))
    (load-put n 3 (zeros n) x k (omega arith) (omega arith) ∙ ap (λ (r : Room). with_part 3 (zeros n) r) one)

-- what `copy` leaves of slices of one length
-- what every call that passes its checks leaves, as two parts put
pub left_as_lem : (n : ℕ) (l : List Float) (r : Room) → Shaped n r → with_part 3 (zeros n) (with_part 2 l r) ≡ leaving r.below l r
unfolding with_part leaving
left_as_lem n l r z = rw z.work_long

pub rested_as : (n : ℕ) (r : Room) → Shaped n r → with_part 3 (zeros n) r ≡ rested r
unfolding with_part leaving
rested_as n r z = rw z.work_long

-- ---- a square that was lent

abbrev pub with_square : List (List Float) → List (List Float) → Room → Room
with_square us ls r = record { upper = us; below = ls; qtb = r.qtb; norms = r.norms; ldiag = r.ldiag; work = r.work; rest = r.rest }

-- LAW
pub load_square : (n : ℕ) (t s : List Float) → length t ≡ n * n → load n (t ++ drop (n * n) s) ≡ with_square (uppers_of n t) (belows_of n t) (load n s)
unfolding load part
load_square n t s e =
    let c : columns n n (t ++ drop (n * n) s) ≡ columns n n t = columns-same n n _ t (take-append-le (n * n) t (drop (n * n) s) (omega arith)) in
    rw (c, drop_front (n * n) (0 * n) t s e, drop_front (n * n) (1 * n) t s e, drop_front (n * n) (2 * n) t s e, drop_front (n * n) (3 * n) t s e, drop_front (n * n) (4 * n) t s e)

-- and as the borrow checker has it, from what is known of the square
pub square_lent : (n : ℕ) (t s : List Float) {us ls : List (List Float)} → Sized n s → length t ≡ length (take (n * n) s) → uppers_of n t ≡ us → belows_of n t ≡ ls
    → load n (t ++ drop (n * n) s) ≡ with_square us ls (load n s)
square_lent n t s z e u l = rw (← u, ← l) (load_square n t s (e ∙ (square_of_lem n s z).whole))

-- where R stands, what is left then has the new lower part
pub square_leaving : (n : ℕ) (t s l : List Float) → Sized n s → length t ≡ length (take (n * n) s) → uppers_of n t ≡ uppers_of n (take (n * n) s)
    → leaving (load n (t ++ drop (n * n) s)).below l (load n (t ++ drop (n * n) s)) ≡ leaving (belows_of n t) l (load n s)
unfolding leaving
square_leaving n t s l z e u = rw (square_lent n t s z e (u ∙ square_upper n s) refl)

-- ---- the lower end of a column of a square that was lent

module _ (n : ℕ) (s : List Float) (q : Square n s) (k : ℕ) (h : k < n) (y : List Float) (l : length y ≡ n - suc k) where
  abbrev pub end_put : List Float
  end_put = splice (k * n + suc k) (k * n + n) y s

  as_long : k * n + suc k + length y ≡ k * n + n
  as_long = omega arith

  pub end_square : Square n end_put
  end_square = record { small = q.small; whole = splice_length (k * n + suc k) (k * n + n) y s as_long (column_end n s q k h) ∙ q.whole }

  past : (j : ℕ) → k < j → drop (j * n) end_put ≡ drop (j * n) s
  past j p = let z = column_fits k j n p in splice_drop (k * n + suc k) (k * n + n) y s as_long (column_end n s q k h) (j * n) (omega arith)

  before : (j m : ℕ) → j < k → m ≤ n → take m (drop (j * n) end_put) ≡ take m (drop (j * n) s)
  before j m p g = let z = column_fits j k n p in splice_before (k * n + suc k) (k * n + n) y s as_long (column_end n s q k h) (j * n) m (omega arith)

  end-new : drop (suc k) (take n (drop (k * n) end_put)) ≡ y
  end-new =
      drop-take (suc k) n (drop (k * n) end_put)
      ∙ ap (λ (x : List Float). take (n - suc k) x) (drop-drop (suc k) (k * n) end_put)
      ∙ splice_at (k * n + suc k) (k * n + n) y s as_long (column_end n s q k h) (n - suc k) l

  -- LAW: R stands
  pub end-upper : uppers_of n end_put ≡ uppers_of n s
  end-upper =
      ext_get_or [] _ _ (uppers_of-length n end_put ∙ sym (uppers_of-length n s))
      (λ j p. let g : j < n = let z = uppers_of-length n end_put in omega arith in
      rw (upper_at n end_put end_square j g, upper_at n s q j g)
      (elim (dec_lt k j) [
        | yes r ↦ rw (past j r)
        | no r ↦ elim (dec_lt j k) [
          | yes t ↦ before j (suc j) t g
          | no t ↦
              let e : j ≡ k = omega arith in
              rw e (splice_before (k * n + suc k) (k * n + n) y s as_long (column_end n s q k h) (k * n) (suc k) (omega arith))
        ]
      ]))

  -- LAW: and below it the end of column k is the new one
  pub end_below : belows_of n end_put ≡ set (belows_of n s) k y
  end_below =
      ext_get_or [] _ _ (belows_of-length n end_put ∙ sym (length-set (belows_of n s) k y ∙ belows_of-length n s))
      (λ j p. let g : j < n = let z = belows_of-length n end_put in omega arith in
      rw (below_at n end_put end_square j g)
      (elim (dec_lt k j) [
        | yes r ↦ rw (past j r, get_or-set_other (belows_of n s) k j y [] (λ e. omega arith), below_at n s q j g)
        | no r ↦ elim (dec_lt j k) [
          | yes t ↦ rw (before j n t (omega arith), get_or-set_other (belows_of n s) k j y [] (λ e. omega arith), below_at n s q j g)
          | no t ↦
              let e : j ≡ k = omega arith in
              let w : k < length (belows_of n s) = let z = belows_of-length n s in omega arith in
              rw (e, get_or-set_same (belows_of n s) k y [] w) end-new
        ]
      ]))

-- ---- the ends of the first k columns as +0, and the others as they were

abbrev pub cleared_to : ℕ → List (List Float) → List (List Float)
cleared_to k ls = cleared (take k ls) ++ drop k ls

pub cleared_none : (ls : List (List Float)) → ls ≡ cleared_to 0 ls
unfolding cleared
cleared_none ls = refl

cleared_step : (k : ℕ) (ls : List (List Float)) → k < length ls → set (cleared_to k ls) k (zeros (length (get_or ls k []))) ≡ cleared_to (suc k) ls
unfolding cleared
cleared_step k [] h = absurd (not-suc-le-zero h)
cleared_step zero (l ∷ ls) h = refl
cleared_step (suc k) (l ∷ ls) h = ap (λ (r : List (List Float)). zeros (length l) ∷ r) (cleared_step k ls (le_of_suc-le-suc h))

pub cleared_turn : (n k : ℕ) {b b' : List (List Float)} (b₀ : List (List Float)) → k < length b₀ → length (get_or b₀ k []) ≡ n - suc k
    → b ≡ cleared_to k b₀ → b' ≡ set b k (zeros (n - suc k)) → b' ≡ cleared_to (k + 1) b₀
cleared_turn n k b₀ h l e e' = e' ∙ rw (e, ← l, add-one) (cleared_step k b₀ h)

pub cleared-end : (k : ℕ) (ls : List (List Float)) → length ls ≤ k → cleared_to k ls ≡ cleared ls
unfolding cleared
cleared-end zero [] h = refl
cleared-end (suc k) [] h = refl
cleared-end zero (l ∷ ls) h = absurd (not-suc-le-zero h)
cleared-end (suc k) (l ∷ ls) h = ap (λ (r : List (List Float)). zeros (length l) ∷ r) (cleared-end k ls (le_of_suc-le-suc h))

pub emptied_as : (n : ℕ) (r : Room) → Shaped n r → with_part 3 (zeros n) (with_part 2 (zeros n) (with_square r.upper (cleared r.below) r)) ≡ emptied r
unfolding with_part leaving
emptied_as n r z = rw (z.work_long, z.ldiag_long)
