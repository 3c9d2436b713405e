-- What `widened` says of columns that are written one by one, and of the room. Assumes nothing.
use mathlib.Core.Path.{◌≡◌, refl, sym, ap, ◌∙◌}
use mathlib.Core.List.{List, [], ◌∷◌, ◌++◌}
use Prim.Native.Nat.{ℕ, zero, suc, ◌+◌, ◌-◌, ◌*◌, ◌<◌, ◌≤◌}
use native.Mathlib.Nat.{sub-zero, suc-sub-suc, le_of_suc-le-suc, not-suc-le-zero}
use native.Mathlib.Numerals.{add-one}
use native.Mathlib.Omega.{arith}
use lib.ListN.{length, get_or, take, drop, set, length-append, length-drop, length-replicate}
use lib.Seq.{drop-drop, take_all, length-take-le}
use lib.Ieee.{Float}
use Rattle.leaves.specs.Number.{plus_zero}
use Rattle.leaves.specs.Square.{uppers_of, belows_of, zeros, cleared}
use Rattle.leaves.specs.inner.Squares.{Square}
use Rattle.leaves.proofs.Splices.{lent, drop-take}
use Rattle.leaves.proofs.Squares.{below_at, below_long}
use Rattle.factor.specs.Solve.{padded}
use Rattle.factor.specs.Room.{Room, load, lay, leaving, emptied}
use Rattle.factor.specs.inner.Rooms.{Sized, with_part}
use Rattle.factor.proofs.Layouts.{laid, load-lay, load_shaped, emptied_shaped, square_upper, square_below}
use Rattle.factor.proofs.Lent.{end-upper, end_below, part_read, part_lent, with_square, square_lent}
use Rattle.calls.specs.Outcome.{widened}

-- ---- the columns that are written, and +0 in the others

-- nothing written yet: every column is +0
pub widened_none : (n : ℕ) (ls : List (List Float)) → length ls ≡ n → ((k : ℕ) → k < n → length (get_or ls k []) ≡ n - suc k) → cleared ls ≡ widened n []
unfolding widened cleared
widened_none zero [] w t = refl
widened_none zero (l ∷ ls) w t = absurd (omega arith)
widened_none (suc n) [] w t = absurd (omega arith)
widened_none (suc n) (l ∷ ls) w t =
    let e : length l ≡ n = t 0 (omega arith) ∙ omega arith in
    rw (e, widened_none n ls (omega arith) (λ k h. t (suc k) (omega arith) ∙ omega arith))

widened_step : (n k : ℕ) (ls : List (List Float)) → k < length ls → length ls ≤ n
    → set (widened n (take k ls)) k (padded (n - suc k) (get_or ls k [])) ≡ widened n (take (suc k) ls)
unfolding widened
widened_step n k [] h f = absurd (not-suc-le-zero h)
widened_step zero k (l ∷ ls) h f = absurd (not-suc-le-zero f)
widened_step (suc n) zero (l ∷ ls) h f = rw (suc-sub-suc, sub-zero)
widened_step (suc n) (suc k) (l ∷ ls) h f = rw (suc-sub-suc) (ap (λ (r : List (List Float)). padded n l ∷ r) (widened_step n k ls (le_of_suc-le-suc h) (le_of_suc-le-suc f)))

pub widened_turn : (n k : ℕ) {b b' : List (List Float)} (ls : List (List Float)) → k < length ls → length ls ≤ n
    → b ≡ widened n (take k ls) → b' ≡ set b k (padded (n - suc k) (get_or ls k [])) → b' ≡ widened n (take (k + 1) ls)
widened_turn n k ls h f e e' = e' ∙ rw (e, add-one) (widened_step n k ls h f)

pub widened-end : (n k : ℕ) (ls : List (List Float)) → length ls ≤ k → widened n (take k ls) ≡ widened n ls
widened-end n k ls h = rw (take_all k ls h)

-- ---- one column, as the borrow checker has it

pub padded_long : (n : ℕ) (xs : List Float) → length xs ≤ n → length (padded n xs) ≡ n
padded_long n xs h = let z : length (zeros (n - length xs)) ≡ n - length xs = length-replicate (n - length xs) plus_zero in length-append xs (zeros (n - length xs)) ∙ omega arith

module _ (n free k : ℕ) (small square : List Float) (z : Square n square) (w : Square free small) (h : k < free) (f : free ≤ n) where
  abbrev pub column : List Float
  column = get_or (belows_of free small) k []

  column_read : (p q : ℕ) → p ≡ k * free + suc k → q ≡ k * free + free → take (q - p) (drop p small) ≡ column
  column_read p q ep eq =
      let e : q - p ≡ free - suc k = omega arith in
      rw (e, ep) (sym (below_at free small w k h ∙ drop-take (suc k) free (drop (k * free) small) ∙ ap (λ (x : List Float). take (free - suc k) x) (drop-drop (suc k) (k * free) small)))

  pub column_widened : (p q a e : ℕ) (y : List Float) → p ≡ k * free + suc k → q ≡ k * free + free → a ≡ k * n + suc k → e ≡ k * n + n
      → y ≡ padded (e - a) (take (q - p) (drop p small))
      → (uppers_of n (take a square ++ (y ++ drop (e - a) (drop a square))) ≡ uppers_of n square)
      × (belows_of n (take a square ++ (y ++ drop (e - a) (drop a square))) ≡ set (belows_of n square) k (padded (n - suc k) column))
  column_widened p q a e y ep eq ea ee g =
      let s : e - a ≡ n - suc k = omega arith in
      let i : y ≡ padded (n - suc k) column = g ∙ rw (column_read p q ep eq, s) in
      let l : length y ≡ n - suc k = ap length i ∙ padded_long (n - suc k) column (let b = below_long free small w k h in omega arith) in
      rw (lent a e y square (omega arith), ea, ee)
      (end-upper n square z k (omega arith) y l, end_below n square z k (omega arith) y l ∙ ap (λ (x : List Float). set (belows_of n square) k x) i)

-- ---- the lent store: emptied, then its square and l_diag written

-- the part that holds l_diag
pub ldiag_read : (n p : ℕ) (s : List Float) → p ≡ n * n + 2 * n → take (p + n - p) (drop p s) ≡ (load n s).ldiag
unfolding load
ldiag_read n p s e = part_read n 2 p s e

module _ (n : ℕ) (s₀ s₁ : List Float) (z : Sized n s₀) (e : s₁ ≡ lay (emptied (load n s₀))) where
  emptied-load : load n s₁ ≡ emptied (load n s₀)
  emptied-load = rw e (load-lay n (emptied (load n s₀)) (emptied_shaped n (load n s₀) (load_shaped n s₀ z)))

  pub emptied-below : belows_of n (take (n * n) s₁) ≡ widened n []
  unfolding leaving
  emptied-below =
      let h = load_shaped n s₀ z in
      square_below n s₁ ∙ ap (λ (r : Room). r.below) emptied-load ∙ widened_none n (load n s₀).below h.below_wide h.below_tall

  pub widened-left : (t y : List Float) (ls : List (List Float)) (a : ℕ) → Sized n s₁ → length t ≡ length (take (n * n) s₁)
      → uppers_of n t ≡ uppers_of n (take (n * n) s₁) → belows_of n t ≡ ls → a ≡ n * n + 2 * n → length y ≡ n
      → take a (t ++ drop (n * n) s₁) ++ (y ++ drop (a + n - a) (drop a (t ++ drop (n * n) s₁))) ≡ lay (leaving ls y (load n s₀))
  unfolding leaving with_part
  widened-left t y ls a z₁ l u b ea ly =
      let x : List Float = t ++ drop (n * n) s₁ in
      let f = z₁.fits in
      let w : length x ≡ length s₁ = length-append t (drop (n * n) s₁) ∙ rw (l, length-take-le (n * n) s₁ (omega arith), length-drop) (omega arith) in
      let zx : Sized n x = record { small = z₁.small; fits = omega arith } in
      laid n _ (part_lent n 2 a y x zx (omega arith) ea ly
      ∙ ap (λ (r : Room). with_part 2 y r) (square_lent n t s₁ z₁ l (u ∙ square_upper n s₁) b ∙ ap (λ (r : Room). with_square r.upper ls r) emptied-load))
