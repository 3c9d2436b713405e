-- Arrays by indices, read as parts: what stands at a place is the head of what comes from there on, and an assignment there replaces that head. For
-- QRSOLV (`specs/Qrsolv.antt`) column k of r is what stands above the diagonal and row k of S from its diagonal on. Assumes nothing.
use mathlib.Core.Path.{◌≡◌, sym, ap, ◌∙◌}
use mathlib.Core.List.{List, [], ◌∷◌, ◌++◌}
use Prim.Native.Nat.{ℕ, suc, ◌+◌, ◌<◌}
use native.Mathlib.Omega.{arith}
use lib.ListN.{length, get_or, set, length-append}
use lib.Seq.{append_snoc, get_or_at, set_at}
use lib.Ieee.{Float, nan}
use Rattle.search.specs.Qrsolv.{cell, put_cell}

-- columns laid out from their upper and their lower ends
abbrev pub laid : List (List Float) → List (List Float) → List (List Float)
laid [] ls = []
laid (u ∷ us) [] = []
laid (u ∷ us) (l ∷ ls) = (u ++ l) ∷ laid us ls

-- each upper end with its diagonal entry
abbrev pub with_diagonal : List (List Float) → List Float → List (List Float)
with_diagonal [] xs = []
with_diagonal (u ∷ us) [] = []
with_diagonal (u ∷ us) (x ∷ xs) = (u ++ (x ∷ [])) ∷ with_diagonal us xs

-- ends of k, k + 1, .. numbers
abbrev pub Rising : ℕ → List (List Float) → Type 0
Rising k [] = Unit {0}
Rising k (u ∷ us) = (length u ≡ k) × Rising (suc k) us

pub rising_of : (k : ℕ) (us : List (List Float)) → ((i : ℕ) → i < length us → length (get_or us i []) ≡ k + i) → Rising k us
rising_of k [] h = tt
rising_of k (u ∷ us) h = (h 0 (omega arith) ∙ omega arith, rising_of (suc k) us (λ i l. h (suc i) (omega arith) ∙ omega arith))

-- one more before
pub length_snoc : {A : Type 0} (xs : List A) (x : A) {k : ℕ} → length xs ≡ k → length (xs ++ (x ∷ [])) ≡ suc k
length_snoc xs x h = length-append xs (x ∷ []) ∙ omega (arith, h)

module _ (front : List (List Float)) (p xs : List Float) (x : Float) (back : List (List Float)) {i k : ℕ} (h : length front ≡ k) (l : length p ≡ i) where
  pub cell_at : cell (front ++ ((p ++ (x ∷ xs)) ∷ back)) i k ≡ x
  cell_at = ap (λ (c : List Float). get_or c i nan) (get_or_at front (p ++ (x ∷ xs)) back [] k h) ∙ get_or_at p x xs nan i l

  pub put_at : (y : Float) → put_cell (front ++ ((p ++ (x ∷ xs)) ∷ back)) i k y ≡ front ++ ((p ++ (y ∷ xs)) ∷ back)
  put_at y =
      let r = front ++ ((p ++ (x ∷ xs)) ∷ back) in
      ap (λ (c : List Float). set r k (set c i y)) (get_or_at front (p ++ (x ∷ xs)) back [] k h)
      ∙ ap (set r k) (set_at p x xs y i l)
      ∙ set_at front (p ++ (x ∷ xs)) back (p ++ (y ∷ xs)) k h

  -- and what stands there belongs to what comes before
  pub put_next : (y : Float) → put_cell (front ++ ((p ++ (x ∷ xs)) ∷ back)) i k y ≡ front ++ (((p ++ (y ∷ [])) ++ xs) ∷ back)
  put_next y = put_at y ∙ ap (λ (c : List Float). front ++ (c ∷ back)) (sym (append_snoc p y xs))

pub set_next : (p xs : List Float) (x y : Float) {i : ℕ} → length p ≡ i → set (p ++ (x ∷ xs)) i y ≡ (p ++ (y ∷ [])) ++ xs
set_next p xs x y {i} l = set_at p x xs y i l ∙ sym (append_snoc p y xs)
