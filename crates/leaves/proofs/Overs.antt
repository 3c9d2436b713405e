-- A list written from its first place on: the new numbers, then what is left of the old. Assumes nothing.
use mathlib.Core.Path.{◌≡◌, refl, ap, ◌∙◌}
use mathlib.Core.List.{List, [], ◌∷◌, ◌++◌, append_assoc}
use Prim.Native.Nat.{ℕ, zero, suc, ◌+◌, ◌<◌, ◌≤◌}
use native.Mathlib.Nat.{not-suc-le-zero, le_of_suc-le-suc}
use native.Mathlib.Numerals.{add-one}
use native.Mathlib.Omega.{arith}
use lib.ListN.{length, get_or, take, drop, set, length-drop, drop_of_length-le, replicate}
use lib.Seq.{length-take-le, take_all, take_at, drop_at, take-add, drop-drop}
use lib.Ieee.{Float}
use Rattle.leaves.specs.Number.{plus_zero}
use Rattle.leaves.specs.Loop.{count_from}
use Rattle.leaves.specs.Square.{zeros}
use Rattle.leaves.specs.inner.Patch.{patch}

pub append_nil : {A : Type 0} (l : List A) → l ++ [] ≡ l
append_nil [] = refl
append_nil (x ∷ xs) = ap (λ (r : List _). x ∷ r) (append_nil xs)

-- the first i of s replaced by those of t
abbrev pub over : {A : Type 0} → ℕ → List A → List A → List A
over i t s = take i t ++ drop i s

pub over_set : {A : Type 0} (d : A) (t s : List A) (i : ℕ) → i < length t → i < length s → set (over i t s) i (get_or t i d) ≡ over (suc i) t s
over_set d [] s i h k = absurd (not-suc-le-zero h)
over_set d (x ∷ t) [] i h k = absurd (not-suc-le-zero k)
over_set d (x ∷ t) (y ∷ s) zero h k = refl
over_set d (x ∷ t) (y ∷ s) (suc i) h k = ap (λ (r : List _). x ∷ r) (over_set d t s i (le_of_suc-le-suc h) (le_of_suc-le-suc k))

pub over_end : {A : Type 0} (t s : List A) (i : ℕ) → length t ≤ i → length s ≤ i → over i t s ≡ t
over_end t s i h k = rw (take_all i t h, drop_of_length-le s {i = i} k) (append_nil t)

pub over_turn : {A : Type 0} (d : A) (t s s' : List A) (v : A) (i : ℕ) → i < length t → length t ≡ length s → v ≡ get_or t i d → s' ≡ over i t s → set s' i v ≡ over (i + 1) t s
over_turn d t s s' v i h e w q = rw (q, w, add-one) (over_set d t s i h (omega arith))

-- the next k of t put in their place
pub over_chunk : {A : Type 0} (a k : ℕ) (t s : List A) → a ≤ length t → patch a k (over a t s) (take k (drop a t)) ≡ over (a + k) t s
over_chunk a k t s h =
    let l : length (take a t) ≡ a = length-take-le a t h in
    rw (take_at (take a t) (drop a s) a l, drop_at (take a t) (drop a s) a l, drop-drop k a s, take-add a k t, append_assoc (take a t) (take k (drop a t)) (drop (a + k) s))

-- two parts written one after the other: the first as a front, the second from p to e
pub two_parts : (p w : ℕ) (a b s y z : List Float) → length a ≡ p → length s ≡ p + w → y ≡ a → z ≡ b
    → take p (y ++ drop p s) ++ (z ++ drop w (drop p (y ++ drop p s))) ≡ a ++ b
two_parts p w a b s y z la ls ey ez =
    let d : drop w (drop p s) ≡ [] = drop_of_length-le (drop p s) {i = w} (simp length-drop (omega arith)) in
    rw (ey, ez, take_at a (drop p s) p la, drop_at a (drop p s) p la, d, append_nil b)

pub second_long : (p w : ℕ) (s y : List Float) → length y ≡ p → length s ≡ p + w → length (take w (drop p (y ++ drop p s))) ≡ w
second_long p w s y ly ls = rw (drop_at y (drop p s) p ly) (length-take-le w (drop p s) (simp length-drop (omega arith)))

pub filled : (p w : ℕ) (s y z : List Float) → length y ≡ p → length s ≡ p + w → z ≡ zeros (length (take w (drop p (y ++ drop p s)))) → z ≡ zeros w
filled p w s y z ly ls e = e ∙ ap zeros (second_long p w s y ly ls)

-- ---- counting
pub count-length : (k a : ℕ) → length (count_from k a) ≡ k
unfolding count_from
count-length zero a = refl
count-length (suc k) a = ap suc (count-length k (suc a))

pub count_at : (k a i : ℕ) → i < k → get_or (count_from k a) i 0 ≡ a + i
unfolding count_from
count_at zero a i h = absurd (not-suc-le-zero h)
count_at (suc k) a zero h = omega arith
count_at (suc k) a (suc i) h = count_at k (suc a) i (le_of_suc-le-suc h) ∙ omega arith

-- ---- the first n of a room for 16 numbers
pub lent_fits : (n : ℕ) (r : List Float) → r ≡ replicate 16 plus_zero → n ≤ 16 → n ≤ length r
lent_fits n r e h = let l : length r ≡ 16 = ap length e in omega arith

pub lent_long : (n : ℕ) (r : List Float) → r ≡ replicate 16 plus_zero → n ≤ 16 → length (take n r) ≡ n
lent_long n r e h = length-take-le n r (lent_fits n r e h)
