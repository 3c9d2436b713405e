-- One turn of each loop over a list, as a law. Assumes nothing.
use mathlib.Core.Path.{◌≡◌, refl, sym, ap, ◌∙◌}
use mathlib.Core.Bool.{Bool, true, false, cond}
use mathlib.Core.List.{List, [], ◌∷◌, ◌++◌}
use Prim.Native.Nat.{ℕ, zero, suc, ◌+◌, ◌<◌, ◌≤◌}
use native.Mathlib.Numerals.{add-one}
use native.Mathlib.Omega.{arith}
use native.Mathlib.Nat.{not-suc-le-zero, le_of_suc-le-suc}
use lib.ListN.{length, get_or, take, drop, set, drop_of_length-le}
use lib.Seq.{drop-cons, take_all}
use lib.Ieee.{Float, nan, binary64, add, mul, lt}
use Rattle.std.specs.Prelude.{Result, Ok}
use Rattle.leaves.specs.Reply.{Reply, answered, refused, reply_of}
use Rattle.leaves.specs.declared.reply.Refusal.{Refusal}
use Rattle.leaves.proofs.Replies.{reply_of-ok}
use Rattle.leaves.specs.Vector.{dot_from, dot_of, dot, axpy_all, axpy, scale_all, axpy_zero, imax_from, imax, copy}
use borrow.Author.Tests.{eq-eqb, ne_eqb}

-- ---- dot
pub dot_step : (s : Float) (a b : List Float) (i : ℕ) → i < length a → i < length b
    → dot_from (add binary64 s (mul binary64 (get_or a i nan) (get_or b i nan))) (drop (i + 1) a) (drop (i + 1) b) ≡ dot_from s (drop i a) (drop i b)
unfolding dot_from
dot_step s a b i h k = rw (add-one, drop-cons a i nan h, drop-cons b i nan k)

pub dot-end : (s : Float) (a b : List Float) (i : ℕ) → length a ≤ i → dot_from s (drop i a) (drop i b) ≡ s
unfolding dot_from
dot-end s a b i h = rw (drop_of_length-le a {i = i} h)

pub dot-refused : (xs ys : List Float) → (length xs ≡ length ys → ⊥) → refused 3 ≡ dot xs ys
unfolding dot
dot-refused xs ys h = rw (ne_eqb (length xs) (length ys) h, dot)

pub dot_is : (xs ys : List Float) → length xs ≡ length ys → answered (dot_of xs ys) ≡ dot xs ys
unfolding dot
dot_is xs ys h = rw (eq-eqb (length xs) (length ys) h, dot)

-- ---- a list written place by place: the first i are done, the rest as they were
pub axpy_step : (a : Float) (xs ys : List Float) (i : ℕ) → i < length xs → i < length ys
    → set (axpy_all a (take i xs) ys) i (add binary64 (mul binary64 a (get_or xs i nan)) (get_or (axpy_all a (take i xs) ys) i nan)) ≡ axpy_all a (take (suc i) xs) ys
unfolding axpy_all
axpy_step a [] ys i h k = absurd (not-suc-le-zero h)
axpy_step a (x ∷ xs) [] i h k = absurd (not-suc-le-zero k)
axpy_step a (x ∷ xs) (y ∷ ys) zero h k = refl
axpy_step a (x ∷ xs) (y ∷ ys) (suc i) h k = ap (λ (l : List Float). add binary64 (mul binary64 a x) y ∷ l) (axpy_step a xs ys i (le_of_suc-le-suc h) (le_of_suc-le-suc k))

pub axpy-length : (a : Float) (xs ys : List Float) → length (axpy_all a xs ys) ≡ length ys
unfolding axpy_all
axpy-length a [] ys = refl
axpy-length a (x ∷ xs) [] = refl
axpy-length a (x ∷ xs) (y ∷ ys) = ap suc (axpy-length a xs ys)

pub axpy_turn : (a : Float) (xs ys y : List Float) (i : ℕ) → i < length xs → length xs ≡ length ys → y ≡ axpy_all a (take i xs) ys
    → set y i (add binary64 (mul binary64 a (get_or xs i nan)) (get_or y i nan)) ≡ axpy_all a (take (i + 1) xs) ys
axpy_turn a xs ys y i h e q = rw (q, add-one) (axpy_step a xs ys i h (omega arith))

pub axpy-refused : (a : Float) (xs ys : List Float) → (length xs ≡ length ys → ⊥) → (refused 3, ys) ≡ axpy a xs ys
unfolding axpy
axpy-refused a xs ys h = rw (ne_eqb (length xs) (length ys) h, axpy)

pub axpy_is : (a : Float) (xs ys y : List Float) (i : ℕ) → length xs ≡ length ys → length xs ≤ i → y ≡ axpy_all a (take i xs) ys → (answered tt, y) ≡ axpy a xs ys
unfolding axpy
axpy_is a xs ys y i h k q = rw (q, take_all i xs k, eq-eqb (length xs) (length ys) h, axpy)

-- ---- on lengths that fit a leaf is never refused
pub dot_fits : (xs ys : List Float) (r : Result Float Refusal) → length xs ≡ length ys → reply_of r ≡ dot xs ys → r ≡ Ok (dot_of xs ys)
dot_fits xs ys r h e = reply_of-ok r (e ∙ sym (dot_is xs ys h))

pub axpy_fits : (a : Float) (xs ys y : List Float) (r : Result (Unit {0}) Refusal) → length xs ≡ length ys → (reply_of r, y) ≡ axpy a xs ys → (r ≡ Ok tt) × (y ≡ axpy_all a xs ys)
unfolding axpy
axpy_fits a xs ys y r h e =
    let s : (reply_of r, y) ≡ (answered tt, axpy_all a xs ys) = e ∙ rw (eq-eqb (length xs) (length ys) h) refl in
    (reply_of-ok r (ap (λ (p : Reply (Unit {0}) × List Float). p.0) s), ap (λ (p : Reply (Unit {0}) × List Float). p.1) s)

-- the first i of ys replaced by those of zs
abbrev pub front : ℕ → List Float → List Float → List Float
front i zs ys = take i zs ++ drop i ys

pub front_step : (zs ys : List Float) (i : ℕ) → i < length zs → i < length ys → set (front i zs ys) i (get_or zs i nan) ≡ front (suc i) zs ys
front_step [] ys i h k = absurd (not-suc-le-zero h)
front_step (z ∷ zs) [] i h k = absurd (not-suc-le-zero k)
front_step (z ∷ zs) (y ∷ ys) zero h k = refl
front_step (z ∷ zs) (y ∷ ys) (suc i) h k = ap (λ (l : List Float). z ∷ l) (front_step zs ys i (le_of_suc-le-suc h) (le_of_suc-le-suc k))

pub front_turn : (zs ys y : List Float) (v : Float) (i : ℕ) → i < length zs → length zs ≡ length ys → v ≡ get_or zs i nan → y ≡ front i zs ys → set y i v ≡ front (i + 1) zs ys
front_turn zs ys y v i h e w q = rw (q, w, add-one) (front_step zs ys i h (omega arith))

pub front_end : (zs ys y : List Float) (i : ℕ) → length zs ≡ length ys → length zs ≤ i → y ≡ front i zs ys → y ≡ zs
front_end zs ys y i e h q = q ∙ rw (take_all i zs h, drop_of_length-le ys {i = i} (omega arith)) (nil zs)
  where
    nil : (l : List Float) → l ++ [] ≡ l
    nil [] = refl
    nil (x ∷ xs) = ap (λ (r : List Float). x ∷ r) (nil xs)

pub scale-length : (a : Float) (xs : List Float) → length (scale_all a xs) ≡ length xs
unfolding scale_all
scale-length a [] = refl
scale-length a (x ∷ xs) = ap suc (scale-length a xs)

pub scale_at : (a : Float) (xs : List Float) (i : ℕ) → i < length xs → mul binary64 a (get_or xs i nan) ≡ get_or (scale_all a xs) i nan
unfolding scale_all
scale_at a [] i h = absurd (not-suc-le-zero h)
scale_at a (x ∷ xs) zero h = refl
scale_at a (x ∷ xs) (suc i) h = scale_at a xs i (le_of_suc-le-suc h)

pub scale-refused : (a : Float) (xs ys : List Float) → (length xs ≡ length ys → ⊥) → (refused 3, ys) ≡ axpy_zero a xs ys
unfolding axpy_zero
scale-refused a xs ys h = rw (ne_eqb (length xs) (length ys) h, axpy_zero)

pub scale_is : (a : Float) (xs ys y : List Float) → length xs ≡ length ys → y ≡ scale_all a xs → (answered tt, y) ≡ axpy_zero a xs ys
unfolding axpy_zero
scale_is a xs ys y h q = rw (q, eq-eqb (length xs) (length ys) h, axpy_zero)

pub copy-refused : (xs ys : List Float) → (length xs ≡ length ys → ⊥) → (refused 3, ys) ≡ copy xs ys
unfolding copy
copy-refused xs ys h = rw (ne_eqb (length xs) (length ys) h, copy)

pub copy_is : (xs ys y : List Float) → length xs ≡ length ys → y ≡ xs → (answered tt, y) ≡ copy xs ys
unfolding copy
copy_is xs ys y h q = rw (q, eq-eqb (length xs) (length ys) h, copy)

-- what a copy of fitting length leaves
pub copy_leaves : (xs ys l : List Float) {d : Reply (Unit {0})} → length xs ≡ length ys → (d, l) ≡ copy xs ys → l ≡ xs
copy_leaves xs ys l h e = ap (λ (p : Reply (Unit {0}) × List Float). p.1) (e ∙ sym (copy_is xs ys xs h refl))

-- ---- imax, by the test
imax-cons : (b : ℕ) (v : Float) (i : ℕ) (x : Float) (xs : List Float) (c : Bool) → lt v x ≡ c
    → imax_from b v i (x ∷ xs) ≡ imax_from (cond c i b) (cond c x v) (suc i) xs
unfolding imax_from
imax-cons b v i x xs c t = ap (λ (d : Bool). imax_from (cond d i b) (cond d x v) (suc i) xs) t

pub imax_greater : (v : List Float) (b i : ℕ) → i < length v → lt (get_or v b nan) (get_or v i nan) ≡ true
    → imax_from i (get_or v i nan) (i + 1) (drop (i + 1) v) ≡ imax_from b (get_or v b nan) i (drop i v)
imax_greater v b i h t = rw (add-one, drop-cons v i nan h) (sym (imax-cons b _ i _ _ true t))

pub imax_not : (v : List Float) (b i : ℕ) → i < length v → lt (get_or v b nan) (get_or v i nan) ≡ false
    → imax_from b (get_or v b nan) (i + 1) (drop (i + 1) v) ≡ imax_from b (get_or v b nan) i (drop i v)
imax_not v b i h t = rw (add-one, drop-cons v i nan h) (sym (imax-cons b _ i _ _ false t))

pub imax-end : (v : List Float) (b i : ℕ) → length v ≤ i → imax_from b (get_or v b nan) i (drop i v) ≡ b
unfolding imax_from
imax-end v b i h = rw (drop_of_length-le v {i = i} h)

pub imax_none : (v : List Float) → length v ≡ 0 → refused 3 ≡ imax v
unfolding imax
imax_none [] h = refl
imax_none (x ∷ xs) h = absurd (omega arith)

pub imax-some : (v : List Float) → 0 < length v → answered (imax_from 0 (get_or v 0 nan) 1 (drop 1 v)) ≡ imax v
unfolding imax
imax-some [] h = absurd (omega arith)
imax-some (x ∷ xs) h = refl

pub nonzero : (n : ℕ) → (n ≡ 0 → ⊥) → 0 < n
nonzero zero h = absurd (h refl)
nonzero (suc n) h = omega arith
