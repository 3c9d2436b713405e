-- 01, 'Refusal numbers', as a table of the leaves: 2 for over 128 numbers to a norm, 3 for slices whose lengths do not fit and for `imax` of
-- none, each exactly then, the output as it came; answered otherwise. Assumes nothing.
use mathlib.Core.Path.{◌≡◌, refl, sym, ap, ◌∙◌}
use mathlib.Core.Bool.{Bool, true, false, cond}
use mathlib.Core.List.{List, [], ◌∷◌}
use mathlib.Core.Logic.{◌↔◌, inl, inr}
use Prim.Native.Nat.{ℕ, ◌*◌, ◌<◌}
use native.Mathlib.Omega.{arith}
use lib.Dec.{eqb, ltb, leb}
use lib.ListN.{length}
use lib.Ieee.{Float}
use borrow.Author.Tests.{eq-eqb, ne_eqb, eqb-false, ltb-true, ltb-false, le-leb, lt-leb}
use Rattle.leaves.specs.declared.norm.Ranges.{Ranges}
use Rattle.leaves.specs.Reply.{Reply, answered, refused}
use Rattle.leaves.specs.Vector.{alike, dot_of, dot, axpy_all, axpy, scale_all, axpy_zero, imax, copy}
use Rattle.leaves.specs.Triangle.{columns, solve_down, solve_upper}
use Rattle.leaves.specs.Norm.{norm, ranges, enorm}
use Rattle.leaves.proofs.Replies.{answered-refused}
use Rattle.demands.specs.Calls.{reply_number}
use Rattle.demands.specs.Workings.{Short, Leaves}

by_alike : {A : Type 0} (xs ys : List Float) (p q : A) → (p ≡ q → ⊥) → (alike xs ys p q ≡ q) ↔ (length xs ≡ length ys → ⊥)
by_alike xs ys p q n = (λ h e. n (sym (rw (eq-eqb (length xs) (length ys) e)) ∙ h), λ h. rw (ne_eqb (length xs) (length ys) h))

abbrev Left : Type 0
Left = Reply (Unit {0}) × List Float

written_not : {x y : List Float} {k : ℕ} → ◌≡◌ {A = Left} (answered tt, x) (refused k, y) → ⊥
written_not e = answered-refused (ap (λ (l : Left). l.0) e)

norm_refused : (xs : List Float) → (enorm xs ≡ refused 2) ↔ (128 < length xs)
unfolding enorm
norm_refused xs = (there, λ h. rw (lt-leb (length xs) 128 h))
  where
    there : cond {A = Reply (Float × Ranges)} (leb (length xs) 128) (answered (norm xs, ranges xs)) (refused 2) ≡ refused 2 → 128 < length xs
    there h = by (ltb 128 (length xs)) refl
      where
        by : (b : Bool) → ltb 128 (length xs) ≡ b → 128 < length xs
        by true e = ltb-true 128 (length xs) e
        by false e = let l = ltb-false 128 (length xs) e in answered-refused (rw (le-leb (length xs) 128 l) at h)

dot-refused : (xs ys : List Float) → (dot xs ys ≡ refused 3) ↔ (length xs ≡ length ys → ⊥)
unfolding dot
dot-refused xs ys = by_alike xs ys (answered (dot_of xs ys)) (refused 3) (λ e. answered-refused e)

axpy-refused : (a : Float) (xs ys : List Float) → (axpy a xs ys ≡ (refused 3, ys)) ↔ (length xs ≡ length ys → ⊥)
unfolding axpy
axpy-refused a xs ys = by_alike xs ys (answered tt, axpy_all a xs ys) (refused 3, ys) written_not

axpy_zero-refused : (a : Float) (xs ys : List Float) → (axpy_zero a xs ys ≡ (refused 3, ys)) ↔ (length xs ≡ length ys → ⊥)
unfolding axpy_zero
axpy_zero-refused a xs ys = by_alike xs ys (answered tt, scale_all a xs) (refused 3, ys) written_not

copy-refused : (xs ys : List Float) → (copy xs ys ≡ (refused 3, ys)) ↔ (length xs ≡ length ys → ⊥)
unfolding copy
copy-refused xs ys = by_alike xs ys (answered tt, xs) (refused 3, ys) written_not

imax-refused : (xs : List Float) → (imax xs ≡ refused 3) ↔ (length xs ≡ 0)
unfolding imax
imax-refused [] = (λ h. refl, λ h. refl)
imax-refused (x ∷ xs) = (λ h. answered-refused h, λ h. absurd (omega arith))

solve_upper-refused : (apart n : ℕ) (r x : List Float) → (solve_upper apart n r x ≡ (refused 3, x)) ↔ Short apart n r x
unfolding solve_upper
solve_upper-refused apart n r x = by (ltb apart n) refl (ltb (length x) n) refl (ltb (length r) (n * apart)) refl
  where
    by : (a : Bool) → ltb apart n ≡ a → (b : Bool) → ltb (length x) n ≡ b → (c : Bool) → ltb (length r) (n * apart) ≡ c
        → (◌≡◌ {A = Left} (cond a (refused 3, x) (cond b (refused 3, x) (cond c (refused 3, x) (answered tt, solve_down (columns apart n r) n x)))) (refused 3, x)) ↔ Short apart n r x
    by true e b f c g = (λ h. inl (ltb-true apart n e), λ h. refl)
    by false e true f c g = (λ h. inr (inl (ltb-true (length x) n f)), λ h. refl)
    by false e false f true g = (λ h. inr (inr (ltb-true (length r) (n * apart) g)), λ h. refl)
    by false e false f false g = (λ h. absurd (written_not h), λ h. absurd (none h))
      where
        none : Short apart n r x → ⊥
        none (inl h) = let l = ltb-false apart n e in omega arith
        none (inr (inl h)) = let l = ltb-false (length x) n f in omega arith
        none (inr (inr h)) = let l = ltb-false (length r) (n * apart) g in omega arith

-- ---- answered otherwise, and so never refused by another number
solve_upper-answered : (apart n : ℕ) (r x : List Float) → (Short apart n r x → ⊥) → reply_number (solve_upper apart n r x).0 ≡ 0
unfolding solve_upper
solve_upper-answered apart n r x h = by (ltb apart n) refl (ltb (length x) n) refl (ltb (length r) (n * apart)) refl
  where
    by : (a : Bool) → ltb apart n ≡ a → (b : Bool) → ltb (length x) n ≡ b → (c : Bool) → ltb (length r) (n * apart) ≡ c
        → (let o : Left = cond a (refused 3, x) (cond b (refused 3, x) (cond c (refused 3, x) (answered tt, solve_down (columns apart n r) n x))) in reply_number o.0 ≡ 0)
    by true e b f c g = absurd (h (inl (ltb-true apart n e)))
    by false e true f c g = absurd (h (inr (inl (ltb-true (length x) n f))))
    by false e false f true g = absurd (h (inr (inr (ltb-true (length r) (n * apart) g))))
    by false e false f false g = refl

norm_answered : (xs : List Float) → (128 < length xs → ⊥) → reply_number (enorm xs) ≡ 0
unfolding enorm
norm_answered xs h = by (ltb 128 (length xs)) refl
  where
    by : (b : Bool) → ltb 128 (length xs) ≡ b → reply_number (cond {A = Reply (Float × Ranges)} (leb (length xs) 128) (answered (norm xs, ranges xs)) (refused 2)) ≡ 0
    by true e = absurd (h (ltb-true 128 (length xs) e))
    by false e = rw (le-leb (length xs) 128 (ltb-false 128 (length xs) e))

imax-answered : (xs : List Float) → (length xs ≡ 0 → ⊥) → reply_number (imax xs) ≡ 0
unfolding imax
imax-answered [] h = absurd (h refl)
imax-answered (x ∷ xs) h = refl

alike-answered : {A : Type 0} (number : A → ℕ) (xs ys : List Float) (p q : A) → number p ≡ 0 → ((length xs ≡ length ys → ⊥) → ⊥) → number (alike xs ys p q) ≡ 0
alike-answered number xs ys p q z h = by (eqb (length xs) (length ys)) refl
  where
    by : (b : Bool) → eqb (length xs) (length ys) ≡ b → number (cond b p q) ≡ 0
    by true e = z
    by false e = absurd (h (eqb-false (length xs) (length ys) e))

-- LAW
pub leaves : Leaves
unfolding dot axpy axpy_zero copy
leaves = record {
  norm = λ xs. (norm_refused xs, norm_answered xs);
  imax = λ xs. (imax-refused xs, imax-answered xs);
  dot = λ xs ys. (dot-refused xs ys, alike-answered reply_number xs ys (answered (dot_of xs ys)) (refused 3) refl);
  axpy = λ a xs ys. (axpy-refused a xs ys, alike-answered first xs ys (answered tt, axpy_all a xs ys) (refused 3, ys) refl);
  axpy_zero = λ a xs ys. (axpy_zero-refused a xs ys, alike-answered first xs ys (answered tt, scale_all a xs) (refused 3, ys) refl);
  copy = λ xs ys. (copy-refused xs ys, alike-answered first xs ys (answered tt, xs) (refused 3, ys) refl);
  solve_upper = λ apart n r x. (solve_upper-refused apart n r x, solve_upper-answered apart n r x);
}
  where
    first : Left → ℕ
    first l = reply_number l.0
