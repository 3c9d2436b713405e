-- Marks by turns of a loop that reads the first column's and goes on with the next. Assumes nothing.
use Prim.Native.Nat.{ℕ, zero, suc, ◌+◌, ◌-◌, ◌*◌, ◌^◌, ◌≤◌, ◌<◌, min}
use mathlib.Core.Path.{◌≡◌, refl, sym, ap, ◌∙◌}
use mathlib.Core.Bool.{Bool, true, false, not}
use mathlib.Core.List.{List, ◌∷◌}
use native.Mathlib.Nat.{add-zero, zero-add, sub_self, pow-suc, min-eq_left, min-eq_right}
use native.Mathlib.Omega.{arith}
use lib.Dec.{eqb, ltb}
use borrow.Author.Tests.{le-leb, lt-leb, ltb-true, ltb-false}
use Rattle.frozen.specs.Frozen.{is_set, next_of, marks_of, mark_past, free_count}
use Rattle.frozen.proofs.Unmarked.{none_set, none_past}

pub next_free : (x : ℕ) → x < 32768 → next_of x ≡ x * 2
next_free x h = rw (lt-leb 32768 x h) (omega arith)

pub next_frozen : (x : ℕ) → 32768 ≤ x → next_of x ≡ (x - 32768) * 2
next_frozen x h = rw (le-leb 32768 x h) (omega arith)

-- sixteen bits stay sixteen
pub next_below : (x : ℕ) → x < 65536 → next_of x < 65536
next_below x h = by (ltb x 32768) refl
  where
    by : (b : Bool) → ltb x 32768 ≡ b → next_of x < 65536
    by true e = let l = ltb-true x 32768 e in rw (next_free x l) (omega arith)
    by false e = let l = ltb-false x 32768 e in rw (next_frozen x l) (omega arith)

-- the columns after column k
pub after : (n k : ℕ) → k < n → n - k ≡ suc (n - (k + 1))
after n k h = omega arith

module _ (n k x : ℕ) (h : k < n) where
  pub count_free : (free : ℕ) → x < 32768 → free + 1 + free_count (marks_of (n - (k + 1)) (next_of x)) ≡ free + free_count (marks_of (n - k) x)
  unfolding marks_of free_count
  count_free free f = rw (after n k h, lt-leb 32768 x f) (omega arith)

  pub count_frozen : (free : ℕ) → 32768 ≤ x → free + free_count (marks_of (n - (k + 1)) (next_of x)) ≡ free + free_count (marks_of (n - k) x)
  unfolding marks_of free_count
  count_frozen free f = rw (after n k h, le-leb 32768 x f) refl

  pub past_turn : mark_past (n - (k + 1)) (next_of x) ≡ mark_past (n - k) x
  unfolding mark_past
  past_turn = rw (after n k h) refl

-- ---- sixteen turns leave nothing of sixteen bits: what k more leave nothing of, the next has k − 1 to go
whole_after : (w y q : ℕ) → (32768 + y) * (w * 2) ≡ q * 65536 → y * 2 * w ≡ (q - w) * 65536
whole_after w y q e = omega arith

next_whole : (k x q : ℕ) → x * 2 ^ suc k ≡ q * 65536 → (p : ℕ) × (next_of x * 2 ^ k ≡ p * 65536)
next_whole k x q e = by (ltb x 32768) refl
  where
    w : x * (2 ^ k * 2) ≡ q * 65536
    w = ap (λ (t : ℕ). x * t) (sym (pow-suc 2 k)) ∙ e

    by : (b : Bool) → ltb x 32768 ≡ b → (p : ℕ) × (next_of x * 2 ^ k ≡ p * 65536)
    by true h = (q, rw (next_free x (ltb-true x 32768 h)) (omega (arith, w)))
    by false h =
        let l = ltb-false x 32768 h in
        let y : 32768 + (x - 32768) ≡ x = omega arith in
        (q - 2 ^ k, rw (next_frozen x l) (whole_after (2 ^ k) (x - 32768) q (ap (λ (t : ℕ). t * (2 ^ k * 2)) y ∙ w)))

counted_on : (b : Bool) (ms ns : List Bool) (r : ℕ) → free_count ms ≡ r + free_count ns → free_count (b ∷ ms) ≡ r + free_count (b ∷ ns)
unfolding free_count
counted_on true ms ns r e = e
counted_on false ms ns r e = omega arith

gone : (k t r x q : ℕ) → t ≡ k + r → x < 65536 → x * 2 ^ k ≡ q * 65536 → (free_count (marks_of t x) ≡ r + free_count (marks_of k x)) × (mark_past t x ≡ false)
unfolding marks_of mark_past free_count
gone zero t r x q e h w =
    let z : x ≡ 0 = omega arith in
    let f : t ≡ r + 0 = omega arith in
    rw z (none_set t ∙ f, none_past t)
gone (suc k) zero r x q e h w = absurd (omega arith)
gone (suc k) (suc t) r x q e h w =
    let p = next_whole k x q w in
    let i = gone k t r (next_of x) p.0 (omega arith) (next_below x h) p.1 in
    (counted_on (is_set x) (marks_of t (next_of x)) (marks_of k (next_of x)) r i.0, i.1)

pub past_sixteen : (n x : ℕ) → x < 65536 → 16 ≤ n → mark_past n x ≡ false
past_sixteen n x h l = (gone 16 n (n - 16) x x (omega arith) h refl).1

pub count_sixteen : (n x : ℕ) → x < 65536 → n - min n 16 + free_count (marks_of (min n 16) x) ≡ free_count (marks_of n x)
count_sixteen n x h = by (ltb n 16) refl
  where
    by : (b : Bool) → ltb n 16 ≡ b → n - min n 16 + free_count (marks_of (min n 16) x) ≡ free_count (marks_of n x)
    by true e =
        let l = ltb-true n 16 e in
        let m : min n 16 ≡ n = min-eq_left (omega arith) in
        rw (m, sub_self n) (zero-add (free_count (marks_of n x)))
    by false e = let l = ltb-false n 16 e in rw (min-eq_right l) (sym (gone 16 n (n - 16) x x (omega arith) h refl).0)

-- where the first is free, some are
pub some_free : (left x : ℕ) → 0 < left → x < 32768 → 0 < free_count (marks_of left x)
unfolding marks_of free_count
some_free zero x p h = absurd (omega arith)
some_free (suc l) x p h = rw (lt-leb 32768 x h) (omega arith)

pub count-end : (left x free all : ℕ) → left ≤ 0 → free + free_count (marks_of left x) ≡ all → free ≡ all
unfolding marks_of free_count
count-end zero x free all h e = sym (add-zero free) ∙ e
count-end (suc l) x free all h e = absurd (omega arith)

pub past_end : (left x : ℕ) (t : Bool) → left ≤ 0 → mark_past left x ≡ t → not (eqb x 0) ≡ t
unfolding mark_past
past_end zero x t h e = e
past_end (suc l) x t h e = absurd (omega arith)
