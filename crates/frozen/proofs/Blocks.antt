-- Whole columns copied one after the other, the frozen ones left out. Assumes nothing.
use Prim.Native.Nat.{ℕ, zero, suc, ◌+◌, ◌-◌, ◌*◌, ◌≤◌, ◌<◌}
use mathlib.Core.Path.{◌≡◌, refl, sym, ap, ◌∙◌}
use mathlib.Core.Bool.{Bool, true, false}
use mathlib.Core.List.{List, [], ◌∷◌, ◌++◌, append_assoc}
use native.Mathlib.Nat.{mul-suc, mul-zero, suc-mul, mul-le-mul, le_refl}
use native.Mathlib.Omega.{arith}
use lib.ListN.{length, take, drop, length-append, length-drop}
use lib.Seq.{length-take-le, take_all, take_at}
use lib.Ieee.{Float}
use borrow.Author.Tests.{le-leb, lt-leb, lt-ltb, le-ltb}
use Rattle.leaves.proofs.Overs.{append_nil}
use Rattle.leaves.specs.Reply.{answered, refused}
use Rattle.leaves.specs.Tests.{outside}
use Rattle.frozen.specs.Frozen.{is_set, next_of, marks_of, free_count, free_columns}
use Rattle.frozen.specs.Moved.{columns_call}
use Rattle.frozen.proofs.Runs.{after_parts}
use Rattle.frozen.proofs.Turns.{after}

-- room for a free column among the free ones
module _ (m n k x : ℕ) (h : k < n) where
  pub column_counted : x < 32768 → m * free_count (marks_of (n - k) x) ≡ m + m * free_count (marks_of (n - (k + 1)) (next_of x))
  unfolding marks_of free_count
  column_counted f = rw (after n k h, lt-leb 32768 x f) (mul-suc m _ ∙ omega arith)

  pub column_skipped : 32768 ≤ x → m * free_count (marks_of (n - k) x) ≡ m * free_count (marks_of (n - (k + 1)) (next_of x))
  unfolding marks_of free_count
  column_skipped f = rw (after n k h, le-leb 32768 x f) refl

  pub column_copied : (b : ℕ) (src dst y rest : List Float) → x < 32768 → b ≤ length dst → length y ≡ m → y ≡ take m (drop (k * m) src)
      → take (b + m) (take b dst ++ (y ++ rest)) ++ free_columns m (marks_of (n - (k + 1)) (next_of x)) (drop ((k + 1) * m) src)
      ≡ take b dst ++ free_columns m (marks_of (n - k) x) (drop (k * m) src)
  unfolding marks_of free_columns
  column_copied b src dst y rest f p l e =
      let t : length (take b dst ++ y) ≡ b + m = let z = length-take-le b dst p in length-append (take b dst) y ∙ omega arith in
      let u : take (b + m) (take b dst ++ (y ++ rest)) ≡ take b dst ++ y = ap (λ (s : List Float). take (b + m) s) (sym (append_assoc (take b dst) y rest)) ∙ take_at (take b dst ++ y) rest (b + m) t in
      rw (u, after n k h, after_parts m k src, lt-leb 32768 x f, e) (append_assoc (take b dst) (take m (drop (k * m) src)) _)

  pub column_passed : (src : List Float) → 32768 ≤ x
      → free_columns m (marks_of (n - (k + 1)) (next_of x)) (drop ((k + 1) * m) src) ≡ free_columns m (marks_of (n - k) x) (drop (k * m) src)
  unfolding marks_of free_columns
  column_passed src f = rw (after n k h, after_parts m k src, le-leb 32768 x f) refl

pub columns-end : (m left x a b : ℕ) (src dst all : List Float) → left ≤ 0 → b + m * free_count (marks_of left x) ≡ length dst
    → take b dst ++ free_columns m (marks_of left x) (drop a src) ≡ all → dst ≡ all
unfolding marks_of free_columns free_count
columns-end m zero x a b src dst all h l e = let z = mul-zero m in sym (append_nil dst) ∙ (ap (λ (s : List Float). s ++ []) (sym (take_all b dst (omega arith))) ∙ e)
columns-end m (suc left) x a b src dst all h l e = absurd (omega arith)

-- how many numbers the free columns are
pub columns-length : (m : ℕ) (ms : List Bool) (s : List Float) → length ms * m ≤ length s → length (free_columns m ms s) ≡ m * free_count ms
unfolding free_columns free_count
columns-length m [] s h = sym (mul-zero m)
columns-length m (true ∷ ms) s h = let e = suc-mul (length ms) m in columns-length m ms (drop m s) (simp length-drop (omega arith))
columns-length m (false ∷ ms) s h =
    let e = suc-mul (length ms) m in
    let t = length-take-le m s (omega arith) in
    let r = columns-length m ms (drop m s) (simp length-drop (omega arith)) in
    let f = mul-suc m (free_count ms) in
    length-append (take m s) (free_columns m ms (drop m s)) ∙ omega arith

pub marks-length : (n x : ℕ) → length (marks_of n x) ≡ n
unfolding marks_of
marks-length zero x = refl
marks-length (suc n) x = ap suc (marks-length n (next_of x))

free_or_not : (b : Bool) (ms : List Bool) → free_count (b ∷ ms) ≤ suc (free_count ms)
unfolding free_count
free_or_not true ms = omega arith
free_or_not false ms = le_refl (suc (free_count ms))

count_fits : (n x : ℕ) → free_count (marks_of n x) ≤ n
unfolding marks_of free_count
count_fits zero x = le_refl 0
count_fits (suc n) x =
    let h = count_fits n (next_of x) in
    let g = free_or_not (is_set x) (marks_of n (next_of x)) in
    omega arith

-- no more than there are
pub free_fits : (m n x : ℕ) → m * free_count (marks_of n x) ≤ m * n
free_fits m n x = mul-le-mul (le_refl m) (count_fits n x)

-- ---- `free_columns`

module _ (m n marks : ℕ) (src dst : List Float) where
  pub columns-sizes : outside m n ≡ true → (refused 2, dst) ≡ columns_call m n marks src dst
  unfolding columns_call
  columns-sizes h = rw (h, columns_call) refl

  module _ (h : outside m n ≡ false) where
    pub columns_short : length src < m * n → (refused 3, dst) ≡ columns_call m n marks src dst
    unfolding columns_call
    columns_short k = rw (h, lt-ltb (length src) (m * n) k, columns_call) refl

    module _ (k : m * n ≤ length src) where
      pub columns_no_room : length dst < m * free_count (marks_of n marks) → (refused 3, dst) ≡ columns_call m n marks src dst
      unfolding columns_call
      columns_no_room l = rw (h, le-ltb (length src) (m * n) k, lt-ltb (length dst) (m * free_count (marks_of n marks)) l, columns_call) refl

      pub columns_done : (y : List Float) → m * free_count (marks_of n marks) ≤ length dst → y ≡ free_columns m (marks_of n marks) src
          → (answered tt, y ++ drop (m * free_count (marks_of n marks)) dst) ≡ columns_call m n marks src dst
      unfolding columns_call
      columns_done y l e =
          let z : length (marks_of n marks) * m ≤ length src = let w = marks-length n marks in rw w (omega arith) in
          let q : length (free_columns m (marks_of n marks) src) ≡ m * free_count (marks_of n marks) = columns-length m (marks_of n marks) src z in
          rw (h, le-ltb (length src) (m * n) k, le-ltb (length dst) (m * free_count (marks_of n marks)) l, columns_call, e, q) refl
