-- What is left of a list of which a part was lent: the part's new numbers between what stood before it and what stood after it.
-- Assumes nothing.
use mathlib.Core.Path.{◌≡◌, refl, sym, ap, ◌∙◌}
use mathlib.Core.List.{List, [], ◌∷◌, ◌++◌, append_assoc}
use Prim.Native.Nat.{ℕ, zero, suc, ◌+◌, ◌-◌, ◌≤◌}
use native.Mathlib.Nat.{sub-zero, suc-sub-suc}
use native.Mathlib.Omega.{arith}
use lib.ListN.{length, take, drop, replicate, length-append, length-drop, take-append-drop}
use lib.Seq.{length-take-le, take-append-le, take_at, drop_at, take-take, drop-drop, take-nil}
use borrow.Rule.Slice.PartMut.{Post-is, mid_len}

module _ {A : Type 0} where
  -- y in the place of what stood from a to e
  abbrev pub splice : ℕ → ℕ → List A → List A → List A
  splice a e y s = take a s ++ (y ++ drop e s)

  -- a part `&mut s[a..e]` that came back as y, as the borrow checker has it
  pub lent : (a e : ℕ) (y s : List A) → a ≤ e → take a s ++ (y ++ drop (e - a) (drop a s)) ≡ splice a e y s
  lent a e y s h = ap (λ (l : List A). take a s ++ (y ++ l)) (Post-is a e s h)

  -- a part that was filled
  pub filled : (a e : ℕ) (y s : List A) (v : A) → e ≤ length s → y ≡ replicate (length (take (e - a) (drop a s))) v → y ≡ replicate (e - a) v
  filled a e y s v h g = rw (mid_len a e s h) at g

  pub part_long : (a n : ℕ) (s : List A) → a + n ≤ length s → length (take n (drop a s)) ≡ n
  part_long a n s h = length-take-le n (drop a s) (simp length-drop (omega arith))

  pub drop-take : (r m : ℕ) (s : List A) → drop r (take m s) ≡ take (m - r) (drop r s)
  drop-take zero m s = rw sub-zero
  drop-take (suc r) zero s = let e : 0 - suc r ≡ 0 = omega arith in rw e
  drop-take (suc r) (suc m) [] = sym (take-nil (suc m - suc r))
  drop-take (suc r) (suc m) (x ∷ s) = rw suc-sub-suc (drop-take r m s)

  -- of a sum
  pub drop-sum : (a n : ℕ) (s : List A) → drop a (take (a + n) s) ≡ take n (drop a s)
  drop-sum a n s = let e : a + n - a ≡ n = omega arith in drop-take a (a + n) s ∙ ap (λ (k : ℕ). take k (drop a s)) e

  -- a part, and what comes after it
  pub part_rest : (a n : ℕ) {b : ℕ} (s : List A) → a + n ≡ b → take n (drop a s) ++ drop b s ≡ drop a s
  part_rest a n s e = rw (← e, ← drop-drop n a s) (take-append-drop n (drop a s))

  -- what comes after a first part
  pub drop_past : (a : ℕ) {b n : ℕ} (x y : List A) → length x ≡ n → n + a ≡ b → drop b (x ++ y) ≡ drop a y
  drop_past a {b} {n} x y h e = rw (← e, ← drop-drop a n (x ++ y), drop_at x y n h)

  -- what comes after a first part that was lent
  pub drop_front : (n a : ℕ) (x s : List A) → length x ≡ n → drop (n + a) (x ++ drop n s) ≡ drop (n + a) s
  drop_front n a x s h = drop_past a x (drop n s) h refl ∙ drop-drop a n s

  module _ (a e : ℕ) (y s : List A) (h : a + length y ≡ e) (f : e ≤ length s) where
    head_long : length (take a s) ≡ a
    head_long = length-take-le a s (omega arith)

    pub splice_length : length (splice a e y s) ≡ length s
    splice_length = let l = head_long in simp (length-append, length-drop) (omega arith)

    pub splice_take : (n : ℕ) → n ≤ a → take n (splice a e y s) ≡ take n s
    splice_take n k = let l = head_long in take-append-le n (take a s) (y ++ drop e s) (omega arith) ∙ take-take n a s k

    -- a part before it
    pub splice_before : (p n : ℕ) → p + n ≤ a → take n (drop p (splice a e y s)) ≡ take n (drop p s)
    splice_before p n k = sym (drop-sum p n (splice a e y s)) ∙ ap (λ (l : List A). drop p l) (splice_take (p + n) k) ∙ drop-sum p n s

    -- it
    pub splice_at : (n : ℕ) → length y ≡ n → take n (drop a (splice a e y s)) ≡ y
    splice_at n k = rw (drop_at (take a s) (y ++ drop e s) a head_long) (take_at y (drop e s) n k)

    -- what comes after it
    pub splice_drop : (p : ℕ) → e ≤ p → drop p (splice a e y s) ≡ drop p s
    splice_drop p k =
        let q : p ≡ e + (p - e) = omega arith in
        let l : length (take a s ++ y) ≡ e = let z = head_long in length-append (take a s) y ∙ omega arith in
        rw (q, ← drop-drop (p - e) e (splice a e y s), ← append_assoc (take a s) y (drop e s), drop_at (take a s ++ y) (drop e s) e l) (drop-drop (p - e) e s)

  -- two parts side by side: put at once is put one after the other
  pub splice_twice : (a b e : ℕ) (y z s : List A) → a + length y ≡ b → b + length z ≡ e → e ≤ length s → splice a e (y ++ z) s ≡ splice b e z (splice a b y s)
  splice_twice a b e y z s h k f =
      let w : length (take a s) ≡ a = length-take-le a s (omega arith) in
      let l : length (take a s ++ y) ≡ b = length-append (take a s) y ∙ omega arith in
      let front : take b (splice a b y s) ≡ take a s ++ y = ap (λ (x : List A). take b x) (sym (append_assoc (take a s) y (drop b s))) ∙ take_at (take a s ++ y) (drop b s) b l in
      sym (rw (front, splice_drop a b y s h (omega arith) e (omega arith), append_assoc (take a s) y (z ++ drop e s), append_assoc y z (drop e s)))
