-- A list that is written piece by piece: before place a it is new, from there on as it was. Assumes nothing.
use mathlib.Core.Path.{◌≡◌, ap, ◌∙◌}
use mathlib.Core.List.{List, [], ◌∷◌, ◌++◌, append_assoc, append-nil}
use Prim.Native.Nat.{ℕ, zero, suc, ◌+◌, ◌-◌, ◌≤◌}
use native.Mathlib.Nat.{zero-add, suc-add}
use native.Mathlib.Omega.{arith}
use lib.ListN.{length, take, drop, replicate, length-replicate, replicate-append-replicate, drop_of_length-le}
use lib.Seq.{length-take-le, take_at, take-nil}
use Rattle.leaves.proofs.Splices.{splice, drop_front}

module _ {A : Type 0} where
  take_more : (a k : ℕ) (z : List A) → take a z ++ take k (drop a z) ≡ take (a + k) z
  take_more zero k z = rw zero-add
  take_more (suc a) k [] = rw suc-add (take-nil k)
  take_more (suc a) k (x ∷ z) = rw suc-add (ap (λ (l : List A). x ∷ l) (take_more a k z))

  -- p is a new piece of k numbers after h, which has a
  join : (a k : ℕ) (h p x : List A) {y y' : List A} → length h ≡ a → y ≡ h ++ drop a x → y' ≡ splice a (a + k) p y → y' ≡ (h ++ p) ++ drop (a + k) x
  join a k h p x l e q = q ∙ rw (e, take_at h (drop a x) a l, drop_front a k h x l, ← append_assoc h p (drop (a + k) x))

  pub piece_turn : (a k : ℕ) (z x : List A) {y y' : List A} → a + k ≤ length z → y ≡ take a z ++ drop a x → y' ≡ splice a (a + k) (take (a + k - a) (drop a z)) y → y' ≡ take (a + k) z ++ drop (a + k) x
  piece_turn a k z x h e q =
      let d : a + k - a ≡ k = omega arith in
      rw (← take_more a k z) (join a k (take a z) (take k (drop a z)) x (length-take-le a z (omega arith)) e (rw d at q))

  -- a piece of one value over and over
  pub same_turn : (a k : ℕ) (v : A) (x : List A) {y y' : List A} → y ≡ replicate a v ++ drop a x → y' ≡ splice a (a + k) (replicate (a + k - a) v) y → y' ≡ replicate (a + k) v ++ drop (a + k) x
  same_turn a k v x e q =
      let d : a + k - a ≡ k = omega arith in
      rw (← replicate-append-replicate a k v) (join a k (replicate a v) (replicate k v) x (length-replicate a v) e (rw d at q))

  pub same_done : (a : ℕ) (v : A) (x : List A) {y : List A} → length x ≡ a → y ≡ replicate a v ++ drop a x → y ≡ replicate (length x) v
  same_done a v x h e = e ∙ rw (h, drop_of_length-le x {i = a} (omega arith)) (append-nil (replicate a v))
