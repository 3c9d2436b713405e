-- The way from a lent problem to the one without the frozen columns, and back, where nothing is refused. Assumes nothing.
use Prim.Native.Nat.{ℕ, zero, suc, ◌+◌, ◌-◌, ◌*◌, ◌≤◌}
use mathlib.Core.Path.{◌≡◌, refl, ap, ◌∙◌}
use mathlib.Core.Bool.{Bool, true, false}
use mathlib.Core.List.{List, [], ◌∷◌, ◌++◌}
use native.Mathlib.Nat.{le_refl, not-suc-le-zero, le_of_suc-le-suc}
use native.Mathlib.Omega.{arith}
use lib.ListN.{length, take, drop, replicate, length-replicate, drop_of_length-le}
use lib.Seq.{length-take-le}
use lib.Ieee.{Float}
use borrow.Author.Tests.{le-ltb}
use Rattle.leaves.specs.Number.{plus_zero}
use Rattle.std.specs.Prelude.{Result, Ok}
use Rattle.leaves.specs.declared.reply.Refusal.{Refusal}
use Rattle.leaves.specs.Reply.{Reply, answered, reply_of}
use Rattle.leaves.specs.Square.{zeros}
use Rattle.leaves.specs.Tests.{first_of}
use Rattle.leaves.proofs.Insides.{Inside, within}
use Rattle.leaves.proofs.Overs.{append_nil}
use Rattle.leaves.proofs.Replies.{reply_of-ok}
use Rattle.frozen.specs.Frozen.{next_of, marks_of, free_count, free_of, merged}
use Rattle.frozen.specs.Moved.{gather_call, merge_call}
use Rattle.frozen.specs.Narrowed.{narrowed, narrow_call}
use Rattle.factor.specs.Outcome.{Read, read}
use Rattle.factor.specs.Outcome as plain
use Rattle.factor.specs.declared.state.State.{State as Plain}
use Rattle.factor.specs.Parts.{rest_in}
use Rattle.factor.specs.PivotOrder.{empty_in}
use Rattle.factor.specs.Room.{load, lay, rested, emptied}
use Rattle.factor.specs.Solve.{padded}
use Rattle.factor.specs.State.{store_need}
use Rattle.factor.specs.Tests.{tested}
use Rattle.factor.proofs.Solves.{tail_cleared, cleared-drop}
use Rattle.calls.specs.inner.Reducible.{Reducible}

-- ---- how many are taken
pub marks-length : (n x : ℕ) → length (marks_of n x) ≡ n
unfolding marks_of
marks-length zero x = refl
marks-length (suc n) x = ap suc (marks-length n (next_of x))

pub free_length : {A : Type 0} (ms : List Bool) (xs : List A) → length ms ≤ length xs → length (free_of ms xs) ≡ free_count ms
unfolding free_of free_count
free_length [] xs h = refl
free_length (b ∷ ms) [] h = absurd (not-suc-le-zero h)
free_length (true ∷ ms) (x ∷ xs) h = free_length ms xs (le_of_suc-le-suc h)
free_length (false ∷ ms) (x ∷ xs) h = ap suc (free_length ms xs (le_of_suc-le-suc h))

pub gathered_length : {A : Type 0} (n marks : ℕ) (xs : List A) → n ≤ length xs → length (free_of (marks_of n marks) xs) ≡ free_count (marks_of n marks)
gathered_length n marks xs h = free_length (marks_of n marks) xs (rw (marks-length n marks) h)

-- a list written over its whole length
written_whole : (xs ys : List Float) (k : ℕ) → length ys ≤ k → xs ++ drop k ys ≡ xs
written_whole xs ys k h = rw (drop_of_length-le ys {i = k} h) (append_nil xs)

-- ---- a call that is answered, and what it wrote
abbrev pub Done : Result (Unit {0}) Refusal → List Float → List Float → Type 0
Done r l x = (r ≡ Ok tt) × (l ≡ x)

pub done : (r : Result (Unit {0}) Refusal) {l x : List Float} → ◌≡◌ {A = Reply (Unit {0}) × List Float} (reply_of r, l) (answered tt, x) → Done r l x
done r e = (reply_of-ok r (ap (λ (p : Reply (Unit {0}) × List Float). p.0) e), ap (λ (p : Reply (Unit {0}) × List Float). p.1) e)

done_read : (r : Result (Unit {0}) Refusal) {l x : List Float} → read (reply_of r) l ≡ read (answered tt) x → Done r l x
done_read r e = (reply_of-ok r (ap (λ (p : Read). p.reply) e), ap (λ (p : Read). p.out) e)

-- ---- there
module _ {n marks free : ℕ} {store : List Float} (r : Reducible n marks free store) where
  pub whole_inside : Inside 1 n
  whole_inside =
      let a = r.some in
      let b = r.fits in
      record { rows_some = omega arith; rows_few = omega arith; cols_some = omega arith; cols_few = r.few }

  pub free_inside : Inside 1 free
  free_inside =
      let a = r.fits in
      let b = r.few in
      record { rows_some = omega arith; rows_few = omega arith; cols_some = r.some; cols_few = omega arith }

  pub narrow-worked : (small now : List Float) (d : Result (Unit {0}) Refusal) → length small ≡ store_need free → (reply_of d, now) ≡ narrow_call n free store small
      → Done d now (narrowed n free store)
  unfolding narrow_call
  narrow-worked small now d l e =
      let need = free * free + 4 * free in
      let h : narrow_call n free store small ≡ (answered tt, narrowed n free store ++ drop need small) =
      rw (within 1 n whole_inside, within 1 free free_inside, le-ltb n free r.fits, le-ltb (length store) (n * n + 4 * n) r.long, le-ltb (length small) need (omega arith), narrow_call) refl in
      let q = done d (e ∙ h) in
      (q.0, q.1 ∙ written_whole (narrowed n free store) small need (omega arith))

  tests_passed : tested 1 n store n ≡ 0
  unfolding first_of
  tests_passed = rw (within 1 n whole_inside, le-ltb (length store) (store_need n) r.long, le-ltb n n (le_refl n))

  pub rest_worked : (now : List Float) (d : Result (Unit {0}) Refusal) → read (reply_of d) now ≡ rest_in n store → Done d now (lay (rested (load n store)))
  unfolding rest_in
  rest_worked now d e = done_read d (rw (tests_passed, rest_in) at e)

  pub empty-worked : (now : List Float) (d : Result (Unit {0}) Refusal) → read (reply_of d) now ≡ empty_in n store → Done d now (lay (emptied (load n store)))
  unfolding empty_in
  empty-worked now d e = done_read d (rw (tests_passed, empty_in) at e)

  pub free_fits : free ≤ 16
  free_fits = let a = r.fits in let b = r.few in omega arith

-- the first places of a room that has as many, and of one that is all the same
pub fresh_taken : {A : Type 0} (k n : ℕ) (v : A) → k ≤ n → take k (replicate n v) ≡ replicate k v
fresh_taken zero n v h = refl
fresh_taken (suc k) zero v h = absurd (not-suc-le-zero h)
fresh_taken (suc k) (suc n) v h = ap (λ (l : List _). v ∷ l) (fresh_taken k n v (le_of_suc-le-suc h))

pub first_places : {room k need : ℕ} (w : List Float) → length w ≡ room → k ≤ room → k ≡ need → length (take k w) ≡ need
first_places {k = k} w l h e = length-take-le k w (omega (arith, l, h)) ∙ e

-- ---- what a call on the narrowed problem answers: p, k and small are what it was given
pub told-read : {A : Type 0} (call : Plain → List Float → plain.Told A) {p w q : Plain} {k need : ℕ} (small : List Float) {store t : List Float} {a : Reply A} → p ≡ w → k ≡ need → take need small ≡ store
    → plain.told a q t ≡ call p (take k small) → a ≡ (call w store).reply
told-read {A} call {p} {w} {k = k} small e f g h =
    ap (λ (z : plain.Told A). z.reply) (h ∙ ap (λ (x : Plain). call x (take k small)) e ∙ ap (λ (l : List Float). call w l) (ap (λ (j : ℕ). take j small) f ∙ g))

pub gather-worked : (n marks : ℕ) (xs w now : List Float) (d : Result (Unit {0}) Refusal) → n ≤ length xs → length w ≡ free_count (marks_of n marks)
    → (reply_of d, now) ≡ gather_call n marks xs w → Done d now (free_of (marks_of n marks) xs)
unfolding gather_call
gather-worked n marks xs w now d h l e =
    let ys = free_of (marks_of n marks) xs in
    let k = gathered_length n marks xs h in
    let f : gather_call n marks xs w ≡ (answered tt, ys ++ drop (length ys) w) = rw (le-ltb (length xs) n h, le-ltb (length w) (free_count (marks_of n marks)) (omega arith), gather_call) refl in
    let q = done d (e ∙ f) in
    (q.0, q.1 ∙ written_whole ys w (length ys) (omega arith))

-- ---- and back
pub merge_worked : (n marks : ℕ) (x out now : List Float) (d : Result (Unit {0}) Refusal) → n ≤ length out → free_count (marks_of n marks) ≤ length x
    → (reply_of d, now) ≡ merge_call n marks x out → Done d now (merged (marks_of n marks) out x)
unfolding merge_call
merge_worked n marks x out now d h l e =
    let f : merge_call n marks x out ≡ (answered tt, merged (marks_of n marks) out x) = rw (le-ltb (length out) n h, le-ltb (length x) (free_count (marks_of n marks)) l, merge_call) refl in
    done d (e ∙ f)

pub step_worked : (n marks : ℕ) (x out z now : List Float) (d : Result (Unit {0}) Refusal) → length out ≡ n → length x ≡ free_count (marks_of n marks)
    → z ≡ replicate (length out) plus_zero → (reply_of d, now) ≡ merge_call n marks x z → Done d now (merged (marks_of n marks) (zeros n) x)
step_worked n marks x out z now d h l f e =
    let g : z ≡ zeros n = f ∙ ap zeros h in
    let k : length z ≡ n = ap length g ∙ length-replicate n plus_zero in
    let q = merge_worked n marks x z now d (omega arith) (omega arith) e in
    (q.0, q.1 ∙ ap (λ (y : List Float). merged (marks_of n marks) y x) g)

pub held-worked : (n free : ℕ) (x out z l : List Float) → length out ≡ n → length x ≡ free → free ≤ n
    → z ≡ replicate (length (take (length out - free) (drop free out))) plus_zero
    → l ≡ x → l ++ drop free (take free out ++ (z ++ drop (length out - free) (drop free out))) ≡ padded n x
held-worked n free x out z l h k f g e =
    let w : free ≤ length out = omega arith in
    let s = take free out ++ (z ++ drop (length out - free) (drop free out)) in
    let c : s ≡ take free out ++ zeros (length out - free) = tail_cleared out z free w g in
    let i : length out - free ≡ n - length x = omega arith in
    rw (e, cleared-drop free out s w c, i)
