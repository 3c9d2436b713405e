-- Numbers on the way to the free columns and back, by turns of the loop over the columns. Assumes nothing.
use Prim.Native.Nat.{ℕ, suc, ◌+◌, ◌-◌, ◌≤◌, ◌<◌}
use mathlib.Core.Path.{◌≡◌, refl, sym, ap, ◌∙◌}
use mathlib.Core.List.{List, [], ◌∷◌, ◌++◌}
use native.Mathlib.Numerals.{add-one}
use native.Mathlib.Omega.{arith}
use lib.ListN.{length, take, drop, get_or, set, take-append-drop}
use lib.Seq.{append_snoc, take-suc, take-suc-set, drop-cons, drop-drop, drop-set-lt, length-take-le}
use lib.Ieee.{Float, nan}
use borrow.Author.Tests.{le-leb, lt-leb, lt-ltb, le-ltb}
use Rattle.leaves.proofs.Overs.{append_nil}
use Rattle.leaves.specs.Reply.{answered, refused}
use Rattle.frozen.specs.Frozen.{next_of, marks_of, free_count, free_of, merged}
use Rattle.frozen.specs.Moved.{gather_call, merge_call}
use Rattle.frozen.proofs.Turns.{after}

module _ (n k x : ℕ) (h : k < n) where
  module _ (src dst : List Float) (j : ℕ) where
    pub gather_free : x < 32768 → k < length src → j < length dst
        → take (j + 1) (set dst j (get_or src k nan)) ++ free_of (marks_of (n - (k + 1)) (next_of x)) (drop (k + 1) src) ≡ take j dst ++ free_of (marks_of (n - k) x) (drop k src)
    unfolding marks_of free_of
    gather_free f p q =
        let v = get_or src k nan in
        let t : take (j + 1) (set dst j v) ≡ take j dst ++ (v ∷ []) = rw add-one (take-suc-set dst j v q) in
        rw (t, after n k h, drop-cons src k nan p, lt-leb 32768 x f, add-one) (append_snoc (take j dst) v _)

    pub gather_frozen : 32768 ≤ x → k < length src
        → take j dst ++ free_of (marks_of (n - (k + 1)) (next_of x)) (drop (k + 1) src) ≡ take j dst ++ free_of (marks_of (n - k) x) (drop k src)
    unfolding marks_of free_of
    gather_frozen f p = rw (after n k h, drop-cons src k nan p, le-leb 32768 x f, add-one) refl

    pub merge_free : x < 32768 → k < length dst → j < length src
        → take (k + 1) (set dst k (get_or src j nan)) ++ merged (marks_of (n - (k + 1)) (next_of x)) (drop (k + 1) (set dst k (get_or src j nan))) (drop (j + 1) src)
        ≡ take k dst ++ merged (marks_of (n - k) x) (drop k dst) (drop j src)
    unfolding marks_of merged
    merge_free f p q =
        let v = get_or src j nan in
        let t : take (k + 1) (set dst k v) ≡ take k dst ++ (v ∷ []) = rw add-one (take-suc-set dst k v p) in
        let d : drop (k + 1) (set dst k v) ≡ drop (k + 1) dst = drop-set-lt (k + 1) dst k v (omega arith) in
        let s : drop (j + 1) src ≡ drop (suc j) src = rw add-one refl in
        rw (t, d, s, after n k h, drop-cons dst k nan p, drop-cons src j nan q, lt-leb 32768 x f, add-one)
        (append_snoc (take k dst) v _)

    pub merge_frozen : 32768 ≤ x → k < length dst
        → take (k + 1) dst ++ merged (marks_of (n - (k + 1)) (next_of x)) (drop (k + 1) dst) (drop j src) ≡ take k dst ++ merged (marks_of (n - k) x) (drop k dst) (drop j src)
    unfolding marks_of merged
    merge_frozen f p =
        let v = get_or dst k nan in
        let t : take (k + 1) dst ≡ take k dst ++ (v ∷ []) = rw add-one (take-suc dst k nan p) in
        rw (t, after n k h, drop-cons dst k nan p, le-leb 32768 x f, add-one) (append_snoc (take k dst) v _)

-- what is not yet written
pub drop_next : (j : ℕ) (v : Float) (dst was : List Float) → drop j dst ≡ drop j was → drop (j + 1) (set dst j v) ≡ drop (j + 1) was
drop_next j v dst was e =
    let s : drop (j + 1) (set dst j v) ≡ drop (j + 1) dst = drop-set-lt (j + 1) dst j v (omega arith) in
    s ∙ (sym (drop-drop 1 j dst) ∙ (ap (λ (l : List Float). drop 1 l) e ∙ drop-drop 1 j was))

-- ---- the ends

module _ (n marks : ℕ) (src dst : List Float) where
  pub gather_short : length src < n → (refused 3, dst) ≡ gather_call n marks src dst
  unfolding gather_call
  gather_short h = rw (lt-ltb (length src) n h, gather_call) refl

  pub gather_no_room : n ≤ length src → length dst < free_count (marks_of n marks) → (refused 3, dst) ≡ gather_call n marks src dst
  unfolding gather_call
  gather_no_room h k = rw (le-ltb (length src) n h, lt-ltb (length dst) (free_count (marks_of n marks)) k, gather_call) refl

  pub merge_short : length dst < n → (refused 3, dst) ≡ merge_call n marks src dst
  unfolding merge_call
  merge_short h = rw (lt-ltb (length dst) n h, merge_call) refl

  pub merge_few : n ≤ length dst → length src < free_count (marks_of n marks) → (refused 3, dst) ≡ merge_call n marks src dst
  unfolding merge_call
  merge_few h k = rw (le-ltb (length dst) n h, lt-ltb (length src) (free_count (marks_of n marks)) k, merge_call) refl

  module _ (now : List Float) (k x j : ℕ) (z : n ≤ k) where
    none : n - k ≡ 0
    none = omega arith

    pub gather-end : n ≤ length src → free_count (marks_of n marks) ≤ length dst → j ≤ length now → drop j now ≡ drop j dst
        → take j now ++ free_of (marks_of (n - k) x) (drop k src) ≡ free_of (marks_of n marks) src → (answered tt, now) ≡ gather_call n marks src dst
    unfolding marks_of free_of gather_call
    gather-end h f q e g =
        let xs = free_of (marks_of n marks) src in
        let t : take j now ++ [] ≡ xs = rw none at g in
        let u : take j now ≡ xs = sym (append_nil (take j now)) ∙ t in
        let l : length xs ≡ j = ap (λ (y : List Float). length y) (sym u) ∙ length-take-le j now q in
        let whole : now ≡ xs ++ drop (length xs) dst = sym (take-append-drop j now) ∙ rw (u, e, l) refl in
        rw (le-ltb (length src) n h, le-ltb (length dst) (free_count (marks_of n marks)) f, gather_call) (ap (λ (y : List Float). (answered tt, y)) whole)

    pub merge_end : n ≤ length dst → free_count (marks_of n marks) ≤ length src
        → take k now ++ merged (marks_of (n - k) x) (drop k now) (drop j src) ≡ merged (marks_of n marks) dst src → (answered tt, now) ≡ merge_call n marks src dst
    unfolding marks_of merged merge_call
    merge_end h f g =
        let t : take k now ++ drop k now ≡ merged (marks_of n marks) dst src = rw none at g in
        rw (le-ltb (length dst) n h, le-ltb (length src) (free_count (marks_of n marks)) f, merge_call) (ap (λ (y : List Float). (answered tt, y)) (sym (take-append-drop k now) ∙ t))
