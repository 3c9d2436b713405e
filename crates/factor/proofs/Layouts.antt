-- The layout's laws: `lay` undoes `load` for every list, and `load` undoes `lay` for a shaped room. Assumes nothing.
use mathlib.Core.Path.{◌≡◌, refl, sym, ap, ◌∙◌}
use mathlib.Core.List.{List, [], ◌++◌}
use Prim.Native.Nat.{ℕ, suc, ◌+◌, ◌-◌, ◌*◌, ◌<◌}
use native.Mathlib.Omega.{arith}
use lib.ListN.{length, get_or, take, drop, take-append-drop, length-replicate}
use lib.Seq.{take_at, length-take-le}
use lib.Ieee.{Float}
use Rattle.leaves.specs.Number.{plus_zero}
use Rattle.factor.specs.Room.{Room, part, load, lay, leaving, rested, emptied}
use Rattle.leaves.specs.Square.{uppers_from, belows_from, uppers_of, belows_of, joined, zeros, cleared}
use Rattle.leaves.proofs.Splices.{part_long, part_rest, drop_past}
use Rattle.leaves.proofs.Squares.{uppers_of-length, belows_of-length, upper_long, below_long}
use Rattle.leaves.proofs.Joined.{Tall, belows_joined, cleared_tall, cleared-wide, columns_front, joined-columns, joined_long, uppers-joined}
use Rattle.leaves.specs.inner.Squares.{Square}
use Rattle.factor.specs.inner.Rooms.{Sized, Shaped}

-- ---- columns are of the numbers that they take, and of no other

-- the square that is lent has the room's R, and what stands below it
pub square_upper : (n : ℕ) (s : List Float) → uppers_of n (take (n * n) s) ≡ (load n s).upper
unfolding load
square_upper n s = ap (λ (c : List (List Float)). uppers_from 0 c) (columns_front n n s)

pub square_below : (n : ℕ) (s : List Float) → belows_of n (take (n * n) s) ≡ (load n s).below
unfolding load
square_below n s = ap (λ (c : List (List Float)). belows_from 0 c) (columns_front n n s)

pub square_of_lem : (n : ℕ) (s : List Float) → Sized n s → Square n (take (n * n) s)
square_of_lem n s z = let f = z.fits in record { small = z.small; whole = length-take-le (n * n) s (omega arith) }

-- a part that is copied out is the room's
pub qtb_is : (n : ℕ) (s : List Float) → part n 0 s ≡ (load n s).qtb
unfolding load
qtb_is n s = refl

pub norms_is : (n : ℕ) (s : List Float) → part n 1 s ≡ (load n s).norms
unfolding load
norms_is n s = refl

-- ---- lay (load n s) ≡ s

-- LAW: for every list, long enough or not
pub lay-load : (n : ℕ) (s : List Float) → lay (load n s) ≡ s
unfolding lay load part
lay-load n s =
    let z : n * n + 0 * n ≡ n * n = omega arith in
    rw (
      joined-columns n n 0 s,
      part_rest (n * n + 3 * n) n {b = n * n + 4 * n} s (omega arith),
      part_rest (n * n + 2 * n) n {b = n * n + 3 * n} s (omega arith),
      part_rest (n * n + 1 * n) n {b = n * n + 2 * n} s (omega arith),
      part_rest (n * n + 0 * n) n {b = n * n + 1 * n} s (omega arith),
      z,
    )
    (take-append-drop (n * n) s)

-- what is known of the loaded room is known of the list
pub laid : (n : ℕ) (s : List Float) {r : Room} → load n s ≡ r → s ≡ lay r
laid n s h = sym (lay-load n s) ∙ ap lay h

-- ---- a store that fits is a shaped room

pub load_shaped : (n : ℕ) (s : List Float) → Sized n s → Shaped n (load n s)
unfolding load part
load_shaped n s z =
    let f = z.fits in
    let q = square_of_lem n s z in
    record {
      upper_wide = uppers_of-length n s;
      upper_tall = λ k h. rw (← square_upper n s) (upper_long n (take (n * n) s) q k h);
      below_wide = belows_of-length n s;
      below_tall = λ k h. rw (← square_below n s) (below_long n (take (n * n) s) q k h);
      qtb_long = part_long (n * n + 0 * n) n s (omega arith);
      norms_long = part_long (n * n + 1 * n) n s (omega arith);
      ldiag_long = part_long (n * n + 2 * n) n s (omega arith);
      work_long = part_long (n * n + 3 * n) n s (omega arith);
    }

-- what calls leave is shaped where what they put in is
module _ (n : ℕ) (r : Room) (z : Shaped n r) where
  pub leaving_shaped : (ls : List (List Float)) (l : List Float) → length ls ≡ n → ((k : ℕ) → k < n → length (get_or ls k []) ≡ n - suc k) → length l ≡ n
      → Shaped n (leaving ls l r)
  unfolding leaving
  leaving_shaped ls l w t e = record {
    upper_wide = z.upper_wide;
    upper_tall = z.upper_tall;
    below_wide = w;
    below_tall = t;
    qtb_long = z.qtb_long;
    norms_long = z.norms_long;
    ldiag_long = e;
    work_long = length-replicate (length r.work) plus_zero ∙ z.work_long;
  }

  pub rested_shaped : Shaped n (rested r)
  rested_shaped = leaving_shaped r.below r.ldiag z.below_wide z.below_tall z.ldiag_long

  pub emptied_shaped : Shaped n (emptied r)
  emptied_shaped =
      leaving_shaped (cleared r.below) (zeros (length r.ldiag)) (cleared-wide r.below ∙ z.below_wide)
      (λ k h. cleared_tall r.below k ∙ z.below_tall k h) (length-replicate (length r.ldiag) plus_zero ∙ z.ldiag_long)

-- ---- load n (lay r) ≡ r

-- the four parts behind a square, and the rest
parts_laid : (n : ℕ) (r : Room) → Shaped n r →
    (let w = r.qtb ++ (r.norms ++ (r.ldiag ++ (r.work ++ r.rest))) in
    ◌≡◌ {A = Room} (record {
      upper = r.upper;
      below = r.below;
      qtb = take n (drop (0 * n) w);
      norms = take n (drop (1 * n) w);
      ldiag = take n (drop (2 * n) w);
      work = take n (drop (3 * n) w);
      rest = drop (4 * n) w;
    }) r)
parts_laid n r z =
    let q = r.qtb in
    let o = r.norms in
    let d = r.ldiag in
    let k = r.work in
    let zero-times : 0 * n ≡ 0 = omega arith in
    rw (
      zero-times,
      take_at q (o ++ (d ++ (k ++ r.rest))) n z.qtb_long,
      drop_past 0 {b = 1 * n} q (o ++ (d ++ (k ++ r.rest))) z.qtb_long (omega arith),
      take_at o (d ++ (k ++ r.rest)) n z.norms_long,
      drop_past (1 * n) {b = 2 * n} q (o ++ (d ++ (k ++ r.rest))) z.qtb_long (omega arith),
      drop_past 0 {b = 1 * n} o (d ++ (k ++ r.rest)) z.norms_long (omega arith),
      take_at d (k ++ r.rest) n z.ldiag_long,
      drop_past (2 * n) {b = 3 * n} q (o ++ (d ++ (k ++ r.rest))) z.qtb_long (omega arith),
      drop_past (1 * n) {b = 2 * n} o (d ++ (k ++ r.rest)) z.norms_long (omega arith),
      drop_past 0 {b = 1 * n} d (k ++ r.rest) z.ldiag_long (omega arith),
      take_at k r.rest n z.work_long,
      drop_past (3 * n) {b = 4 * n} q (o ++ (d ++ (k ++ r.rest))) z.qtb_long (omega arith),
      drop_past (2 * n) {b = 3 * n} o (d ++ (k ++ r.rest)) z.norms_long (omega arith),
      drop_past (1 * n) {b = 2 * n} d (k ++ r.rest) z.ldiag_long (omega arith),
      drop_past 0 {b = 1 * n} k r.rest z.work_long (omega arith),
    )

-- LAW
pub load-lay : (n : ℕ) (r : Room) → Shaped n r → load n (lay r) ≡ r
unfolding load lay part
load-lay n r z =
    let us = r.upper in
    let ls = r.below in
    let uw = z.upper_wide in
    let w : List Float = r.qtb ++ (r.norms ++ (r.ldiag ++ (r.work ++ r.rest))) in
    let tall : Tall n 0 us ls = record {
      fits = omega arith;
      wide = z.upper_wide ∙ sym z.below_wide;
      uppers = λ k h. z.upper_tall k (omega arith) ∙ omega arith;
      belows = λ k h. z.below_tall k (omega arith) ∙ omega arith;
    } in
    let long : length (joined us ls) ≡ n * n = joined_long n 0 us ls tall ∙ rw uw in
    let eu : uppers_of n (joined us ls ++ w) ≡ us = rw uw at (uppers-joined n 0 us ls w tall) in
    let eb : belows_of n (joined us ls ++ w) ≡ ls = rw uw at (belows_joined n 0 us ls w tall) in
    rw (
      eu,
      eb,
      drop_past (0 * n) {b = n * n + 0 * n} (joined us ls) w long (omega arith),
      drop_past (1 * n) {b = n * n + 1 * n} (joined us ls) w long (omega arith),
      drop_past (2 * n) {b = n * n + 2 * n} (joined us ls) w long (omega arith),
      drop_past (3 * n) {b = n * n + 3 * n} (joined us ls) w long (omega arith),
      drop_past (4 * n) {b = n * n + 4 * n} (joined us ls) w long (omega arith),
    )
    (parts_laid n r z)
