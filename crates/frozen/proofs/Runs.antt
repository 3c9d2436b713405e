-- Runs of numbers that stand apart, copied one after the other. Assumes nothing.
use Prim.Native.Nat.{ℕ, zero, suc, ◌+◌, ◌-◌, ◌*◌, ◌≤◌, ◌<◌}
use mathlib.Core.Path.{◌≡◌, refl, sym, ap, ◌∙◌}
use mathlib.Core.List.{List, [], ◌++◌, append_assoc}
use native.Mathlib.Nat.{suc-mul, zero-mul, mul-le-mul, le_refl}
use native.Mathlib.Omega.{arith}
use lib.ListN.{length, take, drop, length-append, length-drop}
use lib.Seq.{drop-drop, length-take-le, take_all, take_at, drop_at}
use lib.Ieee.{Float}
use Rattle.leaves.proofs.Overs.{append_nil}
use borrow.Author.Tests.{lt-ltb, le-ltb}
use mathlib.Core.Bool.{true, false}
use Rattle.leaves.specs.Reply.{answered, refused}
use Rattle.leaves.specs.Tests.{outside}
use Rattle.frozen.specs.Narrowed.{runs, narrowed, narrow_call}

-- where the last of n ends, the one after k others ended before or ends there too
pub one_less : (n k a : ℕ) → k < n → k * a + a ≤ n * a
one_less n k a h = let l : (k + 1) * a ≤ n * a = mul-le-mul (let q : k + 1 ≤ n = omega arith in q) (le_refl a) in omega arith

-- a part of the length that it takes, written where the first k parts end
pub part_written : (w k : ℕ) (dst y rest : List Float) → k * w ≤ length dst → length y ≡ w → take ((k + 1) * w) (take (k * w) dst ++ (y ++ rest)) ≡ take (k * w) dst ++ y
part_written w k dst y rest h l =
    let b = k * w in
    let t : length (take b dst ++ y) ≡ (k + 1) * w = let z = length-take-le b dst h in length-append (take b dst) y ∙ omega arith in
    ap (λ (s : List Float). take ((k + 1) * w) s) (sym (append_assoc (take b dst) y rest)) ∙ take_at (take b dst ++ y) rest ((k + 1) * w) t

pub after_parts : (a k : ℕ) (src : List Float) → drop ((k + 1) * a) src ≡ drop a (drop (k * a) src)
after_parts a k src = let e : (k + 1) * a ≡ k * a + a = omega arith in rw e (sym (drop-drop a (k * a) src))

pub runs_turn : (w apart n k : ℕ) (src dst y rest : List Float) → k < n → k * w ≤ length dst → length y ≡ w → y ≡ take w (drop (k * apart) src)
    → take ((k + 1) * w) (take (k * w) dst ++ (y ++ rest)) ++ runs w apart (n - (k + 1)) (drop ((k + 1) * apart) src) ≡ take (k * w) dst ++ runs w apart (n - k) (drop (k * apart) src)
unfolding runs
runs_turn w apart n k src dst y rest h l z e =
    let f : n - k ≡ suc (n - (k + 1)) = omega arith in
    rw (part_written w k dst y rest l z, f, after_parts apart k src, e) (append_assoc (take (k * w) dst) (take w (drop (k * apart) src)) _)

pub runs-end : (w apart left a b : ℕ) (src dst all : List Float) → left ≤ 0 → length dst ≡ b → take b dst ++ runs w apart left (drop a src) ≡ all → dst ≡ all
unfolding runs
runs-end w apart zero a b src dst all h l e = sym (append_nil dst) ∙ (ap (λ (s : List Float). s ++ []) (sym (take_all b dst (omega arith))) ∙ e)
runs-end w apart (suc left) a b src dst all h l e = absurd (omega arith)

pub runs-length : (w apart k : ℕ) (s : List Float) → w ≤ apart → k * apart ≤ length s → length (runs w apart k s) ≡ k * w
unfolding runs
runs-length w apart zero s h l = sym (zero-mul w)
runs-length w apart (suc k) s h l =
    let e = suc-mul k apart in
    let f = suc-mul k w in
    let t = length-take-le w s (omega arith) in
    let r = runs-length w apart k (drop apart s) h (simp length-drop (omega arith)) in
    length-append (take w s) (runs w apart k (drop apart s)) ∙ omega arith

-- a first part and the next, written one after the other
pub two_laid : (p e : ℕ) (y z s : List Float) → length y ≡ p → p ≤ e → take p (y ++ drop p s) ++ (z ++ drop (e - p) (drop p (y ++ drop p s))) ≡ (y ++ z) ++ drop e s
two_laid p e y z s h l =
    let q : p + (e - p) ≡ e = omega arith in
    rw (take_at y (drop p s) p h, drop_at y (drop p s) p h, drop-drop (e - p) p s, q) (sym (append_assoc y z (drop e s)))

-- ---- `narrow`

module _ (n free : ℕ) (store small : List Float) where
  pub narrow_n : outside 1 n ≡ true → (refused 2, small) ≡ narrow_call n free store small
  unfolding narrow_call
  narrow_n h = rw (h, narrow_call) refl

  pub narrow_free : outside 1 n ≡ false → outside 1 free ≡ true → (refused 2, small) ≡ narrow_call n free store small
  unfolding narrow_call
  narrow_free h k = rw (h, k, narrow_call) refl

  module _ (h : outside 1 n ≡ false) (k : outside 1 free ≡ false) where
    pub narrow_wider : n < free → (refused 2, small) ≡ narrow_call n free store small
    unfolding narrow_call
    narrow_wider l = rw (h, k, lt-ltb n free l, narrow_call) refl

    module _ (l : free ≤ n) where
      pub narrow-store : length store < n * n + 4 * n → (refused 3, small) ≡ narrow_call n free store small
      unfolding narrow_call
      narrow-store p = rw (h, k, le-ltb n free l, lt-ltb (length store) (n * n + 4 * n) p, narrow_call) refl

      module _ (p : n * n + 4 * n ≤ length store) where
        pub narrow_small : length small < free * free + 4 * free → (refused 3, small) ≡ narrow_call n free store small
        unfolding narrow_call
        narrow_small q = rw (h, k, le-ltb n free l, le-ltb (length store) (n * n + 4 * n) p, lt-ltb (length small) (free * free + 4 * free) q, narrow_call) refl

        pub narrow_done : free * free + 4 * free ≤ length small → (answered tt, narrowed n free store ++ drop (free * free + 4 * free) small) ≡ narrow_call n free store small
        unfolding narrow_call
        narrow_done q = rw (h, k, le-ltb n free l, le-ltb (length store) (n * n + 4 * n) p, le-ltb (length small) (free * free + 4 * free) q, narrow_call) refl

        -- as the two copies leave it
        pub narrow_laid : (y z : List Float) → free * free + 4 * free ≤ length small → y ≡ runs free n free store → z ≡ runs free n 4 (take (length store - n * n) (drop (n * n) store))
            → (answered tt, take (free * free) (y ++ drop (free * free) small) ++ (z ++ drop (free * free + 4 * free - free * free) (drop (free * free) (y ++ drop (free * free) small))))
            ≡ narrow_call n free store small
        unfolding narrowed
        narrow_laid y z q ey ez =
            let w : free * n ≤ n * n = mul-le-mul l (le_refl n) in
            let a : length y ≡ free * free = ap length ey ∙ runs-length free n free store l (omega arith) in
            let t : take (length store - n * n) (drop (n * n) store) ≡ drop (n * n) store = take_all (length store - n * n) (drop (n * n) store) (simp length-drop (omega arith)) in
            let b : z ≡ runs free n 4 (drop (n * n) store) = ez ∙ ap (λ (s : List Float). runs free n 4 s) t in
            let m : y ++ z ≡ narrowed n free store = ap (λ (s : List Float). s ++ z) ey ∙ ap (λ (s : List Float). runs free n free store ++ s) b in
            let f : free * free ≤ free * free + 4 * free = omega arith in
            ap (λ (s : List Float). (answered tt, s)) (two_laid (free * free) (free * free + 4 * free) y z small a f ∙ ap (λ (s : List Float). s ++ drop (free * free + 4 * free) small) m) ∙ narrow_done q
