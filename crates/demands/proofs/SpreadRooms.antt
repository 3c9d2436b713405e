-- 02, #108: the room that a factoring with marks leaves: the factored room of the free columns, then +0 up to n columns. It is as factored. Assumes nothing.
use Prim.Native.Nat.{ℕ, zero, suc, ◌+◌, ◌-◌, ◌*◌, ◌≤◌, ◌<◌}
use mathlib.Core.Path.{◌≡◌, refl, sym, ap, ◌∙◌}
use mathlib.Core.Bool.{true, and-eq-true_iff}
use mathlib.Core.List.{List, [], ◌∷◌, ◌++◌, append_assoc}
use native.Mathlib.Nat.{zero-add, suc-mul, zero-mul, not-suc-le-zero}
use native.Mathlib.Omega.{arith}
use lib.ListN.{length, get_or, drop, length-append, length-replicate, replicate-append-replicate}
use lib.Seq.{take_at, drop_at}
use lib.Ieee.{Float}
use Rattle.leaves.specs.Number.{plus_zero}
use Rattle.leaves.specs.Square.{joined, zeros}
use Rattle.leaves.specs.Tests.{all_finite}
use Rattle.leaves.proofs.Joined.{Tall, joined_long}
use Rattle.leaves.proofs.Overs.{append_nil}
use Rattle.frozen.specs.Narrowed.{spread, spread_out}
use Rattle.factor.specs.AsFactored.{AsFactored}
use Rattle.factor.specs.Factoring.{no_lower, all_finite_in}
use Rattle.factor.specs.Room.{Room, load, lay}
use Rattle.factor.specs.inner.Rooms.{Shaped}
use Rattle.factor.proofs.Layouts.{load-lay}
use Rattle.factor.proofs.Lays.{finite-append, finite_square}
use Rattle.factor.proofs.Shapes.{lower-wide, lower_tall}

-- ---- columns of R from column i on, k in all: those that there are, then +0
unfoldable pub wider_from : ℕ → ℕ → List (List Float) → List (List Float)
wider_from i zero us = []
wider_from i (suc k) [] = zeros (suc i) ∷ wider_from (suc i) k []
wider_from i (suc k) (u ∷ us) = u ∷ wider_from (suc i) k us

wider_wide : (i k : ℕ) (us : List (List Float)) → length (wider_from i k us) ≡ k
unfolding wider_from
wider_wide i zero us = refl
wider_wide i (suc k) [] = ap suc (wider_wide (suc i) k [])
wider_wide i (suc k) (u ∷ us) = ap suc (wider_wide (suc i) k us)

wider_tall : (i k : ℕ) (us : List (List Float)) → ((j : ℕ) → j < length us → length (get_or us j []) ≡ suc (i + j))
    → (j : ℕ) → j < k → length (get_or (wider_from i k us) j []) ≡ suc (i + j)
unfolding wider_from
wider_tall i zero us h j l = absurd (not-suc-le-zero l)
wider_tall i (suc k) [] h zero l = length-replicate (suc i) plus_zero ∙ omega arith
wider_tall i (suc k) [] h (suc j) l = wider_tall (suc i) k [] (λ p q. absurd (not-suc-le-zero q)) j (omega arith) ∙ omega arith
wider_tall i (suc k) (u ∷ us) h zero l = h 0 (omega arith)
wider_tall i (suc k) (u ∷ us) h (suc j) l = wider_tall (suc i) k us (λ p q. h (suc p) (omega arith) ∙ omega arith) j (omega arith) ∙ omega arith

zeros-finite : (k : ℕ) → all_finite (zeros k) ≡ true
unfolding joined no_lower all_finite_in all_finite
zeros-finite k = ap all_finite (sym (append_nil (zeros k))) ∙ finite_square (suc k) ([] ∷ [])

wider_finite : (i k : ℕ) (us : List (List Float)) → all_finite_in us ≡ true → all_finite_in (wider_from i k us) ≡ true
unfolding wider_from all_finite_in
wider_finite i zero us h = refl
wider_finite i (suc k) [] h = (and-eq-true_iff (all_finite (zeros (suc i))) (all_finite_in (wider_from (suc i) k []))).1 (zeros-finite (suc i), wider_finite (suc i) k [] h)
wider_finite i (suc k) (u ∷ us) h =
    let a = (and-eq-true_iff (all_finite u) (all_finite_in us)).0 h in
    (and-eq-true_iff (all_finite u) (all_finite_in (wider_from (suc i) k us))).1 (a.0, wider_finite (suc i) k us a.1)

two-zeros : (a b c : ℕ) → a + b ≡ c → zeros a ++ zeros b ≡ zeros c
two-zeros a b c e = replicate-append-replicate a b plus_zero ∙ ap zeros e

-- ---- the square
zeros_laid : (n i k : ℕ) → i + k ≡ n → zeros (k * n) ≡ joined (wider_from i k []) (no_lower k)
unfolding wider_from joined no_lower
zeros_laid n i zero e = rw (zero-mul n)
zeros_laid n i (suc k) e =
    let f : n + k * n ≡ suc k * n = omega (arith, suc-mul k n) in
    sym (two-zeros n (k * n) (suc k * n) f) ∙ (ap (λ (x : List Float). x ++ zeros (k * n)) (sym (two-zeros (suc i) k n (omega arith))) ∙ ap (λ (x : List Float). (zeros (suc i) ++ zeros k) ++ x) (zeros_laid n (suc i) k (omega arith)))

module _ (n free : ℕ) (fits : free ≤ n) where
  abbrev more : ℕ
  more = n - free

  -- a run of the free count, and what follows it
  run_laid : (k : ℕ) (x w : List Float) → length x ≡ free → spread free n (suc k) (x ++ w) ≡ (x ++ zeros more) ++ spread free n k w
  unfolding spread
  run_laid k x w l = rw (take_at x w free l, drop_at x w free l) (sym (append_assoc x (zeros more) (spread free n k w)))

  square_laid : (i p : ℕ) (us : List (List Float)) (w : List Float) → length us ≡ p → ((j : ℕ) → j < length us → length (get_or us j []) ≡ suc (i + j)) → i + p ≡ free
      → spread free n p (joined us (no_lower p) ++ w) ++ zeros (more * n) ≡ joined (wider_from i (p + more) us) (no_lower (p + more))
  unfolding spread joined no_lower wider_from
  square_laid i zero [] w l h e = rw (zero-add more) (zeros_laid n i more (omega arith))
  square_laid i zero (u ∷ us) w l h e = absurd (omega arith)
  square_laid i (suc p) [] w l h e = absurd (omega arith)
  square_laid i (suc p) (u ∷ us) w l h e =
      let s : suc p + more ≡ suc (p + more) = omega arith in
      let below = joined us (no_lower p) in
      let first = h 0 (omega arith) in
      let z : length (zeros p) ≡ p = length-replicate p plus_zero in
      let c : length (u ++ zeros p) ≡ free = length-append u (zeros p) ∙ omega arith in
      let r = square_laid (suc i) p us w (omega arith) (λ j q. h (suc j) (omega arith) ∙ omega arith) (omega arith) in
      let a : spread free n (suc p) (((u ++ zeros p) ++ below) ++ w) ≡ ((u ++ zeros p) ++ zeros more) ++ spread free n p (below ++ w) =
      ap (λ (x : List Float). spread free n (suc p) x) (append_assoc (u ++ zeros p) below w) ∙ run_laid p (u ++ zeros p) (below ++ w) c in
      let b : (u ++ zeros p) ++ zeros more ≡ u ++ zeros (p + more) = append_assoc u (zeros p) (zeros more) ∙ ap (λ (x : List Float). u ++ x) (two-zeros p more (p + more) refl) in
      rw s (
      ap (λ (x : List Float). x ++ zeros (more * n)) a
      ∙ (append_assoc ((u ++ zeros p) ++ zeros more) (spread free n p (below ++ w)) (zeros (more * n))
      ∙ (ap (λ (x : List Float). ((u ++ zeros p) ++ zeros more) ++ x) r ∙ ap (λ (x : List Float). x ++ joined (wider_from (suc i) (p + more) us) (no_lower (p + more))) b))
      )

  -- ---- the vectors
  vectors_laid : (a b c d : List Float) → length a ≡ free → length b ≡ free → length c ≡ free → length d ≡ free
      → spread free n 4 (a ++ (b ++ (c ++ (d ++ [])))) ≡ (a ++ zeros more) ++ ((b ++ zeros more) ++ ((c ++ zeros more) ++ ((d ++ zeros more) ++ [])))
  unfolding spread
  vectors_laid a b c d la lb lc ld =
      run_laid 3 a (b ++ (c ++ (d ++ []))) la
      ∙ ap (λ (x : List Float). (a ++ zeros more) ++ x) (run_laid 2 b (c ++ (d ++ [])) lb
      ∙ ap (λ (x : List Float). (b ++ zeros more) ++ x) (run_laid 1 c (d ++ []) lc ∙ ap (λ (x : List Float). (c ++ zeros more) ++ x) (run_laid 0 d [] ld)))

  -- ---- the room
  module _ (r : Room) (shape : Shaped free r) (made : AsFactored free r) (alone : r.rest ≡ []) (rest : List Float) where
    abbrev wide_room : Room
    wide_room = record {
      upper = wider_from 0 n r.upper;
      below = no_lower n;
      qtb = r.qtb ++ zeros more;
      norms = r.norms ++ zeros more;
      ldiag = zeros n;
      work = zeros n;
      rest = rest;
    }

    more_long : (x : List Float) → length x ≡ free → length (x ++ zeros more) ≡ n
    more_long x l = let z : length (zeros more) ≡ more = length-replicate more plus_zero in length-append x (zeros more) ∙ omega arith

    upper_tall : (j : ℕ) → j < length r.upper → length (get_or r.upper j []) ≡ suc (0 + j)
    upper_tall j h = let w = shape.upper_wide in shape.upper_tall j (omega arith) ∙ omega arith

    wide_shaped : Shaped n wide_room
    wide_shaped = record {
      upper_wide = wider_wide 0 n r.upper;
      upper_tall = λ j h. wider_tall 0 n r.upper upper_tall j h ∙ omega arith;
      below_wide = lower-wide n;
      below_tall = lower_tall n;
      qtb_long = more_long r.qtb shape.qtb_long;
      norms_long = more_long r.norms shape.norms_long;
      ldiag_long = length-replicate n plus_zero;
      work_long = length-replicate n plus_zero;
    }

    -- the reduced room as it is laid
    abbrev square : List Float
    square = joined r.upper (no_lower free)

    abbrev vectors : List Float
    vectors = r.qtb ++ (r.norms ++ (zeros free ++ (zeros free ++ [])))

    reduced_laid : lay r ≡ square ++ vectors
    unfolding lay
    reduced_laid = rw (made.below_zero, made.ldiag_zero, made.work_zero, alone)

    square_long : length square ≡ free * free
    square_long =
        let w = shape.upper_wide in
        let l = lower-wide free in
        let tall : Tall free 0 r.upper (no_lower free) = record {
          fits = omega arith;
          wide = w ∙ sym l;
          uppers = upper_tall;
          belows = λ k h. lower_tall free k (omega arith) ∙ omega arith;
        } in
        joined_long free 0 r.upper (no_lower free) tall ∙ rw w

    -- LAW
    pub spread_laid : spread_out n free (lay r) ++ rest ≡ lay wide_room
    unfolding spread_out lay
    spread_laid =
        let z : length (zeros free) ≡ free = length-replicate free plus_zero in
        let e : free + more ≡ n = omega arith in
        let first : spread free n free (square ++ vectors) ++ zeros (more * n) ≡ joined (wider_from 0 n r.upper) (no_lower n) =
        square_laid 0 free r.upper vectors shape.upper_wide upper_tall (zero-add free) ∙ ap (λ (k : ℕ). joined (wider_from 0 k r.upper) (no_lower k)) e in
        let second : spread free n 4 (drop (free * free) (square ++ vectors)) ≡ (r.qtb ++ zeros more) ++ ((r.norms ++ zeros more) ++ (zeros n ++ (zeros n ++ []))) =
        ap (λ (x : List Float). spread free n 4 x) (drop_at square vectors (free * free) square_long)
        ∙ (vectors_laid r.qtb r.norms (zeros free) (zeros free) shape.qtb_long shape.norms_long z z
        ∙ ap (λ (x : List Float). (r.qtb ++ zeros more) ++ ((r.norms ++ zeros more) ++ (x ++ (x ++ [])))) (two-zeros free more n e)) in
        ap (λ (x : List Float). (spread free n free x ++ (zeros (more * n) ++ spread free n 4 (drop (free * free) x))) ++ rest) reduced_laid
        ∙ (ap (λ (x : List Float). x ++ rest) (sym (append_assoc (spread free n free (square ++ vectors)) (zeros (more * n)) (spread free n 4 (drop (free * free) (square ++ vectors)))))
        ∙ (ap (λ (x : List Float). (x ++ spread free n 4 (drop (free * free) (square ++ vectors))) ++ rest) first
        ∙ (ap (λ (x : List Float). (joined (wider_from 0 n r.upper) (no_lower n) ++ x) ++ rest) second ∙ simp append_assoc)))

    -- LAW
    pub spread_as_factored : AsFactored n (load n (spread_out n free (lay r) ++ rest))
    spread_as_factored =
        let e : load n (spread_out n free (lay r) ++ rest) ≡ wide_room = ap (λ (x : List Float). load n x) spread_laid ∙ load-lay n wide_room wide_shaped in
        let finite : (x : List Float) → all_finite x ≡ true → all_finite (x ++ zeros more) ≡ true =
        (λ x h. finite-append x (zeros more) ∙ (and-eq-true_iff (all_finite x) (all_finite (zeros more))).1 (h, zeros-finite more)) in
        rw e (record {
          below_zero = refl;
          ldiag_zero = refl;
          work_zero = refl;
          upper_finite = wider_finite 0 n r.upper made.upper_finite;
          qtb_finite = finite r.qtb made.qtb_finite;
          norms_finite = finite r.norms made.norms_finite;
        })
