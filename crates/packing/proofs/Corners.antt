-- R's columns without what stands below them, one after the other, and the way back. Assumes nothing.
use Prim.Native.Nat.{ℕ, zero, suc, ◌+◌, ◌-◌, ◌*◌, ◌/◌, ◌≤◌, ◌<◌}
use mathlib.Core.Path.{◌≡◌, refl, sym, ap, ◌∙◌}
use mathlib.Core.List.{List, [], ◌∷◌, ◌++◌, append_assoc}
use native.Mathlib.Nat.{zero-add, mul-le-mul, not-suc-le-zero, le_of_suc-le-suc}
use native.Mathlib.Numerals.{add-one}
use native.Mathlib.Omega.{arith}
use lib.ListN.{length, get_or, take, drop, length-append, length-drop}
use lib.Seq.{drop-drop, length-take-le, take_all, take_at, drop_at, take-take, take-add}
use lib.Ieee.{Float}
use Rattle.leaves.specs.Square.{uppers_from, joined, zeros}
use Rattle.leaves.specs.Triangle.{columns}
use Rattle.leaves.proofs.Overs.{append_nil}
use Rattle.leaves.proofs.Splices.{drop-take}
use Rattle.reduce.specs.Reduced.{flat}
use Rattle.factor.specs.Factoring.{no_lower}
use Rattle.packing.specs.Packing.{triangle_from}

-- ---- 1 + 2 + .. + k
abbrev pub triangle : ℕ → ℕ
triangle k = k * (k + 1) / 2

pub triangle_next : (k : ℕ) → triangle (k + 1) ≡ triangle k + (k + 1)
triangle_next k = omega arith

-- column k ends within n columns
pub corner-fits : (k n : ℕ) → k < n → triangle k + (k + 1) ≤ triangle n
corner-fits k n h =
    let m : (k + 1) * (k + 1 + 1) ≤ n * (n + 1) = mul-le-mul (omega arith) (omega arith) in
    let e = triangle_next k in
    omega arith

pub triangle_small : (n : ℕ) → n ≤ 16 → n * (n + 1) ≤ 272
triangle_small n h = let k : n + 1 ≤ 17 = omega arith in mul-le-mul h k

-- ---- a list written from its first place on, as far as it is done
front_next : (b w : ℕ) (dst y rest : List Float) → b ≤ length dst → length y ≡ w → take (b + w) (take b dst ++ (y ++ rest)) ≡ take b dst ++ y
front_next b w dst y rest h l =
    let t : length (take b dst ++ y) ≡ b + w = let z = length-take-le b dst h in length-append (take b dst) y ∙ omega arith in
    ap (λ (s : List Float). take (b + w) s) (sym (append_assoc (take b dst) y rest)) ∙ take_at (take b dst ++ y) rest (b + w) t

front_whole : (b : ℕ) (dst all : List Float) → length dst ≡ b → take b dst ++ [] ≡ all → dst ≡ all
front_whole b dst all l e = sym (append_nil dst) ∙ (ap (λ (s : List Float). s ++ []) (sym (take_all b dst (omega arith))) ∙ e)

-- ---- packing, column by column
module _ (n k a b : ℕ) (square corner : List Float) where
  pub pack_turn : (y rest : List Float) → k < n → b ≤ length corner → length y ≡ k + 1 → y ≡ take (k + 1) (drop a square)
      → take (b + k + 1) (take b corner ++ (y ++ rest)) ++ flat (uppers_from (k + 1) (columns n (n - (k + 1)) (drop (a + n) square)))
      ≡ take b corner ++ flat (uppers_from k (columns n (n - k) (drop a square)))
  unfolding flat uppers_from columns
  pack_turn y rest h f l e =
      let p : n - k ≡ suc (n - (k + 1)) = omega arith in
      let q : b + k + 1 ≡ b + (k + 1) = omega arith in
      let t : take (suc k) (take n (drop a square)) ≡ take (suc k) (drop a square) = take-take (suc k) n (drop a square) h in
      let u = front_next b (k + 1) corner y rest f l in
      rw (p, q, u, ← drop-drop n a square, t, e, add-one) (append_assoc (take b corner) (take (suc k) (drop a square)) (flat (uppers_from (suc k) (columns n (n - suc k) (drop n (drop a square))))))

  pub pack-end : (all : List Float) → n ≤ k → length corner ≡ b → take b corner ++ flat (uppers_from k (columns n (n - k) (drop a square))) ≡ all → corner ≡ all
  unfolding flat uppers_from columns
  pack-end all h l e = let p : n - k ≡ 0 = omega arith in front_whole b corner all l (rw p at e)

-- ---- unpacking, column by column
module _ (n k a b : ℕ) (corner square : List Float) where
  pub unpack_turn : (y rest : List Float) → k < n → a ≤ length square → length y ≡ n → y ≡ take (k + 1) (drop b corner) ++ zeros (n - (k + 1))
      → take (a + n) (take a square ++ (y ++ rest)) ++ joined (triangle_from (k + 1) (n - (k + 1)) (drop (b + k + 1) corner)) (no_lower (n - (k + 1)))
      ≡ take a square ++ joined (triangle_from k (n - k) (drop b corner)) (no_lower (n - k))
  unfolding joined triangle_from no_lower
  unpack_turn y rest h f l e =
      let p : n - k ≡ suc (n - (k + 1)) = omega arith in
      let q : b + k + 1 ≡ b + (k + 1) = omega arith in
      let u = front_next a n square y rest f l in
      rw (p, q, u, ← drop-drop (k + 1) b corner, e, add-one)
      (append_assoc (take a square) (take (suc k) (drop b corner) ++ zeros (n - suc k)) (joined (triangle_from (suc k) (n - suc k) (drop (suc k) (drop b corner))) (no_lower (n - suc k))))

  pub unpack-end : (all : List Float) → n ≤ k → length square ≡ a → take a square ++ joined (triangle_from k (n - k) (drop b corner)) (no_lower (n - k)) ≡ all → square ≡ all
  unfolding joined triangle_from no_lower
  unpack-end all h l e = let p : n - k ≡ 0 = omega arith in front_whole a square all l (rw p at e)

-- ---- p columns from column j on, each one longer than the one before

-- how many numbers
abbrev pub climb : ℕ → ℕ → ℕ
climb j zero = 0
climb j (suc p) = suc j + climb (suc j) p

climb_from : (j p : ℕ) → triangle j + climb j p ≡ triangle (j + p)
climb_from j zero = let e : j + 0 ≡ j = omega arith in rw e (omega arith)
climb_from j (suc p) =
    let r = climb_from (suc j) p in
    let t : triangle (suc j) ≡ triangle j + suc j = omega arith in
    let q : triangle (suc j + p) ≡ triangle (j + suc p) = (let e : suc j + p ≡ j + suc p = omega arith in ap triangle e) in
    omega (arith, r, t, q)

pub climb_is : (n : ℕ) → climb 0 n ≡ triangle n
climb_is n = let e : 0 + n ≡ n = zero-add n in let h = climb_from 0 n in let q : triangle (0 + n) ≡ triangle n = ap triangle e in omega arith

pub record Stairs (j p : ℕ) (us : List (List Float)) : Type 0 where
  pub wide : length us ≡ p
  pub tall : (k : ℕ) → k < p → length (get_or us k []) ≡ suc (j + k)

module _ {j p : ℕ} {u : List Float} {us : List (List Float)} (h : Stairs j (suc p) (u ∷ us)) where
  stairs_rest : Stairs (suc j) p us
  stairs_rest = let w = h.wide in record { wide = omega arith; tall = λ k l. h.tall (suc k) (omega arith) ∙ omega arith }

  stairs_first : length u ≡ suc j
  stairs_first = h.tall 0 (omega arith) ∙ omega arith

pub flat_long : (j p : ℕ) (us : List (List Float)) → Stairs j p us → length (flat us) ≡ climb j p
unfolding flat
flat_long j zero [] h = refl
flat_long j zero (u ∷ us) h = let w = h.wide in absurd (omega arith)
flat_long j (suc p) [] h = let w = h.wide in absurd (omega arith)
flat_long j (suc p) (u ∷ us) h =
    let r = flat_long (suc j) p us (stairs_rest h) in
    let f = stairs_first h in
    length-append u (flat us) ∙ omega arith

-- there and back
pub triangle_flat : (j p : ℕ) (us : List (List Float)) (w : List Float) → Stairs j p us → triangle_from j p (flat us ++ w) ≡ us
unfolding flat triangle_from
triangle_flat j zero [] w h = refl
triangle_flat j zero (u ∷ us) w h = let w = h.wide in absurd (omega arith)
triangle_flat j (suc p) [] w h = let w = h.wide in absurd (omega arith)
triangle_flat j (suc p) (u ∷ us) w h =
    let f = stairs_first h in
    rw (append_assoc u (flat us) w, take_at u (flat us ++ w) (suc j) f, drop_at u (flat us ++ w) (suc j) f, triangle_flat (suc j) p us w (stairs_rest h))

-- back and there
pub flat_triangle : (j p : ℕ) (xs : List Float) → flat (triangle_from j p xs) ≡ take (climb j p) xs
unfolding flat triangle_from
flat_triangle j zero xs = refl
flat_triangle j (suc p) xs = rw (flat_triangle (suc j) p (drop (suc j) xs)) (sym (take-add (suc j) (climb (suc j) p) xs))

triangle_wide : (j p : ℕ) (xs : List Float) → length (triangle_from j p xs) ≡ p
unfolding triangle_from
triangle_wide j zero xs = refl
triangle_wide j (suc p) xs = ap suc (triangle_wide (suc j) p (drop (suc j) xs))

triangle_tall : (j p : ℕ) (xs : List Float) → climb j p ≤ length xs → (k : ℕ) → k < p → length (get_or (triangle_from j p xs) k []) ≡ suc (j + k)
unfolding triangle_from
triangle_tall j zero xs h k l = absurd (not-suc-le-zero l)
triangle_tall j (suc p) xs h zero l = length-take-le (suc j) xs (omega arith) ∙ omega arith
triangle_tall j (suc p) xs h (suc k) l = triangle_tall (suc j) p (drop (suc j) xs) (simp length-drop (omega arith)) k (le_of_suc-le-suc l) ∙ omega arith

pub triangle_stairs : (j p : ℕ) (xs : List Float) → climb j p ≤ length xs → Stairs j p (triangle_from j p xs)
triangle_stairs j p xs h = record { wide = triangle_wide j p xs; tall = triangle_tall j p xs h }

-- of the numbers that are taken, and of no other
pub triangle_front : (j p w : ℕ) (xs : List Float) → climb j p ≤ w → triangle_from j p (take w xs) ≡ triangle_from j p xs
unfolding triangle_from
triangle_front j zero w xs h = refl
triangle_front j (suc p) w xs h =
    rw (take-take (suc j) w xs (omega arith), drop-take (suc j) w xs, triangle_front (suc j) p (w - suc j) (drop (suc j) xs) (omega arith))
