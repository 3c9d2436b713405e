-- The whole root, and the nearest. `near_root` is opened once, in `near_closest`: all else goes by document 01's bounds and their having one
-- solution, so a definition that missed the bounds would be refused there. Assumes nothing.
use mathlib.Core.Path.{◌≡◌, ◌∙◌, subst}
use mathlib.Core.Bool.{Bool, true, false, not, cond}
use Prim.Native.Nat.{ℕ, zero, suc, ◌+◌, ◌-◌, ◌*◌, ◌/◌, ◌%◌, ◌^◌, ◌≤◌, ◌<◌}
use native.Mathlib.Nat.{pow-suc, le_antisymm, lt_of_not-le, le_of_suc-le-suc, mul-le-mul}
use native.Mathlib.Omega.{arith}
use lib.Dec.{T, leb, ltb, eqb, leb→le, nleb→lt, ltb→lt, nltb→le, eqb→eq}
use lib.Ieee.Fits.{eq→eqb}
use Rattle.leaves.specs.Root.{isqrt, near_root}

-- w is the whole part of √n
abbrev pub IsWholeRoot : ℕ → ℕ → Type 0
IsWholeRoot n w = (w * w ≤ n) × (n < (w + 1) * (w + 1))

isqrt_is : (d n : ℕ) → n < 4 ^ d → IsWholeRoot n (isqrt d n)
unfolding isqrt
isqrt_is zero n h = omega arith
isqrt_is (suc d) n h = go (isqrt d (n / 4)) (isqrt_is d (n / 4) (omega (arith, pow-suc 4 d)))
  where
    pick : (w : ℕ) (b : Bool) → (T b → (2 * w + 1) * (2 * w + 1) ≤ n) → (T (not b) → n < (2 * w + 1) * (2 * w + 1)) → IsWholeRoot (n / 4) w → IsWholeRoot n (cond b (2 * w + 1) (2 * w))
    pick w true p q r = let a = p tt in omega (arith, a, r.0, r.1)
    pick w false p q r = let a = q tt in omega (arith, a, r.0, r.1)

    go : (w : ℕ) → IsWholeRoot (n / 4) w → IsWholeRoot n (cond (leb ((2 * w + 1) * (2 * w + 1)) n) (2 * w + 1) (2 * w))
    go w r = pick w (leb ((2 * w + 1) * (2 * w + 1)) n) (leb→le ((2 * w + 1) * (2 * w + 1)) n) (nleb→lt ((2 * w + 1) * (2 * w + 1)) n) r

-- ---- the nearest whole number

-- q is the whole number nearest to √n, and there is no tie
abbrev pub Closest : ℕ → ℕ → Type 0
Closest n q = ((2 * q - 1) * (2 * q - 1) < 4 * n) × (4 * n < (2 * q + 1) * (2 * q + 1))

pub near_closest : (n : ℕ) → 0 < n → n < 4 ^ 53 → Closest n (near_root n)
unfolding near_root
near_closest n p h = go (isqrt 53 n) (isqrt_is 53 n h)
  where
    pick : (w : ℕ) (b : Bool) → (T b → w * w + w < n) → (T (not b) → n ≤ w * w + w) → IsWholeRoot n w → Closest n (cond b (w + 1) w)
    pick w true u d i =
        let a = u tt in
        let e : 2 * (w + 1) - 1 ≡ 2 * w + 1 = omega arith in
        rw e (omega (arith, a, i.0, i.1))
    pick zero false u d i = let a = d tt in absurd (no a)
      where
        no : n ≤ 0 * 0 + 0 → ⊥
        no a = omega arith
    pick (suc w) false u d i =
        let a = d tt in
        let e : 2 * suc w - 1 ≡ 2 * w + 1 = omega arith in
        rw e (omega (arith, a, i.0, i.1))

    go : (w : ℕ) → IsWholeRoot n w → Closest n (cond (ltb (w * w + w) n) (w + 1) w)
    go w i = pick w (ltb (w * w + w) n) (ltb→lt (w * w + w) n) (nltb→le (w * w + w) n) i

odd_lt : (a b n : ℕ) → (2 * a - 1) * (2 * a - 1) < 4 * n → 4 * n < (2 * b + 1) * (2 * b + 1) → a ≤ b
odd_lt a b n p q = le_of_suc-le-suc (lt_of_not-le (λ (g : suc b ≤ a). no (mul-le-mul (more g) (more g))))
  where
    more : suc b ≤ a → 2 * b + 1 ≤ 2 * a - 1
    more g = omega arith

    no : (2 * b + 1) * (2 * b + 1) ≤ (2 * a - 1) * (2 * a - 1) → ⊥
    no g = omega arith

pub closest_unique : (a b n : ℕ) → Closest n a → Closest n b → a ≡ b
closest_unique a b n p q = le_antisymm (odd_lt a b n p.0 q.1) (odd_lt b a n q.0 p.1)

-- the whole number that is nearest by whole bounds
closest_of : (n w : ℕ) → 0 < w → w * w < n + w → n ≤ w * w + w → Closest n w
closest_of n zero p q r = absurd (no p)
  where
    no : 0 < 0 → ⊥
    no p = omega arith
closest_of n (suc u) p q r =
    let e : 2 * suc u - 1 ≡ 2 * u + 1 = omega arith in
    rw e (omega (arith, q, r))

nearest : (n w : ℕ) → n < 4 ^ 53 → 0 < n → 0 < w → w * w < n + w → n ≤ w * w + w → w ≡ near_root n
nearest n w h z p q r = closest_unique w (near_root n) n (closest_of n w p q r) (near_closest n z h)

-- ---- from the root that has one digit more

-- the whole root w of 4 * n gives it, rounded by its last digit: w is 2 * q - 1 or 2 * q, and an odd square is no multiple of 4
pub whole_near : (v w : ℕ) → 2 ^ 52 ≤ v → v + 1 < 2 ^ 54 → IsWholeRoot (v * 2 ^ 54) w → (w + 1) / 2 ≡ near_root (v * 2 ^ 52)
whole_near v w l h i = go (eqb (w % 2) 0) (eqb→eq (w % 2) 0) (λ (e : w % 2 ≡ 0). eq→eqb e)
  where
    some : (q : ℕ) → v * 2 ^ 54 < (2 * q + 1) * (2 * q + 1) → 0 < q
    some zero k = omega arith
    some (suc q) k = omega arith

    even : (q : ℕ) → IsWholeRoot (v * 2 ^ 54) (2 * q) → q ≡ near_root (v * 2 ^ 52)
    even q r = let p = some q r.1 in nearest (v * 2 ^ 52) q (omega arith) (omega arith) p (omega (arith, r.0, p)) (omega (arith, r.1))

    uneven : (q : ℕ) → IsWholeRoot (v * 2 ^ 54) (2 * q + 1) → q + 1 ≡ near_root (v * 2 ^ 52)
    uneven q r = nearest (v * 2 ^ 52) (q + 1) (omega arith) (omega arith) (omega arith) (omega (arith, r.0)) (omega (arith, r.1))

    go : (b : Bool) → (T b → w % 2 ≡ 0) → (w % 2 ≡ 0 → T b) → (w + 1) / 2 ≡ near_root (v * 2 ^ 52)
    go true y n =
        let z = y tt in
        let e : w ≡ 2 * (w / 2) = omega (arith, z) in
        let a : (w + 1) / 2 ≡ w / 2 = omega (arith, z) in
        a ∙ even (w / 2) (subst (λ (x : ℕ). IsWholeRoot (v * 2 ^ 54) x) e i)
    go false y n =
        let e : w ≡ 2 * (w / 2) + 1 = other n in
        let a : (w + 1) / 2 ≡ w / 2 + 1 = omega (arith, e) in
        a ∙ uneven (w / 2) (subst (λ (x : ℕ). IsWholeRoot (v * 2 ^ 54) x) e i)
      where
        other : (w % 2 ≡ 0 → ⊥) → w ≡ 2 * (w / 2) + 1
        other n = omega arith

pub near_bounds : (v : ℕ) → 2 ^ 52 ≤ v → v + 1 < 2 ^ 54 → (2 ^ 52 ≤ near_root (v * 2 ^ 52)) × (near_root (v * 2 ^ 52) < 2 ^ 53)
near_bounds v l h =
    let c = near_closest (v * 2 ^ 52) (omega arith) (omega arith) in
    let q = near_root (v * 2 ^ 52) in
    (odd_lt (2 ^ 52) q (v * 2 ^ 52) (omega arith) c.1, below q (odd_lt q (2 ^ 53 - 1) (v * 2 ^ 52) c.0 (omega arith)))
  where
    below : (q : ℕ) → q ≤ 2 ^ 53 - 1 → q < 2 ^ 53
    below q k = omega arith
