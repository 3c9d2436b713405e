-- Fields out of bytes, most significant bit first: what the code of `head` and `number` reads is what `head_of` and `doubles` say. Assumes nothing.
use Prim.Native.Nat.{ℕ, suc, ◌+◌, ◌*◌, ◌-◌, ◌/◌, ◌%◌, ◌<◌, ◌≤◌, ◌^◌}
use mathlib.Core.Path.{◌≡◌, refl, ap}
use mathlib.Core.List.{List, [], ◌∷◌, ◌++◌}
use native.Mathlib.Omega.{arith}
use native.Mathlib.Numerals.{add-one}
use native.Mathlib.Nat.{add-zero}
use lib.ListN.{length, get_or, set, take, drop, length-drop}
use lib.Seq.{get_or-drop, drop-drop, take-suc-set, take_all, append_snoc}
use lib.Ieee.{Float, binary64, of_bits}
use Rattle.sheet.specs.Sheet.{big, head_of, doubles}
use Rattle.sheet.specs.declared.head.Head.{Head}

-- ---- the head: 24 bits
abbrev bytes3 : ℕ → ℕ → ℕ → ℕ
bytes3 x y z = ((0 * 256 + x) * 256 + y) * 256 + z

abbrev head_by : ℕ → ℕ → ℕ → Head
head_by x y z = record { version = x / 16; call = x % 16; m = y * 4 + z / 64; n = z % 64 }

pub head_is : (s : List ℕ) → 3 ≤ length s → get_or s 1 0 < 256 → get_or s 2 0 < 256 → head_by (get_or s 0 0) (get_or s 1 0) (get_or s 2 0) ≡ head_of s
unfolding head_of big
head_is [] l hb hc = absurd (omega arith)
head_is (x ∷ []) l hb hc = absurd (omega arith)
head_is (x ∷ y ∷ []) l hb hc = absurd (omega arith)
head_is (x ∷ y ∷ z ∷ s) l hb hc =
    let v : bytes3 x y z / 2 ^ 20 ≡ x / 16 = omega arith in
    let k : bytes3 x y z / 2 ^ 16 % 2 ^ 4 ≡ x % 16 = omega arith in
    let m : bytes3 x y z / 2 ^ 6 % 2 ^ 10 ≡ y * 4 + z / 64 = omega arith in
    let n : bytes3 x y z % 2 ^ 6 ≡ z % 64 = omega arith in
    rw (v, k, m, n)

-- ---- four bytes, and eight
four : (l : List ℕ) → 4 ≤ length l → get_or l 0 0 * 16777216 + get_or l 1 0 * 65536 + get_or l 2 0 * 256 + get_or l 3 0 ≡ big 0 (take 4 l)
unfolding big
four [] h = absurd (omega arith)
four (a ∷ []) h = absurd (omega arith)
four (a ∷ b ∷ []) h = absurd (omega arith)
four (a ∷ b ∷ c ∷ []) h = absurd (omega arith)
four (a ∷ b ∷ c ∷ d ∷ l) h = omega arith

pub half_is : (s : List ℕ) (at : ℕ) → at + 4 ≤ length s → get_or s at 0 * 16777216 + get_or s (at + 1) 0 * 65536 + get_or s (at + 2) 0 * 256 + get_or s (at + 3) 0 ≡ big 0 (take 4 (drop at s))
half_is s at h =
    let z : at + 0 ≡ at = add-zero at in
    let e = four (drop at s) (rw length-drop (omega arith)) in
    rw (get_or-drop at s 0 0, get_or-drop at s 1 0, get_or-drop at s 2 0, get_or-drop at s 3 0, z) at e

eight : (l : List ℕ) → 8 ≤ length l → big 0 (take 4 l) * 4294967296 + big 0 (take 4 (drop 4 l)) ≡ big 0 (take 8 l)
unfolding big
eight [] h = absurd (omega arith)
eight (a ∷ []) h = absurd (omega arith)
eight (a ∷ b ∷ []) h = absurd (omega arith)
eight (a ∷ b ∷ c ∷ []) h = absurd (omega arith)
eight (a ∷ b ∷ c ∷ d ∷ []) h = absurd (omega arith)
eight (a ∷ b ∷ c ∷ d ∷ e ∷ []) h = absurd (omega arith)
eight (a ∷ b ∷ c ∷ d ∷ e ∷ f ∷ []) h = absurd (omega arith)
eight (a ∷ b ∷ c ∷ d ∷ e ∷ f ∷ g ∷ []) h = absurd (omega arith)
eight (a ∷ b ∷ c ∷ d ∷ e ∷ f ∷ g ∷ k ∷ l) h = omega arith

pub word_is : (s : List ℕ) (at : ℕ) → at + 8 ≤ length s → big 0 (take 4 (drop at s)) * 4294967296 + big 0 (take 4 (drop (at + 4) s)) ≡ big 0 (take 8 (drop at s))
word_is s at h = rw (← drop-drop 4 at s) (eight (drop at s) (rw length-drop (omega arith)))

-- ---- a turn of the loop that reads the numbers
module _ (s : List ℕ) where
  abbrev pub after : List Float → ℕ → ℕ → List Float
  after out k i = take i out ++ doubles (k - i) (drop (3 + 8 * i) s)

  pub read_turn : (out : List Float) (k i : ℕ) {w : ℕ} {x : Float} → i < k → k ≡ length out → w ≡ big 0 (take 8 (drop (3 + 8 * i) s)) → x ≡ of_bits binary64 w
      → after (set out i x) k (i + 1) ≡ after out k i
  unfolding doubles
  read_turn out k i h l e p =
      let u : k - i ≡ suc (k - (i + 1)) = omega arith in
      let v : 3 + 8 * (i + 1) ≡ 3 + 8 * i + 8 = omega arith in
      rw (u, v, ← drop-drop 8 (3 + 8 * i) s, add-one, take-suc-set out i _ (omega arith), append_snoc, p, e)

  pub read_end : (out : List Float) (k i : ℕ) → k ≤ i → k ≡ length out → after out k i ≡ out
  unfolding doubles
  read_end out k i h l =
      let u : k - i ≡ 0 = omega arith in
      rw (u, take_all i out (omega arith)) (nothing out)
    where
      nothing : (xs : List Float) → xs ++ [] ≡ xs
      nothing [] = refl
      nothing (x ∷ xs) = ap (λ (l : List Float). x ∷ l) (nothing xs)
