-- The loops of `put`, a turn at a time, and what they come to. Assumes nothing.
use Prim.Native.Nat.{ℕ, zero, suc, ◌+◌, ◌-◌, ◌/◌, ◌%◌, ◌<◌, ◌≤◌}
use mathlib.Core.Path.{◌≡◌, refl, sym, ◌∙◌}
use mathlib.Core.Logic.{◌≢◌}
use mathlib.Core.List.{List, [], ◌∷◌, ◌++◌}
use native.Mathlib.Omega.{arith}
use native.Mathlib.Nat.{mod-eq_of_lt, mod-lt, lt_of_lt_of_le}
use borrow.Author.Tests.{lt-ltb, le-ltb, le-leb, lt-leb}
use lib.ListN.{length, set, length-append}
use lib.Seq.{sets, set_comm}
use Rattle.text.specs.Digit.{glyph}
use Rattle.text.specs.Put.{digits, places_from, places_of, stored}
use Rattle.text.specs.inner.Spelling.{put_from}

-- ---- `places`
pub places-stop : (b n k rest : ℕ) → k < 20 → rest < b → places_from (20 - k) b k rest ≡ places_of b n → k ≡ places_of b n
unfolding places_from
places-stop b n k rest h t e =
    let u : 20 - k ≡ suc (20 - (k + 1)) = omega arith in
    rw (lt-ltb _ _ t, places_from) at (rw u at e)

pub places_go : (b n k rest : ℕ) → k < 20 → b ≤ rest → places_from (20 - k) b k rest ≡ places_of b n → places_from (20 - (k + 1)) b (k + 1) (rest / b) ≡ places_of b n
unfolding places_from
places_go b n k rest h t e =
    let u : 20 - k ≡ suc (20 - (k + 1)) = omega arith in
    rw (le-ltb _ _ t, places_from) at (rw u at e)

pub places-end : (b n rest : ℕ) {k : ℕ} → k ≡ 20 → places_from (20 - k) b k rest ≡ places_of b n → 20 ≡ places_of b n
unfolding places_from
places-end b n rest h e = rw h at e

-- ---- `spell`
pub put_turn : (b i n at : ℕ) (l r : List ℕ) (g : ℕ) → 0 < i → g ≡ glyph (n % b) → put_from b i n at l ≡ r → put_from b (i - 1) (n / b) at (set l (at + (i - 1)) g) ≡ r
unfolding put_from
put_turn b i n at l r g h e p = let u : i ≡ suc (i - 1) = omega arith in rw e (rw u at p)

pub put-end : (b i n at : ℕ) (l r : List ℕ) → i ≤ 0 → put_from b i n at l ≡ r → l ≡ r
unfolding put_from
put-end b i n at l r h p = let u : i ≡ 0 = omega arith in rw u at p

-- a digit in a base of at most 16 is its own last four bits
pub mod_small : (n b : ℕ) → 0 < b → b ≤ 16 → n % b % 16 ≡ n % b
mod_small n b p h = mod-eq_of_lt (lt_of_lt_of_le (mod-lt n p) h)

sets_snoc : (xs : List ℕ) (l : List ℕ) (at y : ℕ) → sets l at (xs ++ (y ∷ [])) ≡ sets (set l (at + length xs) y) at xs
sets_snoc [] l at y = let e : at + 0 ≡ at = omega arith in rw e
sets_snoc (x ∷ xs) l at y =
    let e : suc at + length xs ≡ at + suc (length xs) = omega arith in
    let d : at ≢ at + suc (length xs) = λ h. omega (arith, h) in
    sets_snoc xs (set l at x) (suc at) y ∙ rw (e, set_comm l at (at + suc (length xs)) x y d)

pub digits-length : (b k n : ℕ) → length (digits b k n) ≡ k
unfolding digits
digits-length b zero n = refl
digits-length b (suc k) n = let e = digits-length b k (n / b) in length-append (digits b k (n / b)) _ ∙ omega arith

pub put_is : (b k n at : ℕ) (l : List ℕ) → put_from b k n at l ≡ sets l at (digits b k n)
unfolding digits put_from
put_is b zero n at l = refl
put_is b (suc k) n at l = put_is b k (n / b) at (set l (at + k) (glyph (n % b))) ∙ sym (sets_snoc (digits b k (n / b)) l at (glyph (n % b)) ∙ rw digits-length)

-- ---- what is answered
pub fits : (bytes l : List ℕ) (at k : ℕ) → length bytes ≡ k → at + k ≤ length l → (at + k, sets l at bytes) ≡ stored bytes at l
unfolding stored
fits bytes l at k e h = rw (e, le-leb _ _ h)

pub full : (bytes l : List ℕ) (at k : ℕ) → length bytes ≡ k → length l < at + k → (at, l) ≡ stored bytes at l
unfolding stored
full bytes l at k e h = rw (e, lt-leb _ _ h)

pub fits_as : (bytes l m : List ℕ) (at k : ℕ) → length bytes ≡ k → at + k ≤ length l → m ≡ sets l at bytes → (at + k, m) ≡ stored bytes at l
fits_as bytes l m at k e h p = rw p (fits bytes l at k e h)
