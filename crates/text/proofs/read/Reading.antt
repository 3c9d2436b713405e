-- The loop of `read::number`, a turn at a time. Assumes nothing.
use Prim.Native.Nat.{ℕ, ◌+◌, ◌*◌, ◌^◌, ◌<◌, ◌≤◌}
use mathlib.Core.Path.{◌≡◌, refl, subst, ◌∙◌}
use mathlib.Core.Bool.{Bool, true, false, cond}
use mathlib.Core.List.{List}
use native.Mathlib.Omega.{arith}
use native.Mathlib.Numerals.{add-one}
use borrow.Author.Tests.{ltb-true, ltb-false, le-leb, lt-leb}
use lib.Dec.{ltb}
use lib.ListN.{length, get_or, drop, drop_of_length-le}
use lib.Seq.{drop-cons}
use Rattle.std.specs.Prelude.{Option, Some, None}
use Rattle.text.specs.declared.read.Found.{Found}
use Rattle.text.specs.Digit.{digit_of}
use Rattle.text.specs.Read.{number_ends, stopped, turn, read_from}

-- ---- a digit's value is below 16
Small : Option ℕ → Type 0
Small (Some k) = k < 16
Small None = Unit {0}

either : (t : Bool) (x y : Option ℕ) → (t ≡ true → Small x) → (t ≡ false → Small y) → Small (cond t x y)
either true x y p q = p refl
either false x y p q = q refl

small_of : (b : ℕ) → Small (digit_of b)
unfolding digit_of Small
small_of b =
    either (ltb b 48) _ _ (λ e. tt) (λ a.
    either (ltb b 58) _ _ (λ e. omega (arith, ltb-true b 58 e, ltb-false b 48 a)) (λ d.
    either (ltb b 65) _ _ (λ e. tt) (λ f.
    either (ltb b 71) _ _ (λ e. omega (arith, ltb-true b 71 e, ltb-false b 65 f)) (λ g.
    either (ltb b 97) _ _ (λ e. tt) (λ h.
    either (ltb b 103) _ _ (λ e. omega (arith, ltb-true b 103 e, ltb-false b 97 h)) (λ i. tt))))))

pub is_small_lem : (b k : ℕ) → digit_of b ≡ Some k → k < 16
unfolding Small
is_small_lem b k e = subst Small e (small_of b)

-- ---- the turns
module _ (s : List ℕ) (at v i : ℕ) (r : Option Found) where
  pub number_stop : (x : Option Found) → i < length s → digit_of (get_or s i 0) ≡ None → x ≡ stopped at v i (get_or s i 0) → read_from at v i (drop i s) ≡ r → x ≡ r
  unfolding read_from turn
  number_stop x h d e p = e ∙ (rw d at (rw (drop-cons s i 0 h) at p))

  pub number_over : (k : ℕ) → i < length s → digit_of (get_or s i 0) ≡ Some k → 2 ^ 60 ≤ v → read_from at v i (drop i s) ≡ r → None ≡ r
  unfolding read_from turn
  number_over k h d t p = rw (le-leb (2 ^ 60) v t) at (rw d at (rw (drop-cons s i 0 h) at p))

  pub number_go : (k : ℕ) → i < length s → digit_of (get_or s i 0) ≡ Some k → v < 2 ^ 60 → read_from at v i (drop i s) ≡ r → read_from at (v * 16 + k) (i + 1) (drop (i + 1) s) ≡ r
  unfolding read_from turn
  number_go k h d t p = rw add-one (rw (lt-leb (2 ^ 60) v t) at (rw d at (rw (drop-cons s i 0 h) at p)))

  pub number_end : (x : Option Found) → length s ≤ i → x ≡ number_ends at v i → read_from at v i (drop i s) ≡ r → x ≡ r
  unfolding read_from
  number_end x h e p = e ∙ (rw (drop_of_length-le s {i = i} h) at p)
