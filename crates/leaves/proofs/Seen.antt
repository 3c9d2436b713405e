-- 02, #106: the flags of several norms, collected as the norms are worked out. A call hands on what it has seen so far, `either` with the flags of each
-- norm in turn; that is `ranges_of` the list of the vectors. Assumes nothing.
use mathlib.Core.Path.{◌≡◌, refl, sym, ap, ◌∙◌}
use mathlib.Core.Bool.{Bool, true, false, ◌||◌}
use mathlib.Core.List.{List, [], ◌∷◌, ◌++◌}
use Prim.Native.Nat.{ℕ, zero, suc, ◌+◌, ◌-◌, ◌<◌, ◌≤◌}
use native.Mathlib.Nat.{sub_self, not-suc-le-zero, le_of_suc-le-suc, add-sub_of_le}
use native.Mathlib.Numerals.{add-one}
use native.Mathlib.Omega.{arith}
use lib.ListN.{length, get_or}
use lib.Ieee.{Float}
use Rattle.leaves.specs.Loop.{upto, between, along, along_between}
use Rattle.leaves.specs.Norm.{flags, neither, either, ranges, ranges_of}
use Rattle.leaves.specs.declared.norm.Ranges.{Ranges}
use Rattle.leaves.proofs.Flags.{or_false, or-more}

pub either_none : (a : Ranges) → either a neither ≡ a
either_none a = ap (λ (b : Bool). flags b (a.large || false)) (or_false a.small) ∙ ap (flags a.small) (or_false a.large)

pub either-more : (a b c : Ranges) → either (either a b) c ≡ either a (either b c)
either-more a b c =
    ap (λ (x : Bool). flags x ((a.large || b.large) || c.large)) (or-more a.small b.small c.small)
    ∙ ap (flags (a.small || (b.small || c.small))) (or-more a.large b.large c.large)

or_twice : (a b : Bool) → ((a || b) || a) ≡ (a || b)
or_twice true b = refl
or_twice false true = refl
or_twice false false = refl

-- seen once more, nothing changes
either_again : (a b : Ranges) → either (either a b) a ≡ either a b
either_again a b =
    ap (λ (x : Bool). flags x ((a.large || b.large) || a.large)) (or_twice a.small b.small) ∙ ap (flags (a.small || b.small)) (or_twice a.large b.large)

pub ranges_of_none : neither ≡ ranges_of []
unfolding ranges_of
ranges_of_none = refl

pub ranges_of_one : (v : List Float) → ranges_of (v ∷ []) ≡ ranges v
unfolding ranges_of
ranges_of_one v = either_none (ranges v)

pub ranges_of-append : (us vs : List (List Float)) → ranges_of (us ++ vs) ≡ either (ranges_of us) (ranges_of vs)
unfolding ranges_of
ranges_of-append [] vs = refl
ranges_of-append (u ∷ us) vs = ap (either (ranges u)) (ranges_of-append us vs) ∙ sym (either-more (ranges u) (ranges_of us) (ranges_of vs))

-- one more vector at the end
pub ranges_of_last : (us : List (List Float)) (v : List Float) → ranges_of (us ++ (v ∷ [])) ≡ either (ranges_of us) (ranges v)
ranges_of_last us v = ranges_of-append us (v ∷ []) ∙ ap (either (ranges_of us)) (ranges_of_one v)

-- of a vector that was measured already nothing new is seen
pub ranges_of_has : (vs : List (List Float)) (k : ℕ) → k < length vs → either (ranges_of vs) (ranges (get_or vs k [])) ≡ ranges_of vs
unfolding ranges_of
ranges_of_has [] k h = absurd (not-suc-le-zero h)
ranges_of_has (v ∷ vs) zero h = either_again (ranges v) (ranges_of vs)
ranges_of_has (v ∷ vs) (suc k) h = either-more (ranges v) (ranges_of vs) (ranges (get_or vs k [])) ∙ ap (either (ranges v)) (ranges_of_has vs k (le_of_suc-le-suc h))

-- ---- a loop that hands on what it has seen: f is its turn, g the vectors that a turn measures
module _ {S : Type 0} (g : ℕ → S → List (List Float)) (f : ℕ → S → S) (seen₀ : Ranges) (s₀ : S) where
  pub along_none : seen₀ ≡ either seen₀ (ranges_of (along g f 0 s₀))
  unfolding along ranges_of
  along_none = sym (either_none seen₀)

  pub along_turn : (i : ℕ) {s : S} {seen seen' : Ranges} → seen ≡ either seen₀ (ranges_of (along g f i s₀)) → s ≡ upto f i s₀ → seen' ≡ either seen (ranges_of (g i s))
      → seen' ≡ either seen₀ (ranges_of (along g f (i + 1) s₀))
  unfolding along
  along_turn i {s} {seen} e inv h =
      h ∙ ap (λ (x : Ranges). either x (ranges_of (g i s))) e ∙ ap (λ (t : S). either (either seen₀ (ranges_of (along g f i s₀))) (ranges_of (g i t))) inv
      ∙ either-more seen₀ (ranges_of (along g f i s₀)) (ranges_of (g i (upto f i s₀)))
      ∙ ap (either seen₀) (sym (ranges_of-append (along g f i s₀) (g i (upto f i s₀)))) ∙ rw add-one refl

  pub along_between_none : (a : ℕ) → seen₀ ≡ either seen₀ (ranges_of (along_between g f a a s₀))
  unfolding along_between along ranges_of
  along_between_none a = rw sub_self (sym (either_none seen₀))

  pub along_between_turn : (a i : ℕ) {s : S} {seen seen' : Ranges} → a ≤ i → seen ≡ either seen₀ (ranges_of (along_between g f a i s₀)) → s ≡ between f a i s₀
      → seen' ≡ either seen (ranges_of (g i s)) → seen' ≡ either seen₀ (ranges_of (along_between g f a (i + 1) s₀))
  unfolding along_between along between
  along_between_turn a i {s} {seen} le e inv h =
      let n : i + 1 - a ≡ suc (i - a) = omega arith in
      let before = along (λ t. g (a + t)) (λ t. f (a + t)) (i - a) s₀ in
      let there = upto (λ t. f (a + t)) (i - a) s₀ in
      h ∙ ap (λ (x : Ranges). either x (ranges_of (g i s))) e ∙ ap (λ (t : S). either (either seen₀ (ranges_of before)) (ranges_of (g i t))) inv
      ∙ either-more seen₀ (ranges_of before) (ranges_of (g i there))
      ∙ ap (either seen₀) (sym (ranges_of-append before (g i there)))
      ∙ ap (λ (k : ℕ). either seen₀ (ranges_of (before ++ g k there))) (sym (add-sub_of_le le))
      ∙ rw n refl
