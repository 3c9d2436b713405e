-- One turn of each loop that tests a slice's entries. Assumes nothing.
use mathlib.Core.Path.{◌≡◌, refl, sym, ◌∙◌}
use mathlib.Core.Bool.{Bool, true, false, not, ◌&&◌, ◌||◌, and-true}
use mathlib.Core.List.{List}
use Prim.Native.Nat.{ℕ, suc, ◌+◌, ◌<◌, ◌≤◌}
use native.Mathlib.Numerals.{add-one}
use lib.ListN.{length, get_or, drop, drop_of_length-le}
use lib.Seq.{drop-cons}
use lib.Ieee.{Float, nan, inf, fin, binary64, lt, eq, neg, of_bits}
use Rattle.leaves.specs.Number.{is_finite, plus_zero}
use Rattle.leaves.specs.Tests.{all_finite, none_zero}

-- a turn of `bad = bad | !ok`, and of `bad = bad | met`
turn : (bad ok rest : Bool) → (not (bad || not ok) && rest) ≡ (not bad && (ok && rest))
turn true ok rest = refl
turn false true rest = refl
turn false false rest = refl

turn_met : (bad met rest : Bool) → (not (bad || met) && rest) ≡ (not bad && (not met && rest))
turn_met true met rest = refl
turn_met false met rest = refl

-- ---- 6: every entry finite
between_tops : (x : Float) → (lt (inf true) x && lt x (inf false)) ≡ is_finite x
unfolding lt is_finite
between_tops nan = refl
between_tops (inf true) = refl
between_tops (inf false) = refl
between_tops (fin s m e) = refl

module _ (v : List Float) (i : ℕ) (bad : Bool) where
  abbrev top : Float
  top = of_bits binary64 0x7ff0_0000_0000_0000

  pub finite_turn : i < length v
      → (not (bad || not (lt (neg top) (get_or v i nan) && lt (get_or v i nan) top)) && all_finite (drop (i + 1) v)) ≡ (not bad && all_finite (drop i v))
  unfolding all_finite of_bits neg
  finite_turn h = rw (between_tops (get_or v i nan), add-one, drop-cons v i nan h) (turn bad (is_finite (get_or v i nan)) (all_finite (drop (suc i) v)))

  pub finite-end : length v ≤ i → (not bad && all_finite (drop i v)) ≡ all_finite v → not bad ≡ all_finite v
  unfolding all_finite
  finite-end h e = sym (and-true (not bad)) ∙ (rw (drop_of_length-le v {i = i} h) at e)

  -- ---- 7: no entry zero
  pub zero_turn : i < length v → (not (bad || eq (get_or v i nan) (of_bits binary64 0)) && none_zero (drop (i + 1) v)) ≡ (not bad && none_zero (drop i v))
  unfolding none_zero of_bits
  zero_turn h = rw (add-one, drop-cons v i nan h) (turn_met bad (eq (get_or v i nan) plus_zero) (none_zero (drop (suc i) v)))

  pub zero-end : length v ≤ i → (not bad && none_zero (drop i v)) ≡ none_zero v → not bad ≡ none_zero v
  unfolding none_zero
  zero-end h e = sym (and-true (not bad)) ∙ (rw (drop_of_length-le v {i = i} h) at e)
