-- Determined, place by place: the count as the code has it, what holds of the places before it and at it, and that it is at most the rank that the
-- zero solve uses. Assumes nothing.
use mathlib.Core.Path.{◌≡◌, refl, sym, ap, ◌∙◌}
use mathlib.Core.Bool.{Bool, true, false, cond, true≢false}
use mathlib.Core.List.{List, [], ◌∷◌}
use Prim.Native.Nat.{ℕ, zero, suc, ◌+◌, ◌*◌, ◌<◌, ◌≤◌, max, zero-le, suc-le-suc}
use native.Mathlib.Nat.{le_of_suc-le-suc}
use native.Mathlib.Omega.{arith}
use lib.IntN.{ℤ, pos}
use lib.ListN.{length, get_or, take}
use lib.Ieee.{Float, nan, inf, fin, binary64, up, down, mul, lt, eq, of_int}
use borrow.Author.Tests.{le-ltb}
use Rattle.std.specs.List.{take_while}
use Rattle.std.proofs.lemmas.List.Sums.{take_while-cons}
use Rattle.leaves.specs.Number.{plus_zero, abs_of, epsmch}
use Rattle.leaves.specs.Square.{diagonal}
use Rattle.leaves.proofs.Normed.{abs_side, round_side, mul_side}
use Rattle.leaves.proofs.Signs.{not_zero}
use Rattle.leaves.proofs.root.Signs.{Side, no_number, endless, minus_zero, plain}
use Rattle.factor.specs.Solve.{rank, r_rank}
use Rattle.measures.specs.Determined.{limit_of, leading, determined_of}

-- the limit as the code works it out, top being the larger of m and n
pub limit_by : (m n top : ℕ) (d : Float) {e a : Float} → top ≡ max m n → e ≡ epsmch → a ≡ abs_of d → mul binary64 (mul binary64 (of_int binary64 (pos top)) e) a ≡ limit_of m n d
unfolding limit_of
limit_by m n top d t e a = rw (t, e, a)

pub leading_is : (limit : Float) (ds : List Float) → take_while (λ d. lt limit (abs_of d)) ds ≡ leading limit ds
unfolding leading
leading_is limit [] = refl
leading_is limit (d ∷ ds) =
    let p : Float → Bool = λ d. lt limit (abs_of d) in
    take_while-cons p d ds ∙ ap (λ (l : List Float). cond (p d) (d ∷ l) []) (leading_is limit ds)

-- ---- every place before the count is above the limit, and the place at the count is not
here : (limit d : Float) (ds : List Float) (b : Bool) → lt limit (abs_of d) ≡ b
    → ((i : ℕ) → i < length (leading limit ds) → lt limit (abs_of (get_or ds i nan)) ≡ true)
    → (i : ℕ) → i < length (cond b (d ∷ leading limit ds) []) → lt limit (abs_of (get_or (d ∷ ds) i nan)) ≡ true
here limit d ds false t f i h = absurd (omega (arith, h))
here limit d ds true t f zero h = t
here limit d ds true t f (suc i) h = f i (le_of_suc-le-suc h)

leads_before : (limit : Float) (ds : List Float) (i : ℕ) → i < length (leading limit ds) → lt limit (abs_of (get_or ds i nan)) ≡ true
unfolding leading
leads_before limit [] i h = absurd (omega (arith, h))
leads_before limit (d ∷ ds) i h = here limit d ds (lt limit (abs_of d)) refl (leads_before limit ds) i h

ends : (limit d : Float) (ds : List Float) (b : Bool) → lt limit (abs_of d) ≡ b
    → (length (leading limit ds) < length ds → lt limit (abs_of (get_or ds (length (leading limit ds)) nan)) ≡ false)
    → length (cond b (d ∷ leading limit ds) []) < suc (length ds) → lt limit (abs_of (get_or (d ∷ ds) (length (cond b (d ∷ leading limit ds) [])) nan)) ≡ false
ends limit d ds false t f h = t
ends limit d ds true t f h = f (le_of_suc-le-suc h)

leads_at : (limit : Float) (ds : List Float) → length (leading limit ds) < length ds → lt limit (abs_of (get_or ds (length (leading limit ds)) nan)) ≡ false
unfolding leading
leads_at limit [] h = absurd (omega (arith, h))
leads_at limit (d ∷ ds) h = ends limit d ds (lt limit (abs_of d)) refl (leads_at limit ds) h

module _ (m : ℕ) (upper : List (List Float)) where
  abbrev places : List Float
  places = take m (diagonal upper)

  abbrev limit : Float
  limit = limit_of m (length upper) (get_or (diagonal upper) 0 nan)

  pub determined_leads :
      ((i : ℕ) → i < determined_of m upper → lt limit (abs_of (get_or places i nan)) ≡ true)
      × (determined_of m upper < length places → lt limit (abs_of (get_or places (determined_of m upper) nan)) ≡ false)
  unfolding determined_of
  determined_leads = (leads_before limit places, leads_at limit places)

-- ---- at most the rank: what is greater than a limit that is not below zero is not zero
not_above-zero : {x : Float} (s : Bool) (e : ℤ) → Side x → lt x (abs_of (fin s 0 e)) ≡ false
unfolding lt abs_of
not_above-zero s e no_number = refl
not_above-zero s e endless = refl
not_above-zero s e (minus_zero {e = d}) = le-ltb 0 (0 * up d * down e + 0 * up e * down d) (omega arith)
not_above-zero s e (plain {m} {e = d}) = le-ltb (m * up d * down e) (0 * up e * down d) (omega arith)

zero_fails : {x : Float} (d : Float) → Side x → eq d plus_zero ≡ true → lt x (abs_of d) ≡ false
unfolding eq
zero_fails nan p h = absurd (true≢false (sym h))
zero_fails (inf s) p h = absurd (true≢false (sym h))
zero_fails (fin s zero e) p h = not_above-zero s e p
zero_fails (fin s (suc m) e) p h = absurd (true≢false (sym h ∙ not_zero s m e))

limit_side : (m n : ℕ) (d : Float) → Side (limit_of m n d)
unfolding limit_of epsmch of_int
limit_side m n d = mul_side (mul_side (round_side (max m n) 1) (plain {m = 1})) (abs_side d)

counts : (d : Float) (ds : List Float) (k : ℕ) (b c : Bool) → (b ≡ true → c ≡ false) → length ds ≤ k → length (cond c (d ∷ ds) []) ≤ cond b 0 (suc k)
counts d ds k true true f h = absurd (true≢false (f refl))
counts d ds k true false f h = zero-le
counts d ds k false true f h = suc-le-suc h
counts d ds k false false f h = zero-le

leading-rank : {x : Float} (ds : List Float) → Side x → length (leading x ds) ≤ rank ds
unfolding leading rank
leading-rank [] p = zero-le
leading-rank {x} (d ∷ ds) p = counts d (leading x ds) (rank ds) (eq d plus_zero) (lt x (abs_of d)) (zero_fails d p) (leading-rank ds p)

-- 02, #104: the count is never above the rank that the zero solve uses, for any store. The two differ where a place is not zero and not above the
-- limit: then the report counts less.
pub determined-at_most-rank : (m : ℕ) (upper : List (List Float)) → determined_of m upper ≤ r_rank m upper
unfolding determined_of
determined-at_most-rank m upper = leading-rank (take m (diagonal upper)) (limit_side m (length upper) (get_or (diagonal upper) 0 nan))
