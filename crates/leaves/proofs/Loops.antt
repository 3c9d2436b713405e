-- Laws of the counted loops of `specs/Loop.antt`. Assumes nothing.
use mathlib.Core.Path.{◌≡◌, refl, sym, ap, ◌∙◌, subst}
use Prim.Native.Nat.{ℕ, zero, suc, ◌+◌, ◌-◌, ◌≤◌, ◌<◌}
use native.Mathlib.Nat.{sub_self, add-sub_of_le, le_refl, le_step}
use native.Mathlib.Numerals.{add-one}
use native.Mathlib.Omega.{arith}
use Rattle.leaves.specs.Loop.{upto, between}

module _ {S : Type 0} where
  pub upto_none : (f : ℕ → S → S) (s : S) → s ≡ upto f 0 s
  unfolding upto
  upto_none f s = refl

  pub upto_next : (f : ℕ → S → S) (i : ℕ) (s : S) → upto f (i + 1) s ≡ f i (upto f i s)
  unfolding upto
  upto_next f i s = rw add-one

  pub between_none : (f : ℕ → S → S) (a : ℕ) (s : S) → s ≡ between f a a s
  unfolding between upto
  between_none f a s = rw sub_self

  pub between_next : (f : ℕ → S → S) (a i : ℕ) (s : S) → a ≤ i → between f a (i + 1) s ≡ f i (between f a i s)
  unfolding between upto
  between_next f a i s h =
      let e : i + 1 - a ≡ suc (i - a) = omega arith in
      rw e (ap (λ (k : ℕ). f k (upto (λ t. f (a + t)) (i - a) s)) (add-sub_of_le h))

  -- a turn, for an invariant `s ≡ upto f i s₀`
  pub upto_turn : (f : ℕ → S → S) (i : ℕ) (s₀ : S) {s s' : S} → s ≡ upto f i s₀ → s' ≡ f i s → s' ≡ upto f (i + 1) s₀
  upto_turn f i s₀ inv h = h ∙ ap (f i) inv ∙ sym (upto_next f i s₀)

  pub between_turn : (f : ℕ → S → S) (a i : ℕ) (s₀ : S) {s s' : S} → a ≤ i → s ≡ between f a i s₀ → s' ≡ f i s → s' ≡ between f a (i + 1) s₀
  between_turn f a i s₀ le inv h = h ∙ ap (f i) inv ∙ sym (between_next f a i s₀ le)

  -- what each turn keeps, the whole loop keeps; P may speak of the turn's number
  pub upto_keeps : (P : ℕ → S → Type 0) (f : ℕ → S → S) (n : ℕ) (s : S) → P 0 s
      → ((i : ℕ) (t : S) → i < n → P i t → P (suc i) (f i t)) → P n (upto f n s)
  unfolding upto
  upto_keeps P f zero s z step = z
  upto_keeps P f (suc n) s z step = step n (upto f n s) (le_refl (suc n)) (upto_keeps P f n s z (λ i t h. step i t (le_step h)))

  pub between_keeps : (P : ℕ → S → Type 0) (f : ℕ → S → S) (a b : ℕ) (s : S) → a ≤ b → P a s
      → ((i : ℕ) (t : S) → a ≤ i → i < b → P i t → P (suc i) (f i t)) → P b (between f a b s)
  unfolding between
  between_keeps P f a b s h z step =
      subst (λ (k : ℕ). P k (upto (λ t. f (a + t)) (b - a) s)) (add-sub_of_le h)
      (upto_keeps (λ k. P (a + k)) (λ t. f (a + t)) (b - a) s
      (let e : a + 0 ≡ a = omega arith in rw e z)
      (λ i t hi p. let e : a + suc i ≡ suc (a + i) = omega arith in rw e (step (a + i) t (omega arith) (omega arith) p)))

-- two loops side by side
module _ {S T : Type 0} where
  pub upto-both : (R : ℕ → S → T → Type 0) (f : ℕ → S → S) (g : ℕ → T → T) (n : ℕ) (s : S) (t : T) → R 0 s t
      → ((i : ℕ) (x : S) (y : T) → i < n → R i x y → R (suc i) (f i x) (g i y)) → R n (upto f n s) (upto g n t)
  unfolding upto
  upto-both R f g zero s t z step = z
  upto-both R f g (suc n) s t z step =
      step n (upto f n s) (upto g n t) (le_refl (suc n)) (upto-both R f g n s t z (λ i x y h. step i x y (le_step h)))
