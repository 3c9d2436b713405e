-- With fewer rows than columns a factoring leaves R's diagonal zero at place m, where LMPAR, which is not told m, finds its nsing. Assumes nothing.
use mathlib.Core.Path.{◌≡◌, refl, sym, ap, ◌∙◌}
use mathlib.Core.Bool.{Bool, true, false}
use mathlib.Core.List.{List, [], ◌∷◌}
use mathlib.Core.Logic.{inl, inr}
use Prim.Native.Nat.{ℕ, zero, suc, ◌+◌, ◌-◌, ◌<◌}
use native.Mathlib.Nat.{not-suc-le-zero, le_of_suc-le-suc}
use native.Mathlib.Omega.{arith}
use lib.Dec.{leb}
use lib.ListN.{length, get_or, take}
use lib.Seq.{get_or_at}
use lib.Ieee.{Float, nan, eq}
use borrow.Author.Tests.{le-ltb, leb-true, leb-false}
use Rattle.leaves.specs.declared.norm.Ranges.{Ranges}
use Rattle.leaves.specs.Reply.{answered}
use Rattle.leaves.specs.Number.{plus_zero}
use Rattle.leaves.specs.Triangle.{columns}
use Rattle.factor.specs.Room.{Room, load}
use Rattle.leaves.specs.Square.{diagonal}
use Rattle.reduce.specs.Reduction.{Reduction, reduction_of}
use Rattle.factor.specs.Factoring.{uppers, upper_column, factor_call, factored_room}
use Rattle.leaves.proofs.Squares.{diagonal_from_at, diagonal-length}
use Rattle.factor.proofs.Answered.{answered_room, answered-fits, answered_shaped, answered-state}
use Rattle.search.proofs.LmparVectors.{Enough}

uppers_at : (m k : ℕ) (cs : List (List Float)) (ds : List Float) → length cs ≡ length ds → (i : ℕ) → i < length cs
    → get_or (uppers m k cs ds) i [] ≡ upper_column m (k + i) (get_or cs i []) (get_or ds i nan)
unfolding uppers
uppers_at m k [] ds e i h = absurd (not-suc-le-zero h)
uppers_at m k (c ∷ cs) [] e i h = absurd (omega arith)
uppers_at m k (c ∷ cs) (d ∷ ds) e zero h = let z : k + 0 ≡ k = omega arith in rw z
uppers_at m k (c ∷ cs) (d ∷ ds) e (suc i) h = let z : k + suc i ≡ suc k + i = omega arith in rw z (uppers_at m (suc k) cs ds (omega arith) i (le_of_suc-le-suc h))

-- column m is the whole reduced column and one zero
last_zero : (m : ℕ) (c : List Float) (d : Float) → length c ≡ m → get_or (upper_column m m c d) m nan ≡ plus_zero
unfolding upper_column
last_zero m c d l = let e : suc m - m ≡ 1 = omega arith in rw (le-ltb m m (omega arith), e) (get_or_at c plus_zero [] nan m l)

module _ (m n : ℕ) (jacobian residuals store : List Float) (order : List ℕ) (bench : List Float) {f : Ranges} (h : (factor_call m n jacobian residuals store order bench).reply ≡ answered f) where
  abbrev made : Reduction
  made = reduction_of m n (columns m n jacobian) (take m residuals)

  zero_there : m < n → get_or (diagonal (load n (factor_call m n jacobian residuals store order bench).store).upper) m nan ≡ plus_zero
  unfolding factored_room
  zero_there l =
      let f = answered-fits m n jacobian residuals store order bench h in
      let wide : length (uppers m 0 made.cols made.diag) ≡ n = (answered_shaped m n jacobian residuals store order bench h).upper_wide in
      ap (λ (r : Room). get_or (diagonal r.upper) m nan) (answered_room m n jacobian residuals store order bench h)
      ∙ diagonal_from_at 0 m (uppers m 0 made.cols made.diag) (omega arith)
      ∙ ap (λ (k : ℕ). get_or (get_or (uppers m 0 made.cols made.diag) m []) k nan) (omega arith)
      ∙ ap (λ (c : List Float). get_or c m nan) (uppers_at m 0 made.cols made.diag (f.cols_wide ∙ sym f.diag_long) m (omega (arith, f.cols_wide)) ∙ ap (λ (k : ℕ). upper_column m k (get_or made.cols m []) (get_or made.diag m nan)) (omega arith))
      ∙ last_zero m (get_or made.cols m []) (get_or made.diag m nan) (f.cols_tall m l)

  -- LAW: as LMPAR looks at it, a factored R has rows enough
  pub factored_enough : Enough (factor_call m n jacobian residuals store order bench).state.m
      (diagonal (load (factor_call m n jacobian residuals store order bench).state.n (factor_call m n jacobian residuals store order bench).store).upper)
  unfolding eq
  factored_enough =
      let d = diagonal (load n (factor_call m n jacobian residuals store order bench).store).upper in
      let room = answered_room m n jacobian residuals store order bench h in
      let wide : length d ≡ n = diagonal-length 0 _ ∙ ap (λ (r : Room). length r.upper) room ∙ (answered_shaped m n jacobian residuals store order bench h).upper_wide in
      rw (answered-state m n jacobian residuals store order bench h) (by (leb n m) refl wide)
    where
      by : (z : Bool) → leb n m ≡ z → length (diagonal (load n (factor_call m n jacobian residuals store order bench).store).upper) ≡ n → Enough m (diagonal (load n (factor_call m n jacobian residuals store order bench).store).upper)
      by true e w = inl (omega (arith, leb-true n m e))
      by false e w = inr (ap (λ (x : Float). eq x plus_zero) (zero_there (leb-false n m e)))
