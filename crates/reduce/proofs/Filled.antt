-- The reduction of what stands in the bench, by its tests and by what is worked on it. Assumes nothing.
use mathlib.Core.Path.{◌≡◌, refl, ap, ◌∙◌}
use mathlib.Core.Bool.{Bool, true, false, and-false}
use mathlib.Core.List.{List, [], map}
use Prim.Native.Nat.{ℕ, suc, ◌+◌, ◌*◌, min}
use native.Mathlib.Omega.{arith}
use lib.Dec.{eqb}
use lib.ListN.{length, get_or, take, drop, length-drop}
use lib.Seq.{length-take-le}
use lib.Ieee.{Float}
use borrow.Author.Tests.{eqb-true}
use Rattle.leaves.specs.Reply.{Reply, answered, refused, refusal_number}
use Rattle.leaves.specs.declared.reply.Refusal.{Refusal}
use Rattle.leaves.specs.Tests.{first_of, outside}
use Rattle.leaves.specs.Norm.{norm, either, ranges_of}
use Rattle.leaves.specs.declared.norm.Ranges.{Ranges}
use Rattle.leaves.specs.Loop.{upto, along}
use Rattle.leaves.specs.Triangle.{columns}
use Rattle.reduce.specs.Reduction.{Reduction, start, reduced as reduced_at, measured_at}
use Rattle.reduce.specs.inner.Bench.{grid, under_way, Reduces}
use Rattle.reduce.specs.Reduced.{reduced_as, reduce_tests, filled_call}
use Rattle.reduce.proofs.Begins.{filled_columns, filled_residuals}
use Rattle.reduce.proofs.Lent.{fitting, call_refuses, call_works_out, reduces}

-- ---- the tests: the bench's length tells those of the columns and of the residuals in it
module _ (m n : ℕ) (b : List Float) where
  front_long : length b ≡ m * n + m → length (take (m * n) b) ≡ m * n
  front_long h = length-take-le (m * n) b (omega arith)

  back_long : length b ≡ m * n + m → length (drop (m * n) b) ≡ m
  back_long h = simp length-drop (omega arith)

  same_tests : (v d o : ℕ) → reduce_tests m n (m * n) m v d o (length b) ≡ reduce_tests m n (length (take (m * n) b)) (length (drop (m * n) b)) v d o (length b)
  same_tests v d o = by (eqb (length b) (m * n + m)) refl
    where
      by : (t : Bool) → eqb (length b) (m * n + m) ≡ t → reduce_tests m n (m * n) m v d o (length b) ≡ reduce_tests m n (length (take (m * n) b)) (length (drop (m * n) b)) v d o (length b)
      by true e = let l = eqb-true (length b) (m * n + m) e in rw (front_long l, back_long l)
      by false e = rw (e, and-false _, and-false _)

-- ---- the call of what stands in the bench
module _ (m n : ℕ) (v₀ d₀ : List Float) (o₀ : List ℕ) (b₀ : List Float) where
  pub filled_refuses : (r : Refusal) → refusal_number r ≡ first_of (reduce_tests m n (m * n) m (length v₀) (length d₀) (length o₀) (length b₀)) → reduced_as (refused (refusal_number r)) v₀ d₀ o₀ b₀ ≡ filled_call m n v₀ d₀ o₀ b₀
  unfolding filled_call
  filled_refuses r e = call_refuses m n (take (m * n) b₀) (drop (m * n) b₀) v₀ d₀ o₀ b₀ r (e ∙ ap first_of (same_tests m n b₀ (length v₀) (length d₀) (length o₀)))

  module _ (sizes : outside m n ≡ false) (lv : length v₀ ≡ n) (ld : length d₀ ≡ n) (lo : length o₀ ≡ n) (lb : length b₀ ≡ m * n + m) where
    filled_passed : first_of (reduce_tests m n (length (take (m * n) b₀)) (length (drop (m * n) b₀)) (length v₀) (length d₀) (length o₀) (length b₀)) ≡ 0
    filled_passed =
        fitting m n (length (take (m * n) b₀)) (length (drop (m * n) b₀)) (length v₀) (length d₀) (length o₀) (length b₀)
        (record { sizes = sizes; jac_long = front_long m n b₀ lb; res_long = back_long m n b₀ lb; norms_long = lv; diag_long = ld; order_long = lo; bench_long = lb })

    -- what the working leaves: begun as r, and reduced column by column
    pub filled_works_out : (v d w b : List Float) (o : List ℕ) (r : Reduction) (seen all : Ranges) → v ≡ map norm (take n (grid m n b₀)) → r ≡ start (take n (grid m n b₀)) (get_or (grid m n b₀) n [])
        → under_way m n b d w o ≡ upto (reduced_at n) (min m n) r → seen ≡ ranges_of (take n (grid m n b₀)) → all ≡ either seen (ranges_of (along (measured_at n) (reduced_at n) (min m n) r))
        → length b ≡ suc n * m → reduced_as (answered all) v d o b ≡ filled_call m n v₀ d₀ o₀ b₀
    unfolding filled_call
    filled_works_out v d w b o r seen all hv h₁ h₂ hs ha full =
        let cols = filled_columns m n b₀ in
        let from : start (take n (grid m n b₀)) (get_or (grid m n b₀) n []) ≡ start (columns m n (take (m * n) b₀)) (take m (drop (m * n) b₀)) = rw (cols, filled_residuals m n b₀) in
        call_works_out m n (take (m * n) b₀) (drop (m * n) b₀) v₀ d₀ o₀ b₀ v d w b o r seen all filled_passed (hv ∙ ap (map norm) cols) (h₁ ∙ from) h₂ (hs ∙ ap ranges_of cols) ha full

    -- for callers: what stands in the lent slices then
    pub filled_reduces : (v d b : List Float) (o : List ℕ) {r : Reply Ranges} → reduced_as r v d o b ≡ filled_call m n v₀ d₀ o₀ b₀ → Reduces m n (take (m * n) b₀) (drop (m * n) b₀) r v d o b
    unfolding filled_call
    filled_reduces v d b o e = reduces m n (take (m * n) b₀) (drop (m * n) b₀) v₀ v d₀ d o₀ o b₀ b sizes (front_long m n b₀ lb) (back_long m n b₀ lb) lv ld lo lb e
