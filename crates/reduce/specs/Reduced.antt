-- 01, modules 2 and 3 and 'Refusal numbers': the reduction as its callers see it, on numbers that are lent: sizes and slices, and no state.
use Rattle.std.specs.Prelude.{ℕ, ◌+◌, ◌*◌, true, false, not, ◌&&◌, List, [], ◌∷◌, ◌++◌, map, eqb, length, take, drop, Float}
use Rattle.leaves.specs.Reply.{Reply, answered, refused}
use Rattle.leaves.specs.Tests.{Test, first_of, outside}
use Rattle.leaves.specs.Norm.{norm, ranges_of}
use Rattle.leaves.specs.declared.norm.Ranges.{Ranges}
use Rattle.leaves.specs.Triangle.{columns}
use Rattle.reduce.specs.Reduction.{reduction_of, measured}

-- the answer, and every lent slice
pub record Reduced : Type 0 where
  pub reply : Reply Ranges
  pub norms : List Float
  pub diag : List Float
  pub order : List ℕ
  pub bench : List Float

abbrev pub reduced_as : Reply Ranges → List Float → List Float → List ℕ → List Float → Reduced
reduced_as a v d o b = record { reply = a; norms = v; diag = d; order = o; bench = b }

-- columns one after the other
unfoldable pub flat : List (List Float) → List Float
flat [] = []
flat (c ∷ cs) = c ++ flat cs

-- 2 for sizes outside their ranges; 3 where a slice is not of its exact length
abbrev pub reduce_tests : ℕ → ℕ → ℕ → ℕ → ℕ → ℕ → ℕ → ℕ → List Test
reduce_tests m n jacobian residuals norms diag order bench =
    (outside m n, 2)
    ∷ (not (eqb jacobian (m * n) && eqb residuals m && eqb norms n && eqb diag n && eqb order n && eqb bench (m * n + m)), 3)
    ∷ []

-- Answered with the flags of every norm worked out (02, #106). The column norms, R's diagonal and the order; the bench has the reduced columns, whose upper ends are R's, and then the residuals.
unfoldable pub reduce_call : ℕ → ℕ → List Float → List Float → List Float → List Float → List ℕ → List Float → Reduced
reduce_call m n jacobian residuals norms diag order bench =
    let c = first_of (reduce_tests m n (length jacobian) (length residuals) (length norms) (length diag) (length order) (length bench)) in
    let f = reduction_of m n (columns m n jacobian) residuals in
    elim (eqb c 0) [
      | true ↦ reduced_as (answered (ranges_of (measured m n (columns m n jacobian) residuals))) (map norm (columns m n jacobian)) f.diag f.order (flat f.cols ++ f.rhs)
      | false ↦ reduced_as (refused c) norms diag order bench
    ]

-- The same of what stands in the bench: the Jacobian's m·n and then the residuals (02, #108: factoring gathers the free columns there). A bench
-- that is not of its exact length leaves one of the two, or itself, at another length than its own, and so is refused 3.
unfoldable pub filled_call : ℕ → ℕ → List Float → List Float → List ℕ → List Float → Reduced
filled_call m n norms diag order bench = reduce_call m n (take (m * n) bench) (drop (m * n) bench) norms diag order bench
