-- 01, modules 2 and 3, 'Refusal numbers' and 'Lent room': R and the transformed residuals of a reduction, and factoring as its callers see it.
use Rattle.std.specs.Prelude.{ℕ, zero, suc, ◌-◌, ◌*◌, Bool, true, false, cond, ◌&&◌, ◌||◌, not, List, [], ◌∷◌, ◌++◌, map, eqb, ltb, length, take, drop, Float}
use Rattle.leaves.specs.Norm.{norm, ranges_of}
use Rattle.leaves.specs.declared.norm.Ranges.{Ranges}
use Rattle.leaves.specs.Loop.{count_from}
use Rattle.leaves.specs.Square.{zeros}
use Rattle.leaves.specs.Reply.{Reply, answered, refused}
use Rattle.leaves.specs.Triangle.{columns}
use Rattle.factor.specs.State.{empty, store_need, bench_need}
use Rattle.leaves.specs.Tests.{outside, Test, first_of, all_finite}
use Rattle.factor.specs.Room.{Room, lay}
use Rattle.reduce.specs.Reduction.{Reduction, reduction_of, measured}
use Rattle.factor.specs.declared.state.Held.TheVariants as held
use Rattle.factor.specs.declared.state.State.{State}
use Rattle.factor.specs.Outcome.{written}

-- R: column k has the first k of the reduced column and then the diagonal. R's rows from m on are 0.
unfoldable pub upper_column : ℕ → ℕ → List Float → Float → List Float
upper_column m k c d = cond (ltb k m) (take k c ++ (d ∷ [])) (c ++ zeros (suc k - m))

unfoldable pub uppers : ℕ → ℕ → List (List Float) → List Float → List (List Float)
uppers m k [] ds = []
uppers m k (c ∷ cs) [] = []
uppers m k (c ∷ cs) (d ∷ ds) = upper_column m k c d ∷ uppers m (suc k) cs ds

-- Places of qt_b from m on are 0.
unfoldable pub transformed : ℕ → List Float → List Float
transformed n b = take n (b ++ zeros n)

-- below the diagonal of an n×n square: +0
unfoldable pub no_lower : ℕ → List (List Float)
no_lower zero = []
no_lower (suc k) = zeros k ∷ no_lower k

pub record Factored : Type 0 where
  pub reply : Reply Ranges
  pub state : State
  pub store : List Float
  pub order : List ℕ
  pub bench : List Float

abbrev pub factored : Reply Ranges → State → List Float → List ℕ → List Float → Factored
factored a st s o b = record { reply = a; state = st; store = s; order = o; bench = b }

abbrev pub factor_tests : ℕ → ℕ → List Float → List Float → ℕ → ℕ → ℕ → List Test
factor_tests m n jacobian residuals store order bench =
    (outside m n, 2)
    ∷ (ltb (length jacobian) (m * n) || ltb (length residuals) m || ltb store (store_need n) || ltb order n || ltb bench (bench_need m n), 3)
    ∷ (not (all_finite (take (m * n) jacobian)), 6)
    ∷ (not (all_finite (take m residuals)), 6)
    ∷ []

-- After factoring: R on and above the diagonal, +0 below; l_diag and work +0.
unfoldable pub factored_room : ℕ → ℕ → List Float → Reduction → List Float → Room
factored_room m n norms f rest = record {
  upper = uppers m 0 f.cols f.diag;
  below = no_lower n;
  qtb = transformed n f.rhs;
  norms = norms;
  ldiag = zeros n;
  work = zeros n;
  rest = rest;
}

-- 8: R, a column norm or qt_b would hold a non-finite number
unfoldable pub all_finite_in : List (List Float) → Bool
all_finite_in [] = true
all_finite_in (c ∷ cs) = all_finite c && all_finite_in cs

unfoldable pub finite_room : Room → Bool
finite_room r = all_finite_in r.upper && all_finite r.qtb && all_finite r.norms

-- Answered with the flags of every norm worked out for it (02, #106).
unfoldable pub factor_worked : ℕ → ℕ → List Float → List Float → List Float → List ℕ → List Float → Factored
factor_worked m n jacobian residuals store order bench =
    let cols = columns m n jacobian in
    let f = reduction_of m n cols (take m residuals) in
    let r = factored_room m n (map norm cols) f (drop (store_need n) store) in
    let b = written (zeros (bench_need m n)) bench in
    elim (finite_room r) [
      | true ↦ factored (answered (ranges_of (measured m n cols (take m residuals)))) (record { m = m; n = n; held = held.Nothing }) (lay r) (f.order ++ drop n order) b
      | false ↦ factored (refused 8) empty (written (zeros (store_need n)) store) (count_from n 0 ++ drop n order) b
    ]

unfoldable pub factor_call : ℕ → ℕ → List Float → List Float → List Float → List ℕ → List Float → Factored
factor_call m n jacobian residuals store order bench =
    let c = first_of (factor_tests m n jacobian residuals (length store) (length order) (length bench)) in
    elim (eqb c 0) [ true ↦ factor_worked m n jacobian residuals store order bench | false ↦ factored (refused c) empty store order bench ]
