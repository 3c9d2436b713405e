-- 01, module 7: the solves of a search, between its tests and its end: workings on numbers that are lent, sizes and slices, and no state.
-- They are in pivot order and take no order list; tests 4 to 8 are the search's. A room is only read, but for the damped solve's lower part
-- and l_diag; what a search leaves of it is `empty_in`'s.
use Rattle.std.specs.Prelude.{ℕ, min, Bool, true, false, List, eqb, length, take, Float}
use Rattle.leaves.specs.Reply.{Reply, answered, refused}
use Rattle.eliminate.specs.Eliminate.{Rows, damping, heads, tails}
use Rattle.factor.specs.Room.{Room, load, lay, emptied}
use Rattle.factor.specs.Tests.{tested}
use Rattle.factor.specs.Solve.{zero_solved, non_singular_of}
use Rattle.factor.specs.Held.{held_solved, held_product_of}
use Rattle.factor.specs.Outcome.{Read, read, Left, left_in, written, written_if}
use Rattle.factor.specs.Solves.{damped_numbers}
use Rattle.factor.specs.declared.state.Held.TheVariants as held

-- the zero solve
unfoldable pub zero_in : ℕ → ℕ → List Float → List Float → Read
zero_in m n store w = let r = load n store in written_if (tested m n store (length w)) (zero_solved m r.upper r.qtb) w

-- L below the diagonal and in l_diag
unfoldable pub lowered : Rows → Room → Room
lowered l r = record {
  upper = r.upper;
  below = tails l.0;
  qtb = r.qtb;
  norms = r.norms;
  ldiag = heads l.0;
  work = r.work;
  rest = r.rest;
}

-- the damped solve, with the diagonal in pivot order too
unfoldable pub damped_in : ℕ → List Float → List Float → List Float → Left
damped_in n ds store w =
    let c = tested 1 n store (min (length ds) (length w)) in
    let r = load n store in
    let l = damping (take n ds) r.upper r.qtb in
    elim (eqb c 0) [ true ↦ left_in (answered tt) (lay (lowered l r)) (written (damped_numbers l) w) | false ↦ left_in (refused c) store w ]

-- the held solve of a zero solve and of a damped one; w is the right side, and then the answer
unfoldable pub held_zero_in : ℕ → List Float → List Float → Read
held_zero_in n store w = written_if (tested 1 n store (length w)) (held_solved held.Zero (take n w) (load n store)) w

unfoldable pub held_damped_in : ℕ → List Float → List Float → Read
held_damped_in n store w = written_if (tested 1 n store (length w)) (held_solved held.Damped (take n w) (load n store)) w

-- Rᵀ·qt_b
unfoldable pub product_in : ℕ → List Float → List Float → Read
product_in n store w = written_if (tested 1 n store (length w)) (held_product_of held.Zero (load n store)) w

-- whether A has rank n
unfoldable pub full_rank : ℕ → ℕ → List Float → Reply Bool
full_rank m n store =
    let c = tested m n store n in
    elim (eqb c 0) [ true ↦ answered (non_singular_of m n (load n store).upper) | false ↦ refused c ]

-- +0 below the diagonal, in l_diag and in work
unfoldable pub empty_in : ℕ → List Float → Read
empty_in n store =
    let c = tested 1 n store n in
    elim (eqb c 0) [ true ↦ read (answered tt) (lay (emptied (load n store))) | false ↦ read (refused c) store ]
