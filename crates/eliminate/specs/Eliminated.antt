-- 01, module 5 and 'Refusal numbers': the elimination as its callers see it, on numbers that are lent: sizes and slices, and no state.
use Rattle.std.specs.Prelude.{ℕ, ◌*◌, true, false, not, ◌&&◌, List, [], ◌∷◌, eqb, length, Float}
use Rattle.leaves.specs.Reply.{Reply, answered, refused}
use Rattle.leaves.specs.Tests.{Test, first_of, outside}
use Rattle.leaves.specs.Square.{uppers_of, joined}
use Rattle.eliminate.specs.Eliminate.{damping, heads, tails}

-- the answer, and every lent slice
pub record Eliminated : Type 0 where
  pub reply : Reply (Unit {0})
  pub square : List Float
  pub rhs : List Float
  pub ldiag : List Float

abbrev pub eliminated_as : Reply (Unit {0}) → List Float → List Float → List Float → Eliminated
eliminated_as a s b l = record { reply = a; square = s; rhs = b; ldiag = l }

-- 2 for n outside its range, where m is none of its sizes; 3 where a slice is not of its exact length
abbrev pub eliminate_tests : ℕ → ℕ → ℕ → ℕ → ℕ → List Test
eliminate_tests n square ds rhs ldiag =
    (outside 1 n, 2)
    ∷ (not (eqb square (n * n) && eqb ds n && eqb rhs n && eqb ldiag n), 3)
    ∷ []

-- The diagonal ds, in pivot order, eliminated against the square's R and the right side: R stays, L stands below it, its diagonal in ldiag.
unfoldable pub eliminate_call : ℕ → List Float → List Float → List Float → List Float → Eliminated
eliminate_call n ds square rhs ldiag =
    let c = first_of (eliminate_tests n (length square) (length ds) (length rhs) (length ldiag)) in
    let r = uppers_of n square in
    let l = damping ds r rhs in
    elim (eqb c 0) [
      | true ↦ eliminated_as (answered tt) (joined r (tails l.0)) l.1 (heads l.0)
      | false ↦ eliminated_as (refused c) square rhs ldiag
    ]
