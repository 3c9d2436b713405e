use mathlib.Core.Path.{◌≡◌}
use Rattle.leaves.specs.Triangle.{columns, solve_down}
use Rattle.leaves.proofs.triangle.solve_down.Given as goal

abbrev pub invariant-loop-i : goal.invariant-loop-i
invariant-loop-i l = solve_down (columns l.apart l.n l.r) l.i l.x ≡ solve_down (columns l.apart l.n l.r) l.n l.initial.x
