-- What every inner function leaves of the elimination that it is lent.
use Rattle.std.specs.Prelude.{◌≡◌}
use Rattle.eliminate.specs.declared.elimination.Elimination.{Elimination}

-- of the same size, on the same slices
pub record Kept (e e' : Elimination) : Type 0 where
  pub size : e'.n ≡ e.n
  pub square : e'.upper_r.ghost_name ≡ e.upper_r.ghost_name
  pub right : e'.rhs.ghost_name ≡ e.rhs.ghost_name
