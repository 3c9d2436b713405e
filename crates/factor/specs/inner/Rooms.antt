-- What the inner functions need of a store, and of a room. No public contract cites it.
use Rattle.std.specs.Prelude.{ℕ, suc, ◌+◌, ◌-◌, ◌*◌, ◌≤◌, ◌<◌, ◌≡◌, Bool, true, false, cond, List, [], eqb, length, get_or, Float}
use Rattle.factor.specs.Room.{Room}
use Rattle.factor.specs.declared.state.Held.{Held}
use Rattle.factor.specs.declared.state.Held.TheVariants as held

-- the room with other numbers in part k of the four that follow the square
unfoldable pub with_part : ℕ → List Float → Room → Room
with_part k y r = record {
  upper = r.upper;
  below = r.below;
  qtb = cond (eqb k 0) y r.qtb;
  norms = cond (eqb k 1) y r.norms;
  ldiag = cond (eqb k 2) y r.ldiag;
  work = cond (eqb k 3) y r.work;
  rest = r.rest;
}

-- what each working needs of the store that is lent
pub record Sized (n : ℕ) (s : List Float) : Type 0 where
  pub small : n ≤ 16
  pub fits : n * n + 4 * n ≤ length s

-- whose solve's it is that is held: a damped one leaves L below the diagonal, a zero one R
abbrev pub held_as : Bool → Held
held_as true = held.Damped
held_as false = held.Zero

-- a room that a store of enough numbers can hold: the one that is loaded from it, and what the calls make of that
pub record Shaped (n : ℕ) (r : Room) : Type 0 where
  pub upper_wide : length r.upper ≡ n
  pub upper_tall : (k : ℕ) → k < n → length (get_or r.upper k []) ≡ suc k
  pub below_wide : length r.below ≡ n
  pub below_tall : (k : ℕ) → k < n → length (get_or r.below k []) ≡ n - suc k
  pub qtb_long : length r.qtb ≡ n
  pub norms_long : length r.norms ≡ n
  pub ldiag_long : length r.ldiag ≡ n
  pub work_long : length r.work ≡ n
